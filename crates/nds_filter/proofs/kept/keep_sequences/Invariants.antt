use Rattle.std.proofs.Common.{◌≡◌, ℕ, ◌-◌, ◌*◌, ◌<◌, ◌≤◌, true, length}
use Rattle.graph_theory.specs.Neighbours.{IsKeptBy}
use Rattle.bit_rows.specs.BitRows.{has}
use Rattle.bit_rows.proofs.Sifted.{SiftedBelow}
use Rattle.nds_filter.specs.Sequences.{sequence_at}
use Rattle.nds_filter.proofs.kept.keep_sequences.Given as goal

abbrev pub invariant-loop-t : goal.invariant-loop-t
invariant-loop-t l = record {
  sifted : SiftedBelow (λ (v : ℕ). IsKeptBy l.sequence (sequence_at l.ts v)) l.fn.row l.row l.t;
  within : l.t ≤ 64 * length l.row;
  member : l.t < 64 * length l.row → has l.row l.t ≡ true;
}

abbrev pub decreases-loop-t : goal.decreases-loop-t
decreases-loop-t l = 64 * length l.row - l.t
