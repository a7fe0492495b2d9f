use Rattle.std.proofs.Common.{◌≡◌, ◌-◌, ◌*◌, ◌<◌, ◌≤◌, true, length}
use Rattle.graph_theory.specs.Embedding.{Allowed}
use Rattle.bit_rows.specs.BitRows.{has}
use Rattle.bit_rows.proofs.Sifted.{SiftedBelow}
use Rattle.initial_domains.proofs.keep_allowed.Given as goal

abbrev pub invariant-loop-t : goal.invariant-loop-t
invariant-loop-t l = record {
  sifted : SiftedBelow (Allowed l.q l.p) l.fn.row l.row l.t;
  within : l.t ≤ 64 * length l.row;
  member : l.t < 64 * length l.row → has l.row l.t ≡ true;
}

abbrev pub decreases-loop-t : goal.decreases-loop-t
decreases-loop-t l = 64 * length l.row - l.t
