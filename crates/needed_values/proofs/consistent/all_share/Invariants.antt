use Rattle.std.proofs.Common.{◌≡◌, ◌-◌, ◌*◌, ◌<◌, ◌≤◌, true, length}
use Rattle.bit_rows.specs.BitRows.{has}
use Rattle.graph_theory.specs.Reversed.{turned}
use Rattle.needed_values.proofs.Agreeing.{AllBelow}
use Rattle.needed_values.proofs.consistent.all_share.Given as goal

abbrev pub invariant-loop-u : goal.invariant-loop-u
invariant-loop-u l = record {
  all : AllBelow (turned l.fn.direction l.target) l.t l.shared l.u l.row;
  within : l.u ≤ 64 * length l.row;
  member : l.u < 64 * length l.row → has l.row l.u ≡ true;
}

abbrev pub decreases-loop-u : goal.decreases-loop-u
decreases-loop-u l = 64 * length l.row - l.u
