use Rattle.std.proofs.Common.{◌≡◌, ◌-◌, ◌*◌, ◌<◌, ◌≤◌, true, length}
use Rattle.bit_rows.specs.BitRows.{has}
use Rattle.needed_values.proofs.Agreeing.{Tested}
use Rattle.needed_values.proofs.consistent.keep_tested.Given as goal

abbrev pub invariant-loop-u : goal.invariant-loop-u
invariant-loop-u l = record {
  tested : Tested l.q l.p l.t l.r l.u l.fn.row l.row;
  long : length l.row ≡ length l.fn.row;
  within : l.u ≤ 64 * length l.row;
  member : l.u < 64 * length l.row → has l.row l.u ≡ true;
}

abbrev pub decreases-loop-u : goal.decreases-loop-u
decreases-loop-u l = 64 * length l.row - l.u
