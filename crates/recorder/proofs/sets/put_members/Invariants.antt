use Rattle.std.proofs.Common.{◌≡◌, ◌-◌, ◌*◌, ◌<◌, ◌≤◌, true, ◌++◌, length}
use Rattle.bit_rows.specs.BitRows.{has}
use Rattle.graph_theory.specs.Neighbours.{members}
use Rattle.recorder.proofs.sets.put_members.Given as goal

abbrev pub invariant-loop-t : goal.invariant-loop-t
invariant-loop-t l = record {
  are : l.numbers.items ≡ l.fn.numbers.items ++ members (has l.row) l.t;
  within : l.t ≤ 64 * length l.row;
  member : l.t < 64 * length l.row → has l.row l.t ≡ true;
}

abbrev pub decreases-loop-t : goal.decreases-loop-t
decreases-loop-t l = 64 * length l.row - l.t
