use Rattle.std.proofs.Common.{◌≡◌, ◌-◌, ◌*◌, ◌<◌, ◌≤◌, true, length}
use Rattle.bit_rows.specs.BitRows.{has}
use Rattle.propagation.proofs.crowding.next_level.Given as goal

abbrev pub invariant-loop-r : goal.invariant-loop-r
invariant-loop-r l = record {
  above : l.level < l.next;
  within : l.r ≤ 64 * length l.near;
  member : l.r < 64 * length l.near → has l.near l.r ≡ true;
}

abbrev pub decreases-loop-r : goal.decreases-loop-r
decreases-loop-r l = 64 * length l.near - l.r
