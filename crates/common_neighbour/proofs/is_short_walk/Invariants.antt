use Rattle.std.proofs.Common.{◌≡◌, ◌-◌, ◌*◌, ◌<◌, ◌≤◌, true, length}
use Rattle.bit_rows.specs.BitRows.{has}
use Rattle.common_neighbour.proofs.is_short_walk.Given as goal

abbrev pub invariant-loop-c : goal.invariant-loop-c
invariant-loop-c l = record {
  few : l.steps ≤ 65535 * l.c;
  within : l.c ≤ 64 * length l.near;
  member : l.c < 64 * length l.near → has l.near l.c ≡ true;
}

abbrev pub decreases-loop-c : goal.decreases-loop-c
decreases-loop-c l = 64 * length l.near - l.c
