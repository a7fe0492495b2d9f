use Rattle.std.proofs.Common.{◌≡◌, ℕ, ◌-◌, ◌*◌, ◌<◌, ◌≤◌, true, length}
use Rattle.bit_rows.specs.BitRows.{has}
use Rattle.graph_rows.specs.Near.{IsNearInRow}
use Rattle.graph_rows.proofs.near.is_one_in_row.Given as goal

abbrev pub invariant-loop-c : goal.invariant-loop-c
invariant-loop-c l = record {
  none : (v : ℕ) → v < l.c → IsNearInRow l.g l.row l.p l.r v → ⊥;
  within : l.c ≤ 64 * length l.row;
  member : l.c < 64 * length l.row → has l.row l.c ≡ true;
}

abbrev pub decreases-loop-c : goal.decreases-loop-c
decreases-loop-c l = 64 * length l.row - l.c
