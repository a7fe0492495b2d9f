use Rattle.std.proofs.Common.{◌≡◌, ◌-◌, ◌*◌, ◌<◌, ◌≤◌, true, length}
use Rattle.bit_rows.specs.BitRows.{has}
use Rattle.bit_rows.proofs.Filled.{FilledBelow}
use Rattle.pair_supports.specs.Kinds.{Joins}
use Rattle.pair_supports.proofs.kinds.fill_near.Given as goal

abbrev pub invariant-loop-u : goal.invariant-loop-u
invariant-loop-u l = record {
  filled : FilledBelow (Joins l.q l.kind l.t) l.u l.row;
  within : l.u ≤ 64 * length l.near;
  member : l.u < 64 * length l.near → has l.near l.u ≡ true;
}

abbrev pub decreases-loop-u : goal.decreases-loop-u
decreases-loop-u l = 64 * length l.near - l.u
