use Rattle.std.proofs.Common.{◌≡◌, ◌-◌, ◌*◌, ◌<◌, ◌≤◌, true, length}
use Rattle.bit_rows.specs.BitRows.{has}
use Rattle.propagation.specs.Edges.{LacksBefore}
use Rattle.propagation.proofs.edges.has_support.Given as goal

abbrev pub invariant-loop-w : goal.invariant-loop-w
invariant-loop-w g l = record {
  lacks : LacksBefore l.target l.d l.link.direction l.link.p l.u l.label l.w;
  within : l.w ≤ 64 * length l.near;
  member : l.w < 64 * length l.near → has l.near l.w ≡ true;
}

abbrev pub decreases-loop-w : goal.decreases-loop-w
decreases-loop-w g l = 64 * length l.near - l.w
