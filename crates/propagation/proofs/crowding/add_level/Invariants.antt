use Rattle.std.proofs.Common.{◌≡◌, ◌-◌, ◌*◌, ◌<◌, ◌≤◌, true, length}
use Rattle.bit_rows.specs.BitRows.{has, words_for}
use Rattle.propagation.specs.Crowding.{Gathers}
use Rattle.propagation.proofs.crowding.add_level.Given as goal

abbrev pub invariant-loop-r : goal.invariant-loop-r
invariant-loop-r g l = record {
  gathers : Gathers l.d l.look.p l.look.t l.look.near.now l.look.images.now l.fn.chosen l.fn.union → Gathers l.d l.look.p l.look.t l.look.near.now l.look.images.now l.chosen l.union;
  row_long : length l.row ≡ words_for l.d.values;
  chosen_long : length l.chosen ≡ words_for l.d.vertices;
  union_long : length l.union ≡ words_for l.d.values;
  within : l.r ≤ 64 * length l.near;
  member : l.r < 64 * length l.near → has l.near l.r ≡ true;
}

abbrev pub decreases-loop-r : goal.decreases-loop-r
decreases-loop-r g l = 64 * length l.near - l.r
