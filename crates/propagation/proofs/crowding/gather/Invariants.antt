use Rattle.std.proofs.Common.{◌≡◌, ◌-◌, length}
use Rattle.bit_rows.specs.BitRows.{words_for}
use Rattle.propagation.specs.Crowding.{Gathers}
use Rattle.propagation.proofs.crowding.gather.Given as goal

abbrev pub invariant-loop-level : goal.invariant-loop-level
invariant-loop-level g l = record {
  gathers : Gathers l.d l.look.p l.look.t l.look.near.now l.look.images.now l.chosen l.union;
  row_long : length l.row ≡ words_for l.d.values;
  chosen_long : length l.chosen ≡ words_for l.d.vertices;
  union_long : length l.union ≡ words_for l.d.values;
}

abbrev pub decreases-loop-level : goal.decreases-loop-level
decreases-loop-level g l = l.many - l.level
