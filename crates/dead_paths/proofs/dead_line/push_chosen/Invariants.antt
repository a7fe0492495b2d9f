use Rattle.std.proofs.Common.{ℕ, List, drop, ◌≤◌, length}
use Rattle.log_theory.specs.LogText.{AreRefs}
use Rattle.log_growth.specs.Frames.{Frame, IsFrameOf, Goes}
use Rattle.dead_paths.specs.Making.{AreRowsNamed}
use Rattle.dead_theory.specs.Changes.{known_after}
use Rattle.dead_paths.specs.Choosing.{AreAt, chosen_in}
use Rattle.dead_paths.specs.Explaining.{Explained, Knowing}
use Rattle.journals.specs.Keeping.{KeepsRest}
use Rattle.dead_paths.proofs.dead_line.push_chosen.Given as goal

abbrev pub decreases-loop-left : goal.decreases-loop-left
decreases-loop-left g l = l.left

abbrev pub invariant-loop-left : goal.invariant-loop-left
invariant-loop-left g l = record {
  within : l.left ≤ length l.chosen;
  fits : AreRefs l.refs.items;
  rest : KeepsRest g.K.Keeper.owner g.K.Keeper.notes g.K.Keeper.spare l.initial.keeper l.keeper;
  known : (path : List (ℕ × ℕ)) → AreAt l.initial.at path → AreAt l.at (known_after path (chosen_in l.basis.numbers.now (drop l.left l.chosen)));
  goes : (w : Frame) (path : List (ℕ × ℕ)) → AreAt l.initial.at path → IsFrameOf l.basis.lines.now (g.K.Keeper.owner l.initial.keeper) w → Goes w (g.K.Keeper.kept l.initial.keeper) (g.K.Keeper.kept l.keeper)
      (Knowing (g.M.LineMaker.knows l.initial.maker l.basis.lines.now w) (AreRowsNamed l.basis.lines.now l.basis.rows.now w (g.N.RowNames.names l.basis.names.now)))
      (Knowing (g.M.LineMaker.knows l.maker l.basis.lines.now w) (Explained l.basis.lines.now l.basis.rows.now path w (g.N.RowNames.names l.basis.names.now) (chosen_in l.basis.numbers.now (drop l.left l.chosen)) l.refs.items));
}
