use Rattle.graph_theory.specs.Graph.{size}
use Rattle.recorder.specs.Recording.{changes_of}
use Rattle.dead_paths.specs.Rooms.{IsFit}
use Rattle.dead_paths.specs.Choosing.{values_of, chosen_in}
use Rattle.dead_paths.proofs.Walking.{Gone}
use Rattle.dead_paths.proofs.walk.choose.Given as goal

abbrev pub decreases-loop-left : goal.decreases-loop-left
decreases-loop-left l = l.left

abbrev pub invariant-loop-left : goal.invariant-loop-left
invariant-loop-left l = record {
  gone : Gone l.walk.q.now l.walk.rows.now l.walk.numbers.now l.walk.at.now (changes_of l.walk.numbers.now l.entries) l.entries l.left (chosen_in l.walk.numbers.now l.chosen.items) (values_of (size l.walk.q.now.target) l.initial.marked l.initial.needed)
      (values_of (size l.walk.q.now.target) l.marked l.needed);
  fit : IsFit (size l.walk.q.now.target) l.room;
}
