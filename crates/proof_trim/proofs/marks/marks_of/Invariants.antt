use Rattle.std.proofs.Common.{◌≡◌, ◌≤◌, List, length}
use Rattle.log_theory.specs.declared.step.Step.{Step}
use Rattle.proof_trim.specs.Places.{place_in}
use Rattle.proof_trim.specs.Lined.{AreAt}
use Rattle.proof_trim.specs.Marks.{IsMarked}
use Rattle.proof_trim.proofs.marks.marks_of.Given as goal

abbrev pub invariant-loop-at : goal.invariant-loop-at
invariant-loop-at l = record {
  marked : (made : List Step) → AreAt l.lines.text.now l.lines.places.items made → IsMarked (place_in l.index) made l.last l.at l.marks.items;
  long : length l.marks.items ≡ length l.lines.places.items;
  within : l.at ≤ length l.lines.places.items;
}

abbrev pub decreases-loop-at : goal.decreases-loop-at
decreases-loop-at l = l.at
