use Rattle.std.proofs.Common.{take}
use Rattle.proof_trim.specs.Places.{place_in}
use Rattle.proof_trim.specs.Marks.{MarksRefs}
use Rattle.proof_trim.proofs.marks.mark_refs.Given as goal

abbrev pub invariant-loop-at : goal.invariant-loop-at
invariant-loop-at l = MarksRefs (place_in l.index) (take l.at-index l.refs) l.limit l.mark l.initial.marks.items l.marks.items
