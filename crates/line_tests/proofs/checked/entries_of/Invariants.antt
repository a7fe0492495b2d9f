use Rattle.recorder.specs.Recording.{changes_of}
use Rattle.dead_theory.specs.Changes.{AreInProblem}
use Rattle.line_tests.proofs.checked.entries_of.Given as goal

abbrev pub invariant-loop-what : goal.invariant-loop-what
invariant-loop-what l = AreInProblem l.q (changes_of l.numbers l.entries.items)
