use Rattle.log_theory.specs.LogText.{AreRefs}
use Rattle.line_tests.proofs.checked.refs_of.Given as goal

abbrev pub invariant-loop-number : goal.invariant-loop-number
invariant-loop-number l = AreRefs l.refs.items
