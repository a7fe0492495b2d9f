use Rattle.log_theory.specs.LogText.{AreRefs}
use Rattle.proof_trim.proofs.hints.lines_known.Given as goal

abbrev pub invariant-loop-number : goal.invariant-loop-number
invariant-loop-number l = AreRefs l.refs.items
