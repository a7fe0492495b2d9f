use Rattle.std.proofs.Common.{◌≡◌, ◌++◌, drop}
use Rattle.proof_trim.proofs.hints.packed.Given as goal

abbrev pub invariant-loop-constraint : goal.invariant-loop-constraint
invariant-loop-constraint l = l.out.items ++ drop l.constraint-index l.model ≡ l.model
