use Rattle.std.proofs.Common.{◌≡◌, ◌++◌, ℕ, List, length}
use Rattle.proof_checker.specs.Feeding.{verdict_with}
use Rattle.proof_checker.proofs.checker.Checker.take.Given as goal

abbrev pub invariant-loop-end : goal.invariant-loop-end
invariant-loop-end l = (rest : List ℕ) → verdict_with l.self (l.left ++ rest) ≡ verdict_with l.fn.self (l.piece ++ rest)

abbrev pub decreases-loop-end : goal.decreases-loop-end
decreases-loop-end l = length l.left
