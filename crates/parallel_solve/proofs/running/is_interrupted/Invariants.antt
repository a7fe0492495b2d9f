use Rattle.std.specs.Prelude.{take, All}
use Rattle.parallel_solve.specs.Teaming.{IsInterrupted}
use Rattle.parallel_solve.proofs.running.is_interrupted.Given as goal

abbrev pub invariant-loop-place : goal.invariant-loop-place
invariant-loop-place g l = All (λ d. IsInterrupted d.outcome → ⊥) (take l.place l.done)
