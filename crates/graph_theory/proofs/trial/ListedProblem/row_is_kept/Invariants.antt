use Rattle.std.proofs.Common.{ℕ, ◌<◌}
use Rattle.graph_theory.specs.PlainSteps.{PairIsKept}
use Rattle.graph_theory.proofs.trial.ListedProblem.row_is_kept.Given as goal

abbrev pub invariant-loop-r : goal.invariant-loop-r
invariant-loop-r l = (k : ℕ) → k < l.r → PairIsKept l.self l.map l.p k
