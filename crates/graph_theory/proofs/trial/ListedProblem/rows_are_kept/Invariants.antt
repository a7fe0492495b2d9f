use Rattle.std.proofs.Common.{ℕ, ◌<◌}
use Rattle.graph_theory.specs.PlainSteps.{RowIsKept}
use Rattle.graph_theory.proofs.trial.ListedProblem.rows_are_kept.Given as goal

abbrev pub invariant-loop-p : goal.invariant-loop-p
invariant-loop-p l = (k : ℕ) → k < l.p → RowIsKept l.self l.map k
