use Rattle.std.proofs.Common.{ℕ, ◌<◌}
use Rattle.graph_rows.specs.Fitting.{Fits}
use Rattle.graph_rows.proofs.problem.Problem.is_embedding.Given as goal

abbrev pub invariant-loop-p : goal.invariant-loop-p
invariant-loop-p l = (k : ℕ) → k < l.p → Fits l.self l.map k
