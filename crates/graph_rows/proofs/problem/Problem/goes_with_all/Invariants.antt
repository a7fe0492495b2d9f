use Rattle.std.proofs.Common.{ℕ, ◌<◌, slice_index}
use Rattle.graph_theory.specs.Embedding.{Compatible}
use Rattle.graph_rows.proofs.problem.Problem.goes_with_all.Given as goal

abbrev pub invariant-loop-r : goal.invariant-loop-r
invariant-loop-r l = (k : ℕ) → k < l.r → Compatible l.self l.p l.t k (slice_index l.map k)
