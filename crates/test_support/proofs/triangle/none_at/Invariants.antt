-- None of the second images so far leads to an embedding.
use Rattle.std.proofs.Common.{ℕ, ◌<◌, [], ◌∷◌}
use Rattle.graph_theory.specs.Graph.{size}
use Rattle.graph_theory.specs.Embedding.{Embeds}
use Rattle.test_support.proofs.triangle.none_at.Given as goal

abbrev pub invariant-loop-b : goal.invariant-loop-b
invariant-loop-b l = (b c : ℕ) → b < l.b → c < size l.q.target → Embeds l.q (l.a ∷ b ∷ c ∷ []) → ⊥
