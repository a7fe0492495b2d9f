-- None of the first images so far leads to an embedding.
use Rattle.std.proofs.Common.{ℕ, ◌<◌, [], ◌∷◌}
use Rattle.graph_theory.specs.Graph.{size}
use Rattle.graph_theory.specs.Embedding.{Embeds}
use Rattle.test_support.proofs.triangle.has_none.Given as goal

abbrev pub invariant-loop-a : goal.invariant-loop-a
invariant-loop-a l = (a b c : ℕ) → a < l.a → b < size l.q.target → c < size l.q.target → Embeds l.q (a ∷ b ∷ c ∷ []) → ⊥
