-- None of the third images so far embeds.
use Rattle.std.proofs.Common.{ℕ, ◌<◌, [], ◌∷◌}
use Rattle.graph_theory.specs.Embedding.{Embeds}
use Rattle.test_support.proofs.triangle.none_with.Given as goal

abbrev pub invariant-loop-c : goal.invariant-loop-c
invariant-loop-c l = (c : ℕ) → c < l.c → Embeds l.q (l.a ∷ l.b ∷ c ∷ []) → ⊥
