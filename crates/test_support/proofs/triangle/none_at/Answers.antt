-- One second image more that leads to no embedding.
use Rattle.std.proofs.Common.{◌<◌, [], ◌∷◌, below_more, refl, ap, arith}
use Rattle.graph_theory.specs.Graph.{size}
use Rattle.graph_theory.specs.Embedding.{Embeds}
use Rattle.test_support.proofs.triangle.none_at.Goals as goal

pub loop-b-preserved : goal.loop-b-preserved
loop-b-preserved c = λ b k h. below_more (λ b. k < size c.args.q.now.target → Embeds c.args.q.now (c.args.a ∷ b ∷ k ∷ []) → ⊥) _ (λ b h. c.loop-b.invariant b k h) (c.if-not-none_with.ensures refl k) b h

pub returns : goal.returns
returns c = λ e b k h. c.loop-b.invariant b k (omega (arith, ap size c.target.ensures.target))
