-- One third image more that does not embed.
use Rattle.std.proofs.Common.{below_more, ap, arith}
use Rattle.graph_theory.specs.Graph.{size}
use Rattle.test_support.proofs.triangle.none_with.Goals as goal

pub loop-c-preserved : goal.loop-c-preserved
loop-c-preserved c = below_more _ _ c.loop-c.invariant (λ e. (let no = c.if-is_embedding.ensures.1 e in cc))

pub returns : goal.returns
returns c = λ e k h. c.loop-c.invariant k (omega (arith, ap size c.target.ensures.target))
