use Rattle.std.proofs.Common.{arith}
use Rattle.test_support.proofs.Ranges.{ordered_more, order_of_all}
use Rattle.test_support.proofs.orders.is_order.Goals as goal

pub loop-x-init : goal.loop-x-init
loop-x-init c = λ k y below at. absurd (omega (arith, below))

pub loop-x-preserved : goal.loop-x-preserved
loop-x-preserved c = ordered_more c.args.vertices c.args.pairs.now c.loop-x.x-index (0, 0) (c.if-x-vertices.false, c.if-x-vertices-2.false, c.if-x.false) c.loop-x.invariant

pub returns : goal.returns
returns c = λ e. order_of_all c.args.vertices c.args.pairs.now c.loop-x.x-index (omega (arith, c.if-pairs-gt64.false)) (omega (arith, c.loop-x-test.false)) c.loop-x.invariant
