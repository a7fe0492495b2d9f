use Rattle.test_support.proofs.Ranges.{AreOrdered}
use Rattle.test_support.proofs.orders.is_order.Given as goal

abbrev pub invariant-loop-x : goal.invariant-loop-x
invariant-loop-x l = AreOrdered l.vertices l.pairs l.x-index
