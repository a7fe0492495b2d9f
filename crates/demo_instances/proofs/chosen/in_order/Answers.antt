use Rattle.demo_instances.proofs.Exchanges.{range-more}
use Rattle.demo_instances.proofs.chosen.in_order.Goals as goal

pub loop-v-preserved : goal.loop-v-preserved
loop-v-preserved c = range-more c.loop-v.v _ _ c.loop-v.invariant c.in_ok-push.ensures.items
