use Rattle.propagation.proofs.Nearness.{near_pushed}
use Rattle.propagation.proofs.count_room.list_near.Goals as goal

pub loop-p-preserved : goal.loop-p-preserved
loop-p-preserved c = near_pushed c.args.g.now c.args.c c.loop-p.p c.loop-p.list.items c.push_near.new.list.items c.loop-p.invariant c.in_ok-push_near.ensures
