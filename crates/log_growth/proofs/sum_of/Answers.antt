use Rattle.std.proofs.Common.{◌-◌, length, take, drop}
use Rattle.log_growth.proofs.Steps.{adding_more}
use Rattle.log_growth.proofs.sum_of.Goals as goal

pub loop-r-preserved : goal.loop-r-preserved
loop-r-preserved c =
    adding_more c.push.new.self.items c.loop-r.ops.items c.push-in-loop-r.new.self.items c.push-in-loop-r-2.new.self.items (take (length c.args.refs.now - 1) (drop 1 c.args.refs.now)) c.loop-r.r-index
    c.loop-r-test.true c.loop-r.invariant c.in_ok-push-2.ensures.items c.in_ok-push-3.ensures.items
