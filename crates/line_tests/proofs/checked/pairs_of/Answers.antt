use Rattle.std.proofs.Common.{rules}
use Rattle.line_tests.proofs.Ranges.{range_pushed}
use Rattle.line_tests.proofs.checked.pairs_of.Goals as goal

pub loop-x-preserved : goal.loop-x-preserved
loop-x-preserved c = range_pushed c.args.q.now c.loop-x.pairs.items c.push.new.self.items _ c.in_ok-push.ensures.items c.loop-x.invariant (search rules) (search rules)
