use Rattle.std.proofs.Common.{rules}
use Rattle.line_tests.proofs.Ranges.{changes_pushed}
use Rattle.line_tests.proofs.checked.entries_of.Goals as goal

pub loop-what-preserved : goal.loop-what-preserved
loop-what-preserved c = changes_pushed c.args.q.now c.args.numbers.now c.loop-what.entries.items c.push.new.self.items _ c.in_ok-push.ensures.items c.loop-what.invariant (search rules)
