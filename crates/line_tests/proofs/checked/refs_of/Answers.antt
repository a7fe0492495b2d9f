use Rattle.std.proofs.Common.{rules, arith}
use Rattle.line_tests.proofs.Ranges.{refs_pushed}
use Rattle.line_tests.proofs.checked.refs_of.Goals as goal

pub loop-number-preserved : goal.loop-number-preserved
loop-number-preserved c = refs_pushed c.loop-number.refs.items c.push.new.self.items _ c.in_ok-push.ensures.items c.loop-number.invariant (record { owner_fits = omega arith; from_one = search rules; number_fits = search rules })
