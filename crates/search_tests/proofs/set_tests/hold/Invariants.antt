use Rattle.std.proofs.Common.{◌≡◌}
use Rattle.search_tests.proofs.set_tests.hold.Given as goal

abbrev pub invariant-loop-act : goal.invariant-loop-act
invariant-loop-act l = l.set.count ≡ 4
