use Rattle.std.proofs.Common.{◌≡◌}
use Rattle.search_tests.proofs.watch_tests.hold.Given as goal

abbrev pub invariant-loop-act : goal.invariant-loop-act
invariant-loop-act l = record { vertices : l.domains.vertices ≡ l.watched.vertices; values : l.domains.values ≡ l.watched.values }
