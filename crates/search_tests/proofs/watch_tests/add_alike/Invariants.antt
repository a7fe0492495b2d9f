use Rattle.std.proofs.Common.{◌≡◌}
use Rattle.search_tests.proofs.watch_tests.add_alike.Given as goal

abbrev pub invariant-loop-name : goal.invariant-loop-name
invariant-loop-name l = record {
  vertices : l.watched.vertices ≡ 3;
  values : l.watched.values ≡ 2;
}
