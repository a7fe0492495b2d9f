use Rattle.std.proofs.Common.{◌≡◌}
use Rattle.kernel_bench.proofs.work.prune_domains.Given as goal

abbrev pub invariant-loop-round : goal.invariant-loop-round
invariant-loop-round g l = record {
  vertices : l.scratch.vertices ≡ l.domains.vertices;
  values : l.scratch.values ≡ l.domains.values;
}
