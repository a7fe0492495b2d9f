use Rattle.std.proofs.Common.{◌≡◌, ◌<◌}
use Rattle.kernel_bench.proofs.work.narrow_domains.Given as goal

abbrev pub invariant-loop-round : goal.invariant-loop-round
invariant-loop-round g l = record {
  vertices : l.domains.vertices ≡ l.shape.vertices;
  values : l.domains.values ≡ l.shape.values;
  vertex : l.p < l.shape.vertices;
}
