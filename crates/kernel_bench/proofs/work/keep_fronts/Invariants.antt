use Rattle.std.proofs.Common.{◌≡◌}
use Rattle.kernel_bench.proofs.work.keep_fronts.Given as goal

abbrev pub invariant-loop-p : goal.invariant-loop-p
invariant-loop-p g l = record {
  vertices : l.d.vertices ≡ l.fn.d.vertices;
  values : l.d.values ≡ l.fn.d.values;
}
