use Rattle.std.proofs.Common.{◌≡◌, length}
use Rattle.kernel_bench.proofs.rows.Rows.of.Given as goal

abbrev pub invariant-loop-place : goal.invariant-loop-place
invariant-loop-place l = length l.words.items ≡ l._place
