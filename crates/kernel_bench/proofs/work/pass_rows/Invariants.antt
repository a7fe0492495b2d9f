use Rattle.std.proofs.Common.{◌+◌, ◌≤◌, length}
use Rattle.kernel_bench.proofs.work.pass_rows.Given as goal

abbrev pub invariant-loop-round : goal.invariant-loop-round
invariant-loop-round g l = l.at + l.words ≤ length l.table.items
