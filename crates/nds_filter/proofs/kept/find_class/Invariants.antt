use Rattle.std.proofs.Common.{◌≤◌, length}
use Rattle.nds_filter.proofs.kept.find_class.Given as goal

abbrev pub invariant-loop-k : goal.invariant-loop-k
invariant-loop-k l = l.k ≤ length l.firsts
