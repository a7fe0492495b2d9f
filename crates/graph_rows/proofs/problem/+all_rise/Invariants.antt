use Rattle.std.proofs.Common.{length}
use Rattle.graph_rows.proofs.problem.+all_rise.Given as goal

abbrev pub decreases-all_rise : goal.decreases-all_rise
decreases-all_rise l = length l.pairs.now
