use Rattle.std.proofs.Common.{◌≡◌, length}
use Rattle.graph_theory.specs.Graph.{size}
use Rattle.needed_values.specs.Sharers.{AreSharers}
use Rattle.needed_values.proofs.sharers.rows_of.Given as goal

abbrev pub invariant-loop-t : goal.invariant-loop-t
invariant-loop-t l = record {
  rows : AreSharers l.target l.rows.items;
  long : length l.counts.items ≡ size l.target;
}
