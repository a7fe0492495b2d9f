use Rattle.std.proofs.Common.{◌≡◌, length}
use Rattle.graph_rows.proofs.LabelsBeside.{AreGathered}
use Rattle.graph_rows.proofs.edge_labels.gather.Given as goal

abbrev pub invariant-loop-a : goal.invariant-loop-a
invariant-loop-a l = record {
  long : length l.found.items ≡ length l.parts.neighbours;
  gathered : AreGathered l.a l.width l.words l.starts.items l.labels.items l.parts.neighbours l.parts.edge_labels;
}
