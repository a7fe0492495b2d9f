use Rattle.std.proofs.Common.{◌≤◌, drop, length}
use Rattle.graph_rows.specs.Held.{AreFirst}
use Rattle.graph_rows.proofs.edge_labels.put_listed.Given as goal

abbrev pub invariant-loop-i : goal.invariant-loop-i
invariant-loop-i l = record {
  within : l.i ≤ length l.listed;
  first : AreFirst (drop l.i l.listed) (drop l.i l.labels) l.found;
}

abbrev pub decreases-loop-i : goal.decreases-loop-i
decreases-loop-i l = l.i
