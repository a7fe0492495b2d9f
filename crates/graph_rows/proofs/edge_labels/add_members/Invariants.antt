use Rattle.std.proofs.Common.{◌≡◌, ℕ, ◌-◌, ◌*◌, ◌<◌, ◌≤◌, ◌++◌, map, true, length, get_or}
use Rattle.graph_theory.specs.Neighbours.{members}
use Rattle.bit_rows.specs.BitRows.{has}
use Rattle.graph_rows.proofs.edge_labels.add_members.Given as goal

abbrev pub invariant-loop-v : goal.invariant-loop-v
invariant-loop-v l = record {
  added : l.labels.items ≡ l.fn.labels.items ++ map (λ (v : ℕ). get_or l.found v 0) (members (has l.row) l.v);
  within : l.v ≤ 64 * length l.row;
  member : l.v < 64 * length l.row → has l.row l.v ≡ true;
}

abbrev pub decreases-loop-v : goal.decreases-loop-v
decreases-loop-v l = 64 * length l.row - l.v
