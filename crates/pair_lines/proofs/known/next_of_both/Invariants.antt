use Rattle.std.proofs.Common.{◌≡◌, ◌<◌, ◌≤◌, ◌-◌, ℕ, true, false}
use Rattle.graph_theory.specs.Graph.{size}
use Rattle.graph_theory.specs.Neighbours.{is_neighbour}
use Rattle.graph_theory.specs.Reversed.{turned}
use Rattle.pair_line_theory.specs.Rows.{is_shared}
use Rattle.pair_lines.proofs.known.next_of_both.Given as goal

abbrev pub invariant-loop-m : goal.invariant-loop-m
invariant-loop-m l = record {
  low : l.from ≤ l.m;
  within : l.m ≤ size l.g;
  none : (v : ℕ) → l.from ≤ v → v < l.m → is_shared (turned l.direction l.g) l.a l.b v ≡ false;
  near : l.m < size l.g → is_neighbour (turned l.direction l.g) l.a l.m ≡ true;
}

abbrev pub decreases-loop-m : goal.decreases-loop-m
decreases-loop-m l = size l.g - l.m
