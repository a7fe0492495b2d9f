use Rattle.std.proofs.Common.{◌≡◌, ℕ, ◌-◌, ◌*◌, ◌<◌, ◌≤◌, true, length, get_or}
use Rattle.graph_theory.specs.Graph.{size}
use Rattle.graph_theory.specs.Neighbours.{count}
use Rattle.graph_theory.specs.Reversed.{turned}
use Rattle.bit_rows.specs.BitRows.{has}
use Rattle.common_neighbour.proofs.Walked.{of_both}
use Rattle.common_neighbour.proofs.walk.Given as goal

abbrev pub invariant-loop-c : goal.invariant-loop-c
invariant-loop-c l = record {
  counted : (u : ℕ) → u < size (turned l.direction l.graph) → get_or l.counts u 0 ≡ count (of_both (turned l.direction l.graph) l.t u) l.c;
  within : l.c ≤ 64 * length l.near;
  member : l.c < 64 * length l.near → has l.near l.c ≡ true;
}

abbrev pub decreases-loop-c : goal.decreases-loop-c
decreases-loop-c l = 64 * length l.near - l.c
