use Rattle.std.proofs.Common.{◌≡◌, ℕ, nat_lt, ◌&&◌, not, ◌==◌}
use Rattle.graph_theory.specs.Neighbours.{common}
use Rattle.graph_theory.specs.Reversed.{turned}
use Rattle.bit_rows.specs.BitRows.{has}
use Rattle.common_neighbour.proofs.Counts.fill_at_least.Given as goal

abbrev pub invariant-loop-u : goal.invariant-loop-u
invariant-loop-u l = (v : ℕ) → has l.row v ≡ (nat_lt v l.u && (not (v == l.t) && not (nat_lt (common (turned l.direction l.graph) l.t v) l.c)))
