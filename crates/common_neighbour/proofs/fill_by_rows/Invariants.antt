use Rattle.std.proofs.Common.{◌≡◌, ℕ, ◌<◌, get_or}
use Rattle.graph_theory.specs.Neighbours.{common}
use Rattle.graph_theory.specs.Reversed.{turned}
use Rattle.common_neighbour.proofs.fill_by_rows.Given as goal

abbrev pub invariant-loop-u : goal.invariant-loop-u
invariant-loop-u l = record {
  exact : (v : ℕ) → v < l.u → (l.t ≡ v → ⊥) → get_or l.counts v 0 ≡ common (turned l.direction l.graph) l.t v;
  itself : get_or l.counts l.t 0 ≡ get_or l.initial.counts l.t 0;
}
