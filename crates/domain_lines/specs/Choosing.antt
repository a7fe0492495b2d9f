-- Ends of a vertex's edges, chosen by their degrees.

use Rattle.std.specs.Prelude.{ℕ, nat_lt, ◌==◌, Bool, true, false, not, ◌&&◌, List, is_some}
use Rattle.graph_theory.specs.Graph.{Graph, size, edge}
use Rattle.graph_theory.specs.Neighbours.{members, degree}

-- Which of them: those of a degree below a bound, or the others.
abbrev pub is_side : Bool → ℕ → ℕ → Bool
is_side true d e = nat_lt e d
is_side false d e = not (nat_lt e d)

-- An edge leads from a to the vertex, which is on this side of the bound d; and where they are to be apart it is not a.
abbrev pub is_chosen : Bool → Graph → ℕ → ℕ → Bool → ℕ → Bool
is_chosen apart g a d low b =
    (not (apart && (a == b)) && is_some (edge g a b)) && is_side low d (degree g b)

-- These vertices, rising.
abbrev pub chosen : Bool → Graph → ℕ → ℕ → Bool → List ℕ
chosen apart g a d low = members (is_chosen apart g a d low) (size g)
