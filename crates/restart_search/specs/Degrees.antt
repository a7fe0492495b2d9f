-- Neighbours in either direction.

use Rattle.std.specs.Prelude.{ℕ, Bool, ◌||◌}
use Rattle.graph_theory.specs.Graph.{Graph, size}
use Rattle.graph_theory.specs.Neighbours.{count, is_neighbour, is_in_neighbour}

-- Vertex b is another vertex, and an edge leads from a to b or from b to a.
abbrev pub is_either_neighbour : Graph → ℕ → ℕ → Bool
is_either_neighbour g a b = is_neighbour g a b || is_in_neighbour g a b

-- The number of neighbours in either direction. (Without directions this is the degree.)
abbrev pub either_degree : Graph → ℕ → ℕ
either_degree g a = count (is_either_neighbour g a) (size g)
