-- Pairs by number: the pair of a row and a place in it, rows one after another.

use Rattle.std.specs.Prelude.{◌≡◌, ℕ, ◌*◌, ◌/◌, ◌%◌, ◌≤◌, Bool, List, [], length}
use Rattle.graph_theory.specs.Graph.{Graph, size}
use Rattle.graph_theory.specs.Embedding.{Problem}
use Rattle.graph_theory.specs.Blocks.{has_near}
use Rattle.graph_theory.specs.Neighbours.{members}
use Rattle.graph_theory.specs.declared.embedding.Maps.{Maps}
use Rattle.graph_theory.specs.declared.embedding.Maps.TheVariants.{Injective, Local, Any}
use Rattle.encoding_theory.specs.Pairs.{is_edge_pair, is_non_edge_pair}
use Rattle.encoding_theory.specs.Encoding.{is_refused}

-- The test of a pair, at its number: rows are so wide.
abbrev pub by_number : (ℕ → ℕ → Bool) → ℕ → ℕ → Bool
by_number test width i = test (i / width) (i % width)

-- The numbers of the refused pairs of a pattern vertex and a target vertex, rising.
abbrev pub refused_numbers : Problem → List ℕ
refused_numbers q = members (by_number (is_refused q) (size q.target))
    (size q.pattern * size q.target)

-- The numbers of the pairs of pattern vertices with an edge, rising.
abbrev pub edge_numbers : Problem → List ℕ
edge_numbers q = members (by_number (is_edge_pair q) (size q.pattern))
    (size q.pattern * size q.pattern)

-- The numbers of the pairs without one, in the induced kind.
abbrev pub non_edge_numbers : Problem → List ℕ
non_edge_numbers q = members (by_number (is_non_edge_pair q) (size q.pattern))
    (size q.pattern * size q.pattern)

-- The centres of blocks, rising: by local maps the vertices around which there is one.
abbrev pub centres_in : Maps → Graph → List ℕ
centres_in Injective g = []
centres_in Local g = members (has_near g) (size g)
centres_in Any g = []

abbrev pub centres : Problem → List ℕ
centres q = centres_in q.maps q.pattern

-- How many blocks there are, with so many centres: by injective maps that of all vertices.
abbrev pub block_count_in : Maps → ℕ → ℕ
block_count_in Injective n = 1
block_count_in Local n = n
block_count_in Any n = 0

abbrev pub block_count : Problem → ℕ
block_count q = block_count_in q.maps (length (centres q))

-- The four lists of a problem.
pub record AreNumbered (q : Problem) (refused edges non_edges around : List ℕ) : Type 0 where
  pub refused_are : refused ≡ refused_numbers q
  pub edges_are : edges ≡ edge_numbers q
  pub non_edges_are : non_edges ≡ non_edge_numbers q
  pub centres_are : around ≡ centres q

-- What is kept of a problem's encoding: its sizes, within their limits, and the four lists.
pub record IsKept (q : Problem) (vertices targets : ℕ)
    (refused edges non_edges around : List ℕ) : Type 0 where
  pub vertices_are : vertices ≡ size q.pattern
  pub targets_are : targets ≡ size q.target
  pub vertices_few : vertices ≤ 1024
  pub targets_few : targets ≤ 8192
  pub numbered : AreNumbered q refused edges non_edges around
