-- A worked problem: a triangle into a four-cycle, which has no embedding.

use Rattle.std.specs.Prelude.{ℕ, ◌==◌, if◌then◌else◌, true, false, [], ◌∷◌, Some, None}
use Rattle.graph_theory.specs.Lad.{Vertex}
use Rattle.graph_theory.specs.Graph.{Graph, graph_of}
use Rattle.graph_theory.specs.Neighbours.{members}
use Rattle.graph_theory.specs.Embedding.{Problem, injective_problem}
use Rattle.search_theory.specs.Account.{Account}

-- A vertex of label 0 with two neighbours.
abbrev pub between : ℕ → ℕ → Vertex
between a b = record { label = 0; listed = (a, 0) ∷ (b, 0) ∷ [] }

-- Three vertices, each two of which are neighbours.
abbrev pub triangle : Graph
triangle = graph_of (between 1 2 ∷ between 0 2 ∷ between 0 1 ∷ [])

-- Four vertices in a ring.
abbrev pub four_cycle : Graph
four_cycle = graph_of (between 1 3 ∷ between 0 2 ∷ between 1 3 ∷ between 0 2 ∷ [])

-- Whether a copy of the triangle is in the four-cycle.
abbrev pub triangle_into_four_cycle : Problem
triangle_into_four_cycle = injective_problem triangle four_cycle false

-- The account of that problem at its root, after the guesses of the first n values for vertex 0 have failed.
abbrev pub after_guesses : ℕ → ℕ → Account
after_guesses budget n = record {
  pattern = 3;
  target = 4;
  budget = budget;
  steps = [];
  vertex = (if n == 0 then None else Some 0);
  refuted = members (λ u. true) n;
  count = n;
  run = 1;
  all = n;
}
