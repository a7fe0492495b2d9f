-- What a vertex by itself, and a pair of vertices, may be given: the constraints of a problem with those that they imply.

use Rattle.std.specs.Prelude.{ℕ, ◌≤◌}
use Rattle.graph_theory.specs.Embedding.{Problem, Allowed, Compatible}
use Rattle.graph_theory.specs.Neighbours.{common, sequence, IsKeptBy}
use Rattle.graph_theory.specs.Asked.{asked_degree, room, asked_sequence, asked_shared}
use Rattle.graph_theory.specs.Reversed.{reversed, reversed_problem}

-- The value t is in the first domain of p: it has p's label, its loop is allowed, and in neither direction it has too little room, or neighbours of
-- too small degrees.
pub record IsFirstValue (q : Problem) (p t : ℕ) : Type 0 where
  pub alone : Allowed q p t
  pub in_degree : asked_degree (reversed_problem q) p ≤ room (reversed_problem q) t
  pub degree : asked_degree q p ≤ room q t
  pub in_sequence : IsKeptBy (asked_sequence (reversed_problem q) p) (sequence
      (reversed q.target) t)
  pub sequence : IsKeptBy (asked_sequence q p) (sequence q.target t)

-- Vertex p at t and another vertex r at u go together, and in each direction t and u share as many neighbours as is asked of p and r.
pub record AreConsistent (q : Problem) (p t r u : ℕ) : Type 0 where
  pub pair : Compatible q p t r u
  pub shared : asked_shared q p r ≤ common q.target t u
  pub in_shared : asked_shared (reversed_problem q) p r ≤ common (reversed q.target) t u
