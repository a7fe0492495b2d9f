-- What the degrees of a vertex and of its neighbours ask of a value.

use Rattle.std.specs.Prelude.{ℕ, ◌≤◌}
use Rattle.graph_theory.specs.Embedding.{Problem}
use Rattle.graph_theory.specs.Neighbours.{degree, sequence, IsKeptBy}
use Rattle.graph_theory.specs.Asked.{asked_degree, room, asked_sequence}
use Rattle.graph_theory.specs.Reversed.{reversed, reversed_problem}

-- In neither direction t has too little room for the neighbours of p, or neighbours of too small degrees.
pub record KeepsDegrees (q : Problem) (p t : ℕ) : Type 0 where
  pub in_degree : asked_degree (reversed_problem q) p ≤ room (reversed_problem q) t
  pub degree : asked_degree q p ≤ room q t
  pub in_sequence : IsKeptBy (asked_sequence (reversed_problem q) p) (sequence
      (reversed q.target) t)
  pub sequence : IsKeptBy (asked_sequence q p) (sequence q.target t)

-- In neither direction the degree of t or its neighbours' degrees are less than those of p. (By injective maps this is what is asked.)
pub record KeepsNeighbours (q : Problem) (p t : ℕ) : Type 0 where
  pub in_degree : degree (reversed q.pattern) p ≤ degree (reversed q.target) t
  pub degree : degree q.pattern p ≤ degree q.target t
  pub in_sequence : IsKeptBy (sequence (reversed q.pattern) p) (sequence (reversed q.target) t)
  pub sequence : IsKeptBy (sequence q.pattern p) (sequence q.target t)

-- Of these its neighbours' degrees alone.
pub record KeepsSequences (q : Problem) (p t : ℕ) : Type 0 where
  pub in_sequence : IsKeptBy (sequence (reversed q.pattern) p) (sequence (reversed q.target) t)
  pub sequence : IsKeptBy (sequence q.pattern p) (sequence q.target t)
