-- The graph with its edges turned round: what is said of a vertex's neighbours is said of its in-neighbours there.

use Rattle.std.specs.Prelude.{◌≡◌, ℕ, ◌<◌, List, Option, is_some}
use Rattle.graph_theory.specs.Graph.{Graph, size, edge, tabulate}
use Rattle.graph_theory.specs.Embedding.{Problem, Embeds}
use Rattle.graph_theory.specs.Neighbours.{degree, in_degree, common, sequence}
use Rattle.graph_theory.specs.Path.{Dead}
use Rattle.graph_theory.specs.Plain.{IsPlain}
use Rattle.graph_theory.specs.declared.direction.Direction.{Direction}
use Rattle.graph_theory.specs.declared.direction.Direction.TheVariants.{Out, In}

-- An edge leads from a to b with this label where one led from b to a with it.
abbrev pub reversed : Graph → Graph
reversed g = record {
  labels = g.labels;
  rows = tabulate (size g) (λ a. tabulate (size g) (λ b. edge g b a));
}

-- Both graphs of a problem turned round.
abbrev pub reversed_problem : Problem → Problem
reversed_problem q = record {
  pattern = reversed q.pattern;
  target = reversed q.target;
  induced =
      q.induced;
  maps = q.maps;
  less = q.less;
}

-- The rows of a graph, or those of its reversed graph.
abbrev pub turned_rows : Direction → Graph → List (List (Option ℕ))
turned_rows Out g = g.rows
turned_rows In g = (reversed g).rows

-- The graph itself, or its reversed graph: its vertices are the same, and its edges out of a vertex those of the direction.
abbrev pub turned : Direction → Graph → Graph
turned direction g = record { labels = g.labels; rows = turned_rows direction g }

-- The problem of both graphs so.
abbrev pub turned_problem : Direction → Problem → Problem
turned_problem direction q = record {
  pattern = turned direction q.pattern;
  target = turned
      direction q.target;
  induced = q.induced;
  maps = q.maps;
  less = q.less;
}

-- Where an edge stands one way, one stands the other way too. (Their labels may be two.)
pub record IsMutual (g : Graph) : Type 0 where
  pub both : (a b : ℕ) → a < size g → b < size g → is_some (edge g a b) ≡ is_some (edge g b a)

-- Both graphs of a problem are so.
pub record AreMutual (q : Problem) : Type 0 where
  pub pattern_mutual : IsMutual q.pattern
  pub target_mutual : IsMutual q.target

-- An edge of the reversed graph is the edge back.
abbrev pub EdgesAreBack : Type 0
EdgesAreBack = (g : Graph) (a b : ℕ) → a < size g → b < size g → edge (reversed g) a b ≡ edge g b a

-- What embeds embeds the reversed pattern into the reversed target.
abbrev pub EmbedsReversed : Type 0
EmbedsReversed = (q : Problem) (m : List ℕ) → Embeds q m → Embeds (reversed_problem q) m

-- A path that is dead in the reversed problem is dead.
abbrev pub DeadReversed : Type 0
DeadReversed = (q : Problem) (path : List (ℕ × ℕ)) → Dead (reversed_problem q) path → Dead q path

-- The degrees of the reversed graph are the in-degrees.
abbrev pub DegreesAreBack : Type 0
DegreesAreBack = (g : Graph) (a : ℕ) → a < size g → in_degree g a ≡ degree (reversed g) a

-- Where edges stand both ways, degrees, their sequences and shared neighbours of the reversed graph are those of the graph.
abbrev pub MutualDegrees : Type 0
MutualDegrees = (g : Graph) (a : ℕ) → IsMutual g → a < size g → degree (reversed g) a ≡ degree g a

abbrev pub MutualSequences : Type 0
MutualSequences = (g : Graph) (a : ℕ) → IsMutual g → a < size g
    → sequence (reversed g) a ≡ sequence g a

abbrev pub MutualShared : Type 0
MutualShared = (g : Graph) (a b : ℕ) → IsMutual g → a < size g → b < size g
    → common (reversed g) a b ≡ common g a b

-- Plain graphs are mutual.
abbrev pub PlainIsMutual : Type 0
PlainIsMutual = (g : Graph) → IsPlain g → IsMutual g

-- What holds of reversed graphs.
pub record ReversedLaws : Type 0 where
  pub edges : EdgesAreBack
  pub embeds : EmbedsReversed
  pub dead : DeadReversed
  pub in_degrees : DegreesAreBack
  pub degrees : MutualDegrees
  pub sequences : MutualSequences
  pub shared : MutualShared
  pub plain : PlainIsMutual
