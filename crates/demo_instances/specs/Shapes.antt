-- Graphs that are made from a test of two vertices, and two shapes of them.

use Rattle.std.specs.Prelude.{◌≡◌, ℕ, ◌+◌, ◌%◌, ◌<◌, Bool, not, ◌||◌, true, is_some, slice_index, List, length}
use Rattle.graph_theory.specs.Graph.{Graph, size, label, edge}
use Rattle.graph_theory.specs.Embedding.{Problem, InOrder, HasNone, Embeds}
use Rattle.graph_rows.specs.Held.{edge_of_mark}

-- A graph of n vertices with label 0, two of which have an edge where the test holds of them in one of their two orders.
pub record IsMadeOf (n : ℕ) (pair : ℕ → ℕ → Bool) (g : Graph) : Type 0 where
  pub size_is : size g ≡ n
  pub labels : (a : ℕ) → a < n → label g a ≡ 0
  pub edges : (a b : ℕ) → a < n → b < n → edge g a b ≡ edge_of_mark (pair a b || pair b a)

-- Each edge of the graph goes from one side to the other.
pub record IsTwoSided (side : ℕ → Bool) (g : Graph) : Type 0 where
  pub each : (a b : ℕ) → a < size g → b < size g → is_some (edge g a b) ≡ true
      → side b ≡ not (side a)

-- Five vertices, each with an edge to the next and the last with one to the first.
pub record HasFiveCycle (g : Graph) : Type 0 where
  pub size_is : size g ≡ 5
  pub around : (a : ℕ) → a < 5 → edge g a ((a + 1) % 5) ≡ edge_of_mark true

-- No cycle of five embeds in a graph with two sides.
abbrev pub NoFiveCycle : Type 0
NoFiveCycle = (side : ℕ → Bool) (q : Problem) → HasFiveCycle q.pattern → IsTwoSided side q.target
    → HasNone q

-- The list has no vertex twice.
abbrev pub AreDistinct : ℕ → List ℕ → Type 0
AreDistinct n m = (p r : ℕ) → p < n → r < n → slice_index m p ≡ slice_index m r → p ≡ r

-- The pattern is the part of the target at the vertices of this list, which are in order where that is asked for.
pub record IsPartAt (m : List ℕ) (q : Problem) : Type 0 where
  pub size_is : length m ≡ size q.pattern
  pub values : (p : ℕ) → p < size q.pattern → slice_index m p < size q.target
  pub distinct : AreDistinct (size q.pattern) m
  pub labels : (p : ℕ) → p < size q.pattern → label q.target (slice_index m p) ≡ label q.pattern p
  pub edges : (p r : ℕ) → p < size q.pattern → r < size q.pattern
      → edge q.pattern p r ≡ edge q.target (slice_index m p) (slice_index m r)
  pub order : InOrder q.less m

-- A part of the target embeds in it, in both kinds.
abbrev pub PartEmbeds : Type 0
PartEmbeds = (m : List ℕ) (q : Problem) → IsPartAt m q → Embeds q m
