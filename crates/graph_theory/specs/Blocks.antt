-- Blocks: sets of pattern vertices of which any two have two images. By injective maps all vertices are one block; by local ones the
-- vertices near each vertex, its centre, are one; by any maps there is none.

use Rattle.std.specs.Prelude.{◌≡◌, ℕ, ◌<◌, nat_lt, Bool, true, false, ◌&&◌, Option, Some, None}
use Rattle.graph_theory.specs.Graph.{Graph, size}
use Rattle.graph_theory.specs.Neighbours.{count, is_near}
use Rattle.graph_theory.specs.Embedding.{Problem, differ}
use Rattle.graph_theory.specs.Reversed.{reversed_problem}
use Rattle.graph_theory.specs.declared.embedding.Maps.{Maps}
use Rattle.graph_theory.specs.declared.embedding.Maps.TheVariants.{Injective, Local, Any}

-- Vertex p is in the block of all vertices, or in that of a centre.
abbrev pub in_block : Problem → Option ℕ → ℕ → Bool
in_block q None p = true
in_block q (Some c) p = is_near q.pattern c p

-- Vertex c is one, and two vertices at least are near it.
abbrev pub has_near : Graph → ℕ → Bool
has_near g c = nat_lt c (size g) && nat_lt 1 (count (is_near g c) (size g))

-- The maps ask two images of any two vertices of this block; around a centre it has two vertices at least.
-- Example: in a path of three vertices local maps have the block of the middle one alone, which is the two ends.
abbrev pub has_block_in : Maps → Graph → Option ℕ → Bool
has_block_in Injective g None = true
has_block_in Injective g (Some c) = false
has_block_in Local g None = false
has_block_in Local g (Some c) = has_near g c
has_block_in Any g b = false

abbrev pub has_block : Problem → Option ℕ → Bool
has_block q b = has_block_in q.maps q.pattern b

-- Both vertices are in one block.
pub record Together (q : Problem) (p r : ℕ) : Type 0 where
  pub block : Option ℕ
  pub is_there : has_block q block ≡ true
  pub first : in_block q block p ≡ true
  pub second : in_block q block r ≡ true

-- ---- laws

-- Two vertices whose images differ are in one block.
abbrev pub BlockOf : Type 0
BlockOf = (q : Problem) (p r : ℕ) → p < size q.pattern → r < size q.pattern → (p ≡ r → ⊥)
    → differ q p r ≡ true → Together q p r

-- The images of those in one block differ.
abbrev pub DifferOf : Type 0
DifferOf = (q : Problem) (p r : ℕ) → Together q p r → differ q p r ≡ true

-- That two images differ does not depend on the order of their vertices.
abbrev pub DifferIsSymmetric : Type 0
DifferIsSymmetric = (q : Problem) (p r : ℕ) → differ q p r ≡ differ q r p

-- The reversed problem has the same blocks, and the same images differ in it.
abbrev pub ReversedDiffer : Type 0
ReversedDiffer = (q : Problem) (p r : ℕ) → p < size q.pattern → r < size q.pattern
    → differ (reversed_problem q) p r ≡ differ q p r

abbrev pub ReversedIn : Type 0
ReversedIn = (q : Problem) (b : Option ℕ) (p : ℕ) → has_block q b ≡ true → p < size q.pattern
    → in_block (reversed_problem q) b p ≡ in_block q b p

abbrev pub ReversedHas : Type 0
ReversedHas = (q : Problem) (b : Option ℕ) → has_block (reversed_problem q) b ≡ has_block q b

-- What holds of the blocks of every problem.
pub record BlockLaws : Type 0 where
  pub block_of : BlockOf
  pub differ_of : DifferOf
  pub symmetric : DifferIsSymmetric
  pub reversed_differ : ReversedDiffer
  pub reversed_in : ReversedIn
  pub reversed_has : ReversedHas
