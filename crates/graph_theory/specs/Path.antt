-- Paths of a search, and when one leads to no embedding.

use Rattle.std.specs.Prelude.{◌≡◌, ℕ, ◌<◌, ◌↔◌, List, [], ◌∷◌, ◌++◌, length, slice_index}
use Rattle.graph_theory.specs.Graph.{size}
use Rattle.graph_theory.specs.Embedding.{Problem, Embeds, HasNone}

-- No pair of the list is for this pattern vertex.
abbrev pub NotOn : List (ℕ × ℕ) → ℕ → Type 0
NotOn [] p = Unit {0}
NotOn (x ∷ xs) p = (x.0 ≡ p → ⊥) × NotOn xs p

-- A path is a list of pairs of a pattern vertex and a target vertex, each pattern vertex once; that they are in range is said apart.
abbrev pub IsPath : List (ℕ × ℕ) → Type 0
IsPath [] = Unit {0}
IsPath (x ∷ xs) = NotOn xs x.0 × IsPath xs

-- The list m has each pair of the path.
abbrev pub Extends : List (ℕ × ℕ) → List ℕ → Type 0
Extends [] m = Unit {0}
Extends (x ∷ xs) m = (x.0 < length m) × (slice_index m x.0 ≡ x.1) × Extends xs m

-- A path is dead where no embedding has each of its pairs.
abbrev pub Dead : Problem → List (ℕ × ℕ) → Type 0
Dead q path = (m : List ℕ) → Embeds q m → Extends path m → ⊥

-- ---- laws

-- A path that goes on from a dead one is dead.
abbrev pub LongerIsDead : Type 0
LongerIsDead = (q : Problem) (path more : List (ℕ × ℕ)) → Dead q path → Dead q (path ++ more)

-- Where each value of a further vertex makes the path dead, it is dead.
abbrev pub EachValueDead : Type 0
EachValueDead = (q : Problem) (path : List (ℕ × ℕ)) (p : ℕ) → p < size q.pattern
    → ((t : ℕ) → t < size q.target → Dead q (path ++ (p, t) ∷ [])) → Dead q path

-- The empty path is dead exactly where no embedding exists.
abbrev pub EmptyIsDead : Type 0
EmptyIsDead = (q : Problem) → Dead q [] ↔ HasNone q

-- What holds of the paths of every problem.
pub record PathLaws : Type 0 where
  pub longer : LongerIsDead
  pub each_value : EachValueDead
  pub empty : EmptyIsDead
