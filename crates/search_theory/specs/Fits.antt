-- When a value may be guessed for a vertex: neither the vertex by itself nor the path takes it away.

use Rattle.std.specs.Prelude.{◌≡◌, ℕ, ◌<◌, List, [], ◌∷◌}
use Rattle.graph_theory.specs.Embedding.{Problem}
use Rattle.search_theory.specs.Consistency.{IsFirstValue, AreConsistent}

-- Vertex p at t is consistent with each pair of the path.
abbrev pub GoesWith : Problem → List (ℕ × ℕ) → ℕ → ℕ → Type 0
GoesWith q [] p t = Unit {0}
GoesWith q (x ∷ xs) p t = AreConsistent q x.0 x.1 p t × GoesWith q xs p t

-- Of two vertices, p at t and r at u, the first of each of these pairs is at the lesser place, where they are its two.
-- Example: with the pair of 0 and 1 alone, vertex 0 at 5 and vertex 1 at u obey where 5 < u.
abbrev pub Obeys : List (ℕ × ℕ) → ℕ → ℕ → ℕ → ℕ → Type 0
Obeys [] p t r u = Unit {0}
Obeys (x ∷ xs) p t r u = (x.0 ≡ p → x.1 ≡ r → t < u) × (x.0 ≡ r → x.1 ≡ p → u < t)
    × Obeys xs p t r u

-- Vertex p at t obeys the order of images beside each pair of the path.
abbrev pub GoesInOrder : Problem → List (ℕ × ℕ) → ℕ → ℕ → Type 0
GoesInOrder q [] p t = Unit {0}
GoesInOrder q (x ∷ xs) p t = Obeys q.less x.0 x.1 p t × GoesInOrder q xs p t

-- Neither the vertex by itself nor a pair of the path takes t from p.
pub record Fits (q : Problem) (path : List (ℕ × ℕ)) (p t : ℕ) : Type 0 where
  pub alone : IsFirstValue q p t
  pub pairs : GoesWith q path p t
  pub order : GoesInOrder q path p t
