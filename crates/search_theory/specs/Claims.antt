-- What domains claim of the embeddings. D p t says whether t is in the domain of p.

use Rattle.std.specs.Prelude.{◌≡◌, ℕ, ◌<◌, Bool, true, List, [], ◌∷◌, Some, slice_get, slice_index}
use Rattle.graph_theory.specs.Graph.{size}
use Rattle.graph_theory.specs.Embedding.{Problem, Embeds}
use Rattle.graph_theory.specs.Path.{Extends}
use Rattle.search_theory.specs.Consistency.{IsFirstValue, AreConsistent}

-- Each image is in its vertex's domain.
abbrev pub Inside : Problem → (ℕ → ℕ → Bool) → List ℕ → Type 0
Inside q D m = (p : ℕ) → p < size q.pattern → D p (slice_index m p) ≡ true

-- Every embedding within the old domains is within the new ones.
abbrev pub KeepsEmbeddings : Problem → (ℕ → ℕ → Bool) → (ℕ → ℕ → Bool) → Type 0
KeepsEmbeddings q old new = (m : List ℕ) → Embeds q m → Inside q old m → Inside q new m

-- No embedding is within the domains.
abbrev pub NoneInside : Problem → (ℕ → ℕ → Bool) → Type 0
NoneInside q D = (m : List ℕ) → Embeds q m → Inside q D m → ⊥

-- Every embedding that extends the path is within the domains.
abbrev pub Stands : Problem → List (ℕ × ℕ) → (ℕ → ℕ → Bool) → Type 0
Stands q path D = (m : List ℕ) → Embeds q m → Extends path m → Inside q D m

-- The value t is all of the domain of p.
pub record Single (D : ℕ → ℕ → Bool) (p t : ℕ) : Type 0 where
  pub here : D p t ≡ true
  pub only : (u : ℕ) → D p u ≡ true → u ≡ t

-- Each pair of the path is all of its vertex's domain.
abbrev pub Pins : Problem → List (ℕ × ℕ) → (ℕ → ℕ → Bool) → Type 0
Pins q [] D = Unit {0}
Pins q (x ∷ xs) D = (x.0 < size q.pattern) × Single D x.0 x.1 × Pins q xs D

-- Each value of a domain is a target vertex, and in its vertex's first domain.
pub record First (q : Problem) (D : ℕ → ℕ → Bool) : Type 0 where
  pub values : (p t : ℕ) → p < size q.pattern → D p t ≡ true → t < size q.target
  pub alone : (p t : ℕ) → p < size q.pattern → D p t ≡ true → IsFirstValue q p t

-- The other domains hold only what is consistent with p at t.
pub record Settled (q : Problem) (D : ℕ → ℕ → Bool) (p t : ℕ) : Type 0 where
  pub goes : (r u : ℕ) → r < size q.pattern → (p ≡ r → ⊥) → D r u ≡ true → AreConsistent q p t r u

-- The domains are at rest: each has a value and lies in its first domain, and one of a single value has taken its consequences.
pub record Quiet (q : Problem) (D : ℕ → ℕ → Bool) : Type 0 where
  pub some : (p : ℕ) → p < size q.pattern → (t : ℕ) × (D p t ≡ true)
  pub first : First q D
  pub settled : (p t : ℕ) → p < size q.pattern → Single D p t → Settled q D p t

-- Each value of b has a lesser one in the domain of a, and each value of a a greater one in the domain of b.
pub record Rising (D : ℕ → ℕ → Bool) (a b : ℕ) : Type 0 where
  pub lesser : (t : ℕ) → D b t ≡ true → (s : ℕ) × (D a s ≡ true) × (s < t)
  pub greater : (s : ℕ) → D a s ≡ true → (t : ℕ) × (D b t ≡ true) × (s < t)

-- The domains are so for each pair whose images are to be in order.
pub record Ordered (q : Problem) (D : ℕ → ℕ → Bool) : Type 0 where
  pub rising : (k : ℕ) (x : ℕ × ℕ) → slice_get q.less k ≡ Some x → x.0 < size q.pattern
      → x.1 < size q.pattern → Rising D x.0 x.1
