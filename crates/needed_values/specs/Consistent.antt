-- What a vertex at its place leaves to another.

use Rattle.std.specs.Prelude.{◌≡◌, ℕ, ◌≤◌, ◌&&◌, nat_lt, Bool, true, false, not, ◌||◌, is_some, List}
use Rattle.graph_theory.specs.Graph.{Graph, size, edge}
use Rattle.graph_theory.specs.Embedding.{Problem, Compatible}
use Rattle.graph_theory.specs.Neighbours.{common}
use Rattle.search_theory.specs.Consistency.{AreConsistent}
use Rattle.bit_rows.specs.BitRows.{has}
use Rattle.graph_rows.specs.Labels.{HasZeroLabels}

-- Whether a pattern edge, and an edge of its image, are as they have to be: an edge goes to an edge, and in the induced kind no edge to none.
abbrev pub agree : Bool → Bool → Bool → Bool
agree true induced near = near
agree false true near = not near
agree false false near = true

-- So it is by the edges from p to r, and from t to u.
abbrev pub edges_agree : Problem → ℕ → ℕ → ℕ → ℕ → Bool
edges_agree q p t r u = agree (is_some (edge q.pattern p r)) q.induced (is_some (edge q.target t u))

-- An edge leads from one of the two pattern vertices to the other.
abbrev pub are_joined : Problem → ℕ → ℕ → Bool
are_joined q p r = is_some (edge q.pattern p r) || is_some (edge q.pattern r p)

-- The edges of both graphs all have label 0.
pub record HaveZeroLabels (q : Problem) : Type 0 where
  pub pattern_zeros : HasZeroLabels q.pattern
  pub target_zeros : HasZeroLabels q.target

-- Of a row of values of r some are left, and none of the others goes together with p at t.
pub record Goes (q : Problem) (p t r : ℕ) (old new : List ℕ) : Type 0 where
  pub kept : (u : ℕ) → has new u ≡ true → has old u ≡ true
  pub right : (u : ℕ) → has old u ≡ true → has new u ≡ false → Compatible q p t r u → ⊥

-- Each value of the row does.
abbrev pub AllGo : Problem → ℕ → ℕ → ℕ → List ℕ → Type 0
AllGo q p t r row = (u : ℕ) → has row u ≡ true → Compatible q p t r u

-- Of a row of values of r the target's own, and those of them that go together with p at t: where the answer is true these are all.
pub record IsParted (q : Problem) (p t r : ℕ) (row own left : List ℕ) (whole : Bool) : Type 0 where
  pub bits : (u : ℕ) → has own u ≡ (has row u && nat_lt u (size q.target))
  pub goes : Goes q p t r own left
  pub all : AllGo q p t r left
  pub same : whole ≡ true → (u : ℕ) → has own u ≡ true → has left u ≡ true

-- Of a row of values of r some are left, and with p at t none of the others is consistent.
pub record Leaves (q : Problem) (p t r : ℕ) (old new : List ℕ) : Type 0 where
  pub kept : (u : ℕ) → has new u ≡ true → has old u ≡ true
  pub right : (u : ℕ) → has old u ≡ true → has new u ≡ false → AreConsistent q p t r u → ⊥

-- Where the answer is true, each value of the row is consistent.
abbrev pub AllConsistent : Bool → Problem → ℕ → ℕ → ℕ → List ℕ → Type 0
AllConsistent true q p t r row = (u : ℕ) → has row u ≡ true → AreConsistent q p t r u
AllConsistent false q p t r row = Unit {0}

-- Of a row of values some are left, and the others share fewer neighbours with t than n.
pub record Shares (g : Graph) (t n : ℕ) (old new : List ℕ) : Type 0 where
  pub kept : (u : ℕ) → has new u ≡ true → has old u ≡ true
  pub right : (u : ℕ) → has old u ≡ true → has new u ≡ false → n ≤ common g t u → ⊥

-- Where the answer is true, each value of the row shares as many.
abbrev pub AllShare : Bool → Graph → ℕ → ℕ → List ℕ → Type 0
AllShare true g t n row = (u : ℕ) → has row u ≡ true → n ≤ common g t u
AllShare false g t n row = Unit {0}
