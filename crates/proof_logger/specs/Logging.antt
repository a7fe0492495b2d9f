-- What a logger is told of a search: how a path ends, and which rows come into the book.

use Rattle.std.specs.Prelude.{◌≡◌, ◌≢◌, ℕ, ◌<◌, ◌≤◌, ◌⊎◌, true, List, [], ◌∷◌, ◌++◌, length, take, Contains, Option, Some, slice_get}
use Rattle.graph_theory.specs.Graph.{size}
use Rattle.graph_theory.specs.Embedding.{Problem}
use Rattle.search_theory.specs.Account.{Account, path, level_at, IsAt, NotAmong, FailsTo}
use Rattle.domain_bits.specs.Removals.{State, in_domain}
use Rattle.nogood_watch.specs.Nogoods as watched
use Rattle.nogood_book.specs.declared.row.Row.{Row}
use Rattle.nogood_book.specs.declared.row.RowKind.TheVariants.{Nogood}
use Rattle.nogood_book.specs.Rows.{path_at}
use Rattle.recorder.specs.Recording.{Change, CountedSet, HasGuess}
use Rattle.recorder.specs.Telling.{IsOf, Tells, Fails}
use Rattle.recorder.specs.Holding.{HoldsRows}
use Rattle.recorder.specs.declared.change.DeadEnd.{DeadEnd}
use Rattle.recorder.specs.declared.change.DeadEnd.TheVariants.{Failed, Exhausted}

-- ---- a dead path

-- Each guess among the changes is one of these pairs.
abbrev pub AreGuessed : List (ℕ × ℕ) → Option (List Change) → Type 0
AreGuessed xs changes = (p t from : ℕ) → HasGuess changes p t from → Contains xs (p, t)

-- The vertex is that of the level after the path, and each value of its domain is refuted there.
pub record IsExhausted (q : Problem) (d : State) (a : Account) (p : ℕ) : Type 0 where
  pub vertex_in : p < size q.pattern
  pub level : IsAt a.vertex p
  pub none : (t : ℕ) → in_domain d p t ≡ true → NotAmong a.refuted t → ⊥

-- What the end says of the domains.
abbrev pub EndsBy : DeadEnd → Problem → Option watched.State → State → Option (List Change)
    → Option CountedSet → Account → Type 0
EndsBy (Failed failure) q nogoods d changes short a = Fails q nogoods d changes short failure
EndsBy (Exhausted p) q nogoods d changes short a = IsExhausted q d a p

-- The path of the account ends so in some domains: what was told of them is true, with the nogoods among the rows, and each guess that was told is one of the path.
pub record EndsPath (q : Problem) (rows : List Row) (changes : Option (List Change))
    (short : Option CountedSet) (a : Account) (end : DeadEnd) : Type 0 where
  pub domains : State
  pub nogoods : Option watched.State
  pub is_of : IsOf q domains
  pub holds : HoldsRows rows nogoods
  pub told : Tells q nogoods domains changes
  pub guesses : AreGuessed (path a) changes
  pub ends : EndsBy end q nogoods domains changes short a

-- What a line for a dead path leaves: where the path is empty, a refutation; and the next account's lines, whichever account the fail leads to.
pub record Closed (Writes : Account → Type 0) (Refutes : Type 0) (a : Account) : Type 0 where
  pub refuted : path a ≡ [] → Refutes
  pub failed : (b : Account) → FailsTo a b → Writes b

-- ---- rows of the book

-- Row k is a nogood of this owner.
pub record IsNogoodBy (owner : ℕ) (rows : List Row) (k : ℕ) : Type 0 where
  pub row : Row
  pub row_is : slice_get rows k ≡ Some row
  pub kind : row.kind ≡ Nogood
  pub owner_is : row.owner ≡ owner

-- Rows may have come, none of them a nogood of the owner.
pub record GrowsBeside (owner : ℕ) (rows more : List Row) : Type 0 where
  pub rest : List Row
  pub front : more ≡ rows ++ rest
  pub none_own : (k : ℕ) → IsNogoodBy owner more k → k < length rows

-- Behind the rows there may be some that the owner keeps for itself: no nogood of another is among them.
pub record EndsInOwn (owner : ℕ) (rows whole : List Row) : Type 0 where
  pub rest : List Row
  pub front : whole ≡ rows ++ rest
  pub none_of_others : (k o : ℕ) → o ≢ owner → IsNogoodBy o whole k → k < length rows

-- Rows have come, and row k is the one nogood of the owner among them: its path is that of a value which the account has refuted at the level.
pub record Publishes (a : Account) (owner level value : ℕ) (rows more : List Row)
    (k : ℕ) : Type 0 where
  pub rest : List Row
  pub front : more ≡ rows ++ rest
  pub behind : length rows ≤ k
  pub within : k < length more
  pub only : (i : ℕ) → IsNogoodBy owner more i → (i < length rows) ⊎ (i ≡ k)
  pub nogood : IsNogoodBy owner more k
  pub vertex : ℕ
  pub vertex_is : (level_at a level).vertex ≡ Some vertex
  pub refuted : Contains (level_at a level).refuted value
  pub path_is : path_at more k ≡ take level (path a) ++ (vertex, value) ∷ []
