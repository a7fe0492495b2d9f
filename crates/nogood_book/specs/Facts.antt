-- What a seat at a book shows, and what the calls of a book do to it.

use Rattle.std.specs.Prelude.{◌≡◌, ℕ, Bool, true, ◌+◌, ◌<◌, ◌≤◌, ◌⊎◌, List, [], ◌∷◌, ◌++◌, length, Option, Some, None, slice_get}
use Rattle.graph_theory.specs.Embedding.{Problem}
use Rattle.nogood_book.specs.declared.row.Row.{Row}
use Rattle.nogood_book.specs.declared.row.Published.{Published}
use Rattle.nogood_book.specs.declared.row.Published.TheVariants.{At, Full}
use Rattle.nogood_book.specs.Rows.{Sound, MayFollow}
use Rattle.nogood_book.specs.Places.{StartsWith, places}

-- A seat shows the problem that its rows are about, who writes rows there, how many rows its book has room for, the rows that it has
-- (those of the book that it has seen, and behind them its own, which no other seat sees), how many these were each time that it found
-- the next row not yet written, where its book tells this, and whether it takes no further row.
pub record Facts : Type 0 where
  pub problem : Problem
  pub owner : ℕ
  pub size : ℕ
  pub seen : List Row
  pub looks : Option (List ℕ)
  pub ended : Bool

-- The row may be written behind those that the seat has.
abbrev pub MayWrite : Facts → Row → Type 0
MayWrite s row = MayFollow s.problem s.seen row

-- The same seat has no fewer rows, and what it has is sound. Where it took no further row, it has the same and still takes none.
pub record Grew (s t : Facts) : Type 0 where
  pub problem : t.problem ≡ s.problem
  pub owner : t.owner ≡ s.owner
  pub size : t.size ≡ s.size
  pub seen : StartsWith t.seen s.seen
  pub sound : Sound t.problem t.seen
  pub over : s.ended ≡ true → (t.ended ≡ true) × (t.seen ≡ s.seen)

-- Every row of the book is used and seen, and the seat takes no further one.
pub record HasEnded (s : Facts) : Type 0 where
  pub full : s.size ≤ length s.seen
  pub ended : s.ended ≡ true

-- One look more, where looks are told.
abbrev pub one_more : Option (List ℕ) → ℕ → Option (List ℕ)
one_more None n = None
one_more (Some looks) n = Some (looks ++ n ∷ [])

-- Rows of others may have come, and either there was a look after the last, or every row of the book is used and seen.
pub record CaughtUp (s t : Facts) : Type 0 where
  pub grew : Grew s t
  pub mine : places s.owner t.seen ≡ places s.owner s.seen
  pub looks : (t.looks ≡ one_more s.looks (length t.seen)) ⊎ ((t.looks ≡ s.looks)
      × (s.size ≤ length t.seen))

-- The row stands at this place, the last, and is its owner's one new row; so the rows between are of others. At a place of the book others
-- see it; behind all rows of the book its owner keeps it for itself.
pub record StandsAt (row : Row) (at : ℕ) (s t : Facts) : Type 0 where
  pub inside : at < 4194304
  pub new_ : length s.seen ≤ at
  pub grew : Grew s t
  pub row_is : slice_get t.seen at ≡ Some row
  pub last : length t.seen ≡ at + 1
  pub mine : places s.owner t.seen ≡ places s.owner s.seen ++ at ∷ []
  pub looks : t.looks ≡ s.looks

-- The row stands nowhere, and none will: every row of the book is used and seen, the seat's owner has no new one, and the seat takes none.
pub record IsFull (s t : Facts) : Type 0 where
  pub grew : Grew s t
  pub mine : places s.owner t.seen ≡ places s.owner s.seen
  pub full : HasEnded t
  pub looks : t.looks ≡ s.looks

-- Every row of the book is used and seen, and the seat's owner has no new one.
pub record IsUsedUp (s t : Facts) : Type 0 where
  pub grew : Grew s t
  pub mine : places s.owner t.seen ≡ places s.owner s.seen
  pub full : s.size ≤ length t.seen
  pub looks : t.looks ≡ s.looks

-- What publishing a row answers: a place of the book, or that its rows are used up.
abbrev pub IsPublished : Row → Facts → Facts → Published → Type 0
IsPublished row s t (At at) = StandsAt row at s t × (at < s.size)
IsPublished row s t Full = IsUsedUp s t

-- What placing a row answers: a place of the book or behind its rows.
abbrev pub IsPlaced : Row → Facts → Facts → Published → Type 0
IsPlaced row s t (At at) = StandsAt row at s t
IsPlaced row s t Full = IsFull s t
