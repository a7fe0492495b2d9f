-- How contracts see a book over words and its seats, and what they keep.

use Rattle.std.specs.Prelude.{◌≡◌, ℕ, ◌+◌, ◌-◌, ◌<◌, ◌≤◌, ◌⊎◌, true, false, List, [], ◌∷◌, ◌++◌, length, drop, MatchBool, Bool, Vec, vec_capacity, Some}
use Rattle.std.specs.List.{All}
use Rattle.std.specs.Global.{Global}
use Rattle.atomic_table.specs.Table.{Me}
use Rattle.atomic_table.specs.Seated.{TableId}
use Rattle.graph_theory.specs.Embedding.{Problem}
use Rattle.nogood_book.specs.declared.row.Row.{Row}
use Rattle.nogood_book.specs.declared.row.Published.{Published}
use Rattle.nogood_book.specs.declared.row.Published.TheVariants.{At, Full}
use Rattle.nogood_book.specs.declared.view.View.{View}
use Rattle.nogood_book.specs.Rows.{Sound}
use Rattle.nogood_book.specs.Facts.{Facts}
use Rattle.nogood_book.specs.Places.{StartsWith}
use Rattle.nogood_book.specs.Plays.{Shown}
use Rattle.nogood_book.specs.Views.{Told, parts, sees, looked, added, gathers}

-- A book: the table of its words, its problem, and how many rows it has room for.
pub record BookName : Type 0 where
  pub table : TableId
  pub problem : Problem
  pub size : ℕ

-- A seat: its table, its number there, what it knows of the book, the rows that it keeps for itself, and whether it keeps no more.
pub record SeatName : Type 0 where
  pub table : TableId
  pub id : ℕ
  pub view : View
  pub own : List Row
  pub ended : Bool

-- The table has a word for each row and one more, and its rule speaks of as many rows.
abbrev pub HasRows : TableId → ℕ → ℕ → Type 0
HasRows table ruled rows = (table.words ≡ rows + 1) × (ruled ≡ rows) × (rows ≤ 4194304)

-- The seat is one of this book's.
pub record IsSeatOf (b : BookName) (s : SeatName) : Type 0 where
  pub table : s.table ≡ b.table
  pub problem : s.view.problem ≡ b.problem

-- What a seat shows: the rows of the book that it has seen, then its own; the looks are told.
abbrev pub facts_of : SeatName → Facts
facts_of s = record {
  problem = s.view.problem;
  owner = s.view.owner;
  size = s.table.words - 1;
  seen = s.view.seen ++ s.own;
  looks = Some s.view.looks;
  ended = s.ended;
}

-- These rows may be kept behind those that the view has seen of a book of so many: there are none before each row of the book is used and
-- seen, all are of the view's owner, and with the book's they are no more than 4,194,304 and sound.
pub record KeepsOwn (most : ℕ) (v : View) (own : List Row) : Type 0 where
  pub behind : (own ≡ []) ⊎ (length v.seen ≡ most)
  pub owners : All (λ r. r.owner ≡ v.owner) own
  pub few : length (v.seen ++ own) ≤ 4194304
  pub sound : Sound v.problem (v.seen ++ own)

-- What stands behind the rows of the book in a list that begins with them.
abbrev pub behind : View → List Row → List Row
behind v rows = drop (length v.seen) rows

-- The invariant of a seat: its rows are those of the book that its view has seen, and then its own, and there is room for all rows of the
-- book. It keeps no more only once each row of the book is used and seen.
pub record IsSeat (table : TableId) (me : Me ℕ View) (rows : Vec Row Global)
    (most owner : ℕ) (ended : Bool) : Type 0 where
  pub rows_are : rows.items ≡ me.0.seen ++ behind me.0 rows.items
  pub no_slots : me.1 ≡ []
  pub room : most ≤ vec_capacity rows
  pub words : table.words ≡ most + 1
  pub limit : most ≤ 4194304
  pub owner_is : me.0.owner ≡ owner
  pub live : me.0.spent ≡ false
  pub few : length me.0.seen ≤ most
  pub shown : Shown me.0
  pub own : KeepsOwn most me.0 (behind me.0 rows.items)
  pub over : ended ≡ true → length me.0.seen ≡ most

-- What is so of every seat: its view is so by itself, it is not spent, it has seen no more rows of its book than this has room for, and it
-- keeps the others.
pub record IsHonest (s : SeatName) : Type 0 where
  pub shown : Shown s.view
  pub live : s.view.spent ≡ false
  pub few : length s.view.seen + 1 ≤ s.table.words
  pub limit : s.table.words ≤ 4194305
  pub own : KeepsOwn (s.table.words - 1) s.view s.own
  pub over : s.ended ≡ true → length s.view.seen + 1 ≡ s.table.words

-- The seat is the same and keeps the same rows, and its view has changed to this.
pub record IsSeatWith (s t : SeatName) (v : View) : Type 0 where
  pub table : t.table ≡ s.table
  pub id : t.id ≡ s.id
  pub view : t.view ≡ v
  pub own : t.own ≡ s.own
  pub ended : t.ended ≡ s.ended

-- A seat that keeps one row more.
abbrev pub keeping : SeatName → Row → SeatName
keeping s r = record s { own = s.own ++ r ∷ [] }

-- A seat that keeps no row beyond those that it has.
abbrev pub ending : SeatName → SeatName
ending s = record s { ended = true }

-- A seat that keeps none yet.
abbrev pub without_own : SeatName → SeatName
without_own s = record s { own = []; ended = false }

-- A row of another is in sight.
abbrev pub SawOne : View → View → Type 0
SawOne v w = (r : Row) × (w ≡ sees v r)

-- A load found a row, or looked.
abbrev pub HasLooked : Bool → View → View → Type 0
HasLooked found v w = MatchBool found (SawOne v w) (w ≡ looked v)

-- An exchange wrote the row, or found one of another.
abbrev pub HasTried : Row → Bool → View → View → Type 0
HasTried r written v w = MatchBool written (w ≡ added v r) (SawOne v w)

-- A view that has these rows in sight.
abbrev pub seeing : View → List Row → View
seeing v rows = record v { seen = rows }

-- Every row of the seat's book is used and seen.
abbrev pub HasSeenAll : SeatName → Type 0
HasSeenAll s = length s.view.seen + 1 ≡ s.table.words

-- The same after a look, where a row is still unused, and after none, where all are used.
abbrev pub IsAfterLook : SeatName → SeatName → Type 0
IsAfterLook s t = IsSeatWith s t (looked (seeing s.view t.view.seen))
    ⊎ (HasSeenAll t × IsSeatWith s t (seeing s.view t.view.seen))

-- The seat t is s with more rows of others in sight.
pub record SawMore (s t : SeatName) : Type 0 where
  pub same : IsSeatWith s t (seeing s.view t.view.seen)
  pub more : StartsWith t.view.seen s.view.seen
  pub before : IsHonest s
  pub now : IsHonest t

-- The row was kept behind all that the seat has; or it was not, and from here on none is.
abbrev pub HasKept : Row → SeatName → SeatName → Published → Type 0
HasKept r s t (At at) = (at ≡ length (s.view.seen ++ s.own)) × (s.ended ≡ false)
    × IsSeatWith (keeping s r) t s.view
HasKept r s t Full = IsSeatWith (ending s) t s.view

-- The row was written at this place of the book, which is one more of its owner's places.
abbrev pub IsInBook : SeatName → SeatName → ℕ → Type 0
IsInBook s t at = (at + 1 < s.table.words) × IsSeatWith s t
    (record s.view { seen = t.view.seen; mine = s.view.mine ++ at ∷ [] })

-- Every row of the book is used and seen, and the seat keeps the row for itself, behind those that it has.
abbrev pub IsKept : Row → SeatName → SeatName → ℕ → Type 0
IsKept r s t at = HasSeenAll t × (at ≡ length (t.view.seen ++ s.own)) × (s.ended ≡ false)
    × IsSeatWith (keeping s r) t (seeing s.view t.view.seen)

-- What publishing a row leaves of the rest of a seat: it is in the book, or every row of the book is used and seen.
abbrev pub IsAfterWrite : SeatName → SeatName → Published → Type 0
IsAfterWrite s t (At at) = IsInBook s t at
IsAfterWrite s t Full = HasSeenAll t × SawMore s t

-- What placing a row leaves of it. The row is in the book; or every row of the book is used and seen, and the seat keeps it
-- for itself; or it does not, and keeps no row from here on.
abbrev pub IsAfterPlacing : Row → SeatName → SeatName → Published → Type 0
IsAfterPlacing r s t (At at) = IsInBook s t at ⊎ IsKept r s t at
IsAfterPlacing r s t Full = HasSeenAll t × IsSeatWith (ending s) t (seeing s.view t.view.seen)

-- A seat took in another. It sees what either had seen, and answers for the owners of both with the places that they had, which are
-- all that the rows seen have of them.
pub record Gathered (into from new : View) : Type 0 where
  pub view_is : new ≡ gathers into from
  pub first : StartsWith new.seen into.seen
  pub second : StartsWith new.seen from.seen
  pub told : Told new.seen (parts new)
