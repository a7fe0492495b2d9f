-- What each step on a word of a book tells the seat that makes it.

use Rattle.std.specs.Prelude.{◌≡◌, ℕ, ◌≤◌, ◌==◌, true, if◌then◌else◌, length}
use Rattle.atomic_table.specs.Table.{Step, Me}
use Rattle.nogood_book.specs.declared.view.View.{View}
use Rattle.nogood_book.specs.Rows.{Sound}
use Rattle.nogood_book.specs.Places.{StartsWith}
use Rattle.nogood_book.specs.Words.{row_of}
use Rattle.nogood_book.specs.Views.{parts, Told, Owned, sees, looked, added}

-- What is so of a view by itself: what was seen is sound and has exactly the rows at the places that the view knows of its owners, and
-- the first seat has seen rows of the owners made alone.
pub record Shown (v : View) : Type 0 where
  pub sound : Sound v.problem v.seen
  pub told : Told v.seen (parts v)
  pub owned : v.first ≡ true → Owned v.made v.seen

-- A load of the next word: unused, which is a look, or a row of another.
abbrev pub Looks : Step ℕ → Me ℕ View → ℕ → Me ℕ View → Type 0
Looks s v found w = (w.1 ≡ v.1) × Shown w.0
    × (w.0 ≡ (if found == 0 then looked v.0 else sees v.0 (row_of found)))

-- An exchange of the next word from unused to a row's: it was unused, and the row is written, or a row of another.
abbrev pub Adds : Step ℕ → Me ℕ View → ℕ → Me ℕ View → Type 0
Adds s v found w = (w.1 ≡ v.1) × Shown w.0
    × (w.0 ≡ (if found == 0 then added v.0 (row_of s.second) else sees v.0 (row_of found)))

-- A load after a join, which finds out that of two beginnings the shorter begins the longer.
abbrev pub Checks : Step ℕ → Me ℕ View → ℕ → Me ℕ View → Type 0
Checks s v found w = (w ≡ v) × Shown w.0 × (length w.0.other ≤ length w.0.seen
    → StartsWith w.0.seen w.0.other)
