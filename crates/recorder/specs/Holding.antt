-- Which nogoods are kept of rows of a book: each one among them, with the path of its row, named by the row's place.

use Rattle.std.specs.Prelude.{◌≡◌, ℕ, List, [], ◌∷◌, ◌++◌, length, Option, Some, None}
use Rattle.nogood_watch.specs.Nogoods as watched
use Rattle.nogood_book.specs.declared.row.Row.{Row}
use Rattle.nogood_book.specs.declared.row.RowKind.{RowKind}
use Rattle.nogood_book.specs.declared.row.RowKind.TheVariants.{Step, Nogood}
use Rattle.nogood_book.specs.Rows.{Pairs, path_of}

-- A nogood of two pairs or more, under its name: one list.
abbrev pub listed : RowKind → Pairs → ℕ → List watched.Nogood
listed Step xs name = []
listed Nogood [] name = []
listed Nogood (x ∷ []) name = []
listed Nogood (x ∷ y ∷ rest) name = record { literals = x ∷ y ∷ rest; name = name } ∷ []

-- A nogood of one pair, under its name.
abbrev pub single : RowKind → Pairs → ℕ → List (ℕ × ℕ × ℕ)
single Step xs name = []
single Nogood [] name = []
single Nogood (x ∷ []) name = (x.0, x.1, name) ∷ []
single Nogood (x ∷ y ∷ rest) name = []

-- What is made of each row in order, by its kind, its path and its place; the paths of the rows before are known.
abbrev pub made_from : {A : Type 0} → (RowKind → Pairs → ℕ → List A) → List Pairs → List Row
    → List A
made_from f known [] = []
made_from f known (r ∷ rs) = f r.kind (path_of known r) (length known) ++ made_from f (known
    ++ path_of known r ∷ []) rs

-- The lists that are kept, if any are.
abbrev pub lists_in : Option watched.State → List watched.Nogood
lists_in None = []
lists_in (Some s) = s.nogoods

-- The single pairs that are kept.
abbrev pub singles_in : Option watched.State → List (ℕ × ℕ × ℕ)
singles_in None = []
singles_in (Some s) = s.units

-- What is kept are the nogoods among the rows, in their order, and nothing else.
pub record HoldsRows (rows : List Row) (nogoods : Option watched.State) : Type 0 where
  pub lists : lists_in nogoods ≡ made_from listed [] rows
  pub singles : singles_in nogoods ≡ made_from single [] rows

-- What is kept is what was kept, wherever its watches are.
pub record KeepsSame (old new : Option watched.State) : Type 0 where
  pub lists : lists_in new ≡ lists_in old
  pub singles : singles_in new ≡ singles_in old
