-- The numbers that were noted for rows, and the names of nogood rows by them.

use Rattle.std.specs.Prelude.{ℕ, ◌+◌, ◌^◌, ◌<◌, ◌≤◌, ◌==◌, Bool, false, cond, List, [], ◌∷◌, Option, Some, None, slice_get}
use Rattle.log_theory.specs.declared.step.Ref.{Ref}
use Rattle.log_theory.specs.declared.step.Ref.TheVariants.{Made, Shared}
use Rattle.nogood_book.specs.declared.row.Row.{Row}
use Rattle.journal_theory.specs.Journals.{note_of}

-- The owner, for each of its rows the number of its line, and for how many more there is room.
pub record Numbering : Type 0 where
  pub owner : ℕ
  pub notes : List (ℕ × ℕ)
  pub spare : ℕ

-- All rows are from here on; all are before it; each is after those before it.
abbrev pub RowsFrom : ℕ → List (ℕ × ℕ) → Type 0
RowsFrom low [] = Unit {0}
RowsFrom low (x ∷ xs) = (low ≤ x.0) × RowsFrom low xs

abbrev pub RowsBelow : ℕ → List (ℕ × ℕ) → Type 0
RowsBelow high [] = Unit {0}
RowsBelow high (x ∷ xs) = (x.0 < high) × RowsBelow high xs

abbrev pub RowsRise : List (ℕ × ℕ) → Type 0
RowsRise [] = Unit {0}
RowsRise (x ∷ xs) = RowsFrom (x.0 + 1) xs × RowsRise xs

-- Each number is one that a log can have.
abbrev pub NumbersFit : List (ℕ × ℕ) → Type 0
NumbersFit [] = Unit {0}
NumbersFit (x ∷ xs) = ((1 ≤ x.1) × (x.1 < 2 ^ 63)) × NumbersFit xs

abbrev pub is_by : Option Row → ℕ → Bool
is_by None owner = false
is_by (Some r) owner = r.owner == owner

abbrev pub noted_ref : ℕ → ℕ → Option ℕ → Ref
noted_ref owner k None = Shared k
noted_ref owner k (Some n) = Made (record { owner = owner; number = n })

-- The name of row k: for a row of the owner its line's, for another the one by which its owner shares it.
abbrev pub row_ref : List Row → ℕ → List (ℕ × ℕ) → ℕ → Ref
row_ref rows owner notes k = cond (is_by (slice_get rows k) owner) (noted_ref owner k
    (note_of notes k)) (Shared k)
