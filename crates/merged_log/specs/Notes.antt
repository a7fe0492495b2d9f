-- The numbers that a journal notes for rows.
use Rattle.std.specs.Prelude.{◌≡◌, ℕ, ◌<◌, List, [], ◌∷◌, ◌++◌, Some, slice_get}
use Rattle.journal_theory.specs.Journals.{note_of}

-- Notes are kept in the order of their rows: a row is noted when it was published, and rows are published in their order.
abbrev pub NotesRise : List (ℕ × ℕ) → Type 0
NotesRise notes = (i j : ℕ) (x y : ℕ × ℕ) → slice_get notes i ≡ Some x
    → slice_get notes j ≡ Some y → i < j → x.0 < y.0

-- Notes rise from the first on, as long as each new one is of a row behind all that were noted.
pub record NoteLaws : Type 0 where
  pub none : NotesRise []
  pub more : (notes : List (ℕ × ℕ)) (k n : ℕ) → NotesRise notes → ((i m : ℕ)
      → note_of notes i ≡ Some m → i < k) → NotesRise (notes ++ (k, n) ∷ [])
