-- How a table keeps its rows: their numbers, which rise, and beside them what stands under each.
use Rattle.std.specs.Prelude.{◌≡◌, ℕ, ◌<◌, ◌≤◌, List, [], ◌∷◌, ◌++◌, length, get_or, set, Option, Some}
use Rattle.proof_theory.specs.Forms.{Form}

-- The lists with one more form of an owner.
abbrev pub grown : List (List (Option Form)) → ℕ → Form → List (List (Option Form))
grown made owner f = set made owner (get_or made owner [] ++ Some f ∷ [])

-- The lists with another item at a place of an owner's.
abbrev pub replaced : List (List (Option Form)) → ℕ → ℕ → Option Form → List (List (Option Form))
replaced made owner i f = set made owner (set (get_or made owner []) i f)

-- The rows with what stands under them.
abbrev pub rows_of : List ℕ → List (Option Form) → List (ℕ × Option Form)
rows_of (r ∷ rs) (f ∷ fs) = (r, f) ∷ rows_of rs fs
rows_of _ _ = []

-- The rows rise, and under each something stands, or stood.
pub record AreKept (rows : List ℕ) (forms : List (Option Form)) : Type 0 where
  pub rise : (i j : ℕ) → i < j → j < length rows → get_or rows i 0 < get_or rows j 0
  pub long : length forms ≡ length rows

-- The row stands at this index.
pub record StandsAt (rows : List ℕ) (row i : ℕ) : Type 0 where
  pub inside : i < length rows
  pub here : get_or rows i 0 ≡ row

-- The row is not there, and would stand at this index: lower rows are before it, higher ones from it on.
pub record WouldStand (rows : List ℕ) (row i : ℕ) : Type 0 where
  pub inside : i ≤ length rows
  pub lower : (k : ℕ) → k < i → get_or rows k 0 < row
  pub higher : (k : ℕ) → i ≤ k → k < length rows → row < get_or rows k 0
