-- Which sink a sink is, what stands beside it, and the cause that a call on it gives for its answer.
use Rattle.std.specs.Prelude.{◌≡◌, ℕ, ◌≤◌, Bool, List, [], ◌∷◌, ◌++◌, Option, None, Result, OnOk, OnErr, bytes_eq, if◌then◌else◌}
use Rattle.std.specs.Borrow.{Bor}
use Rattle.outer_io.specs.Faults.{Rose}

-- What no call on a sink changes: the reference that it stands over and its file's name (0 and nothing where it has none),
-- whether its contents are told, and whether it is steady.
pub record Spot : Type 0 where
  pub over : ℕ
  pub file : List ℕ
  pub told : Bool
  pub steady : Bool

-- It is the same sink still, and what stands beside it is as it was. The count of faults stays at `Ok`; it rises at `Err`,
-- and the last fault is then this sink's.
pub record HasBlame {S T E : Type 0} (spot : S → Spot) (rest : S → List ℕ
    → Option (List ℕ)) (faults : S → ℕ) (blamed : S
    → Type 0) (old new : S) (result : Result T E) : Type 0 where
  pub same : spot new ≡ spot old
  pub others : (file : List ℕ) → rest new file ≡ rest old file
  pub later : faults old ≤ faults new
  pub quiet : OnOk result (faults new ≡ faults old)
  pub failed : OnErr result (Rose (faults old) (faults new))
  pub blame : OnErr result (blamed new)

-- the content of each file but one
abbrev pub other_content : (List ℕ → Option (List ℕ)) → List ℕ → List ℕ → Option (List ℕ)
other_content content name file = if bytes_eq file name then None else content file

-- the first text and then the pieces, one after another
abbrev pub joined_to : List ℕ → List (Bor (List ℕ)) → List ℕ
joined_to text [] = text
joined_to text (piece ∷ pieces) = joined_to (text ++ piece.now) pieces

-- the pieces, one after another
abbrev pub joined : List (Bor (List ℕ)) → List ℕ
joined [] = []
joined (piece ∷ pieces) = joined_to piece.now pieces
