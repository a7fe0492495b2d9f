-- What writing a text to a file leaves of it.

use Rattle.std.specs.Prelude.{◌≡◌, ℕ, ◌≤◌, ◌⊎◌, Bool, List, take, Option, Some}
use Rattle.outer_io.specs.Faults.{Use, Rose}
use Rattle.outer_io.specs.NamedFiles.{SameOthers}
use Rattle.outer_io.specs.declared.fault.Purpose.TheVariants.{Writing}

-- A file holds what it held, or a front part of the text.
abbrev pub IsCutShort : Option (List ℕ) → Option (List ℕ) → List ℕ → Type 0
IsCutShort before after text = (after ≡ before) ⊎ ((n : ℕ) × (after ≡ Some (take n text)))

-- A call failed, and the last one that did was one of writing this file.
pub record FailsAt (name : List ℕ) (before after : ℕ) (fault_at : Option Use) : Type 0 where
  pub rose : Rose before after
  pub at : fault_at ≡ Some (name, Writing)

-- Each file but this one holds what it held, and the count of faults has not fallen.
pub record KeepsAllBut {S : Type 0} (tells : S → Bool) (content : S → List ℕ → Option (List ℕ))
    (faults : S → ℕ) (name : List ℕ) (old new : S) : Type 0 where
  pub told : tells new ≡ tells old
  pub others : SameOthers name (content old) (content new)
  pub later : faults old ≤ faults new
