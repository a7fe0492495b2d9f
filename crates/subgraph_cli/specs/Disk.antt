-- What a run makes of the files.

use Rattle.std.specs.Prelude.{◌≡◌, ℕ, ◌≤◌, Bool, List, Option, Some}
use Rattle.outer_io.specs.Faults.{Use}
use Rattle.outer_io.specs.NamedFiles.{SameFiles}
use Rattle.outer_io.specs.declared.fault.Purpose.TheVariants.{Reading}

-- The files before a run and after it: whether they tell what they hold, what they held before and hold after, how many of their calls had failed
-- before and have after, and of which file the last call was that failed.
pub record Disk : Type 0 where
  pub tells : Bool
  pub content : List ℕ → Option (List ℕ)
  pub after : List ℕ → Option (List ℕ)
  pub faults_before : ℕ
  pub faults_after : ℕ
  pub fault_at : Option Use

-- Files from their first state to their last one.
abbrev pub disk : {S : Type 0} → (S → Bool) → (S → List ℕ → Option (List ℕ)) → (S → ℕ)
    → (S → Option Use) → S → S → Disk
disk tells content faults fault_at old new = record {
  tells = tells old;
  content = content old;
  after = content new;
  faults_before = faults old;
  faults_after = faults new;
  fault_at = fault_at new;
}

-- The last call that failed was one of reading this file.
abbrev pub IsReadingOf : List ℕ → Disk → Type 0
IsReadingOf name d = d.fault_at ≡ Some (name, Reading)

-- Each file holds what it held.
abbrev pub IsUntouched : Disk → Type 0
IsUntouched d = SameFiles d.content d.after

-- Each file holds what it held, and the count of faults has not fallen.
pub record KeepsFiles {S : Type 0} (tells : S → Bool) (content : S → List ℕ → Option (List ℕ))
    (faults : S → ℕ) (old new : S) : Type 0 where
  pub told : tells new ≡ tells old
  pub same : SameFiles (content old) (content new)
  pub later : faults old ≤ faults new

-- Each file of which this is not so holds what it held, and the count of faults has not fallen.
pub record KeepsAllBut {S : Type 0} (tells : S → Bool) (content : S → List ℕ → Option (List ℕ))
    (faults : S → ℕ) (written : List ℕ → Type 0) (old new : S) : Type 0 where
  pub told : tells new ≡ tells old
  pub others : (file : List ℕ) → (written file → ⊥) → content new file ≡ content old file
  pub later : faults old ≤ faults new
