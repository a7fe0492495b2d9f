-- Journals: the lines of one owner, and when they step wherever the log has what they name.

use Rattle.std.specs.Prelude.{◌≡◌, ◌≢◌, ℕ, ◌+◌, ◌<◌, ◌≤◌, ◌==◌, ◌⊎◌, nat_lt, Bool, true, cond, List, [], ◌∷◌, ◌++◌, length, take, Option, Some, None, Ok, slice_get}
use Rattle.log_theory.specs.declared.step.Name.{Name}
use Rattle.log_theory.specs.declared.step.Ref.{Ref}
use Rattle.log_theory.specs.declared.step.Ref.TheVariants.{Line, Made, Shared}
use Rattle.log_theory.specs.declared.step.Step.{Step}
use Rattle.log_theory.specs.declared.step.Step.TheVariants.{P, U}
use Rattle.proof_theory.specs.Forms.{Form}
use Rattle.log_theory.specs.Lookups.{Lookup, makes}
use Rattle.log_theory.specs.Tables.{from_one}
use Rattle.journal_theory.specs.Referring.{step_refs, NamesRow}

-- ---- lines of one owner

-- The name of an owner's line at a place from 0.
abbrev pub own_name : ℕ → ℕ → Name
own_name owner place = record { owner = owner; number = place + 1 }

-- A line that makes a form by operations or by unit propagation.
abbrev pub IsMaking : Step → Type 0
IsMaking (P name ops) = Unit {0}
IsMaking (U name lits refs) = Unit {0}
IsMaking _ = ⊥

-- The line under the name of its owner and place, whatever name it bears.
abbrev pub named : ℕ → ℕ → Step → Step
named owner place (P name ops) = P (own_name owner place) ops
named owner place (U name lits refs) = U (own_name owner place) lits refs
named owner place s = s

-- Lines under the names of their owner from a place on.
abbrev pub numbered : ℕ → ℕ → List Step → List Step
numbered owner place [] = []
numbered owner place (s ∷ ss) = named owner place s ∷ numbered owner (place + 1) ss

-- What the one lookup finds the other finds too.
pub record Finds (less more : Lookup) : Type 0 where
  pub alike : (r : Ref) (f : Form) → less r ≡ Some f → more r ≡ Some f

-- A lookup finds the owner's forms by their names.
pub record HoldsOwn (owner : ℕ) (forms : List Form) (look : Lookup) : Type 0 where
  pub own : (k : ℕ) (f : Form) → slice_get forms k ≡ Some f
      → look (Made (own_name owner k)) ≡ Some f

-- Each line makes its form from every lookup that finds what the base does and the owner's earlier forms.
pub record IsJournal (base : Lookup) (owner : ℕ) (lines : List Step)
    (forms : List Form) : Type 0 where
  pub same : length lines ≡ length forms
  pub making : (k : ℕ) (s : Step) → slice_get lines k ≡ Some s → IsMaking s
  pub steps : (k : ℕ) (s : Step) (f : Form) (look : Lookup) → slice_get lines k ≡ Some s
      → slice_get forms k ≡ Some f → Finds base look
      → HoldsOwn owner (take k forms) look → makes look s ≡ Ok f

-- What is there before an owner's lines: the model, owner 0's forms, and the clauses of the rows below a place.
abbrev pub base_of : List Form → List Form → (ℕ → Form) → ℕ → Lookup
base_of model root clause seen (Line k) = from_one model k
base_of model root clause seen (Made name) = cond (name.owner == 0) (from_one root name.number) None
base_of model root clause seen (Shared row) = cond (nat_lt row seen) (Some (clause row)) None

-- ---- journals beside a book of rows

-- A row of a book, as far as a log speaks of it.
pub record Row : Type 0 where
  pub owner : ℕ
  pub is_nogood : Bool

-- Row k is a nogood of the owner.
abbrev pub IsNogoodOf : List Row → ℕ → ℕ → Type 0
IsNogoodOf rows k owner = (r : Row) × (slice_get rows k ≡ Some r) × (r.is_nogood ≡ true)
    × (r.owner ≡ owner)

-- The lines of one owner, and for each of its nogood rows the number of the line that is its clause.
pub record Journal : Type 0 where
  pub lines : List Step
  pub notes : List (ℕ × ℕ)

abbrev pub no_journal : Journal
no_journal = record { lines = []; notes = [] }

-- The number that is noted for a row: the first.
abbrev pub note_of : List (ℕ × ℕ) → ℕ → Option ℕ
note_of [] k = None
note_of (x ∷ xs) k = cond (x.0 == k) (Some x.1) (note_of xs k)

-- The journal's lines step beside the rows; a row that is named is a nogood of another owner; each nogood row of the owner has its clause
-- noted, and the lines up to that name only rows below it.
pub record Journaled (model : List Form) (rows : List Row) (clause : ℕ
    → Form) (root : List Form) (owner : ℕ) (j : Journal) (forms : List Form) : Type 0 where
  pub journal : IsJournal (base_of model root clause (length rows)) owner j.lines forms
  pub foreign : (i k : ℕ) (s : Step) → slice_get j.lines i ≡ Some s → NamesRow (step_refs s) k
      → (o : ℕ) × IsNogoodOf rows k o × (o ≢ owner)
  pub noted : (k : ℕ) → IsNogoodOf rows k owner
      → (n : ℕ) × (note_of j.notes k ≡ Some n) × (from_one forms n ≡ Some (clause k))
  pub early : (k n i m : ℕ) (s : Step) → IsNogoodOf rows k owner → note_of j.notes k ≡ Some n
      → i < n → slice_get j.lines i ≡ Some s
      → NamesRow (step_refs s) m → m < k

-- ---- how a journal grows

-- The journal with one line more.
abbrev pub with_line : Journal → Step → Journal
with_line j s = record { lines = j.lines ++ s ∷ []; notes = j.notes }

-- The journal with one note more.
abbrev pub with_note : Journal → ℕ → ℕ → Journal
with_note j k n = record { lines = j.lines; notes = j.notes ++ (k, n) ∷ [] }

-- Rows may have come, none of them a nogood of the owner.
pub record GrowsFor (rows more : List Row) (owner : ℕ) : Type 0 where
  pub rest : List Row
  pub front : more ≡ rows ++ rest
  pub none_own : (k : ℕ) → IsNogoodOf more k owner → k < length rows

-- Rows may have come, and of these exactly row k is a nogood of the owner.
pub record PublishesAt (rows more : List Row) (owner k : ℕ) : Type 0 where
  pub rest : List Row
  pub front : more ≡ rows ++ rest
  pub behind : length rows ≤ k
  pub within : k < length more
  pub own : (i : ℕ) → IsNogoodOf more i owner → (i < length rows) ⊎ (i ≡ k)

-- The rows and some more of the owner's own behind them: all that are nogoods of others are among the rows.
pub record EndsInOwn (rows whole : List Row) (owner : ℕ) : Type 0 where
  pub rest : List Row
  pub front : whole ≡ rows ++ rest
  pub others : (k o : ℕ) → IsNogoodOf whole k o → o ≢ owner → k < length rows
