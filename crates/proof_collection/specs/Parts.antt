-- The parts of a log, and what they have to be for it to be accepted.

use Rattle.std.specs.Prelude.{◌≡◌, ℕ, ◌<◌, ◌≤◌, ◌⊎◌, true, List, [], length, Some, slice_get}
use Rattle.graph_theory.specs.Embedding.{Problem}
use Rattle.proof_theory.specs.Forms.{Form}
use Rattle.proof_theory.specs.Rules.{is_contradiction}
use Rattle.log_theory.specs.Tables.{from_one}
use Rattle.nogood_book.specs.declared.row.Row.{Row}
use Rattle.journals.specs.Keeping.{Keeping}
use Rattle.merged_log.specs.Steps.{StandAtOwners, AreOfWorkers}
use Rattle.search_journal.specs.Lines.{StandsBeside}
use Rattle.proof_collection.specs.declared.proof.Logged.{Logged}

-- The form of the last line is plainly false.
pub record IsPlainlyFalse (j : Keeping) (forms : List Form) : Type 0 where
  pub last : Form
  pub last_is : from_one forms (length j.steps) ≡ Some last
  pub plainly_false : is_contradiction last ≡ true

-- The journal at a place makes these forms beside the rows, and if it is the finisher's the last of them is plainly false.
pub record StandsAt (q : Problem) (rows : List Row) (finisher place : ℕ) (j : Keeping)
    (forms : List Form) : Type 0 where
  pub beside : StandsBeside q rows j forms
  pub ends : place ≡ finisher → IsPlainlyFalse j forms

-- The first journal has no line.
abbrev pub IsBare : List Keeping → Type 0
IsBare journals = (j : Keeping) → slice_get journals 0 ≡ Some j → j.steps ≡ []

-- Owner 0 is alone, and there are no rows.
pub record IsAlone (rows : List Row) (journals : List Keeping) : Type 0 where
  pub rows_none : rows ≡ []
  pub one : length journals ≡ 1

-- The journals stand at their owners beside the rows, which are the workers' own, and the finisher's refutes.
pub record ArePartsOf (q : Problem) (l : Logged) : Type 0 where
  pub few : length l.journals.items ≤ 65
  pub fit : length l.rows.items ≤ 4194304
  pub owners : StandAtOwners l.journals.items
  pub workers : AreOfWorkers l.journals.items l.rows.items
  pub root : IsAlone l.rows.items l.journals.items ⊎ IsBare l.journals.items
  pub finisher : l.finisher < length l.journals.items
  pub each : (w : ℕ) (j : Keeping) → slice_get l.journals.items w ≡ Some j
      → (forms : List Form) × StandsAt q l.rows.items l.finisher w j forms
