-- The steps of a log that is written of journals, and when they may be written.
use Rattle.std.specs.Prelude.{◌≡◌, ℕ, ◌+◌, ◌^◌, ◌<◌, ◌≤◌, ◌⊎◌, true, List, [], ◌∷◌, ◌++◌, length, map, Some, slice_get}
use Rattle.log_theory.specs.declared.step.Ref.TheVariants.{Made}
use Rattle.log_theory.specs.declared.step.Step.{Step}
use Rattle.log_theory.specs.declared.step.Step.TheVariants.{Head, Model, E}
use Rattle.log_theory.specs.declared.step.Verdict.TheVariants.{Unsatisfiable}
use Rattle.log_theory.specs.Tables.{from_one}
use Rattle.log_theory.specs.Acceptance.{lines_text, Accepts}
use Rattle.proof_theory.specs.Forms.{Form}
use Rattle.proof_theory.specs.Rules.{is_contradiction}
use Rattle.nogood_book.specs.declared.row.Row.{Row as BookRow}
use Rattle.nogood_book.specs.Places.{is_nogood}
use Rattle.journals.specs.Keeping.{Keeping, BearNames, AreSteps}
use Rattle.log_theory.specs.Verdicts.{in_range, step_variables}
use Rattle.journal_theory.specs.Stepping.{step_line}
use Rattle.journal_theory.specs.Journals.{Row, Journal, Journaled}
use Rattle.journal_theory.specs.Merging.{journal_of, row_lines, row_done, noted_at, merged, last_name}
use Rattle.merged_log.specs.Notes.{NotesRise}

-- A journal that is kept, and a row of a book, as far as a log speaks of them.
abbrev pub journal_in : Keeping → Journal
journal_in j = record { lines = j.steps; notes = j.notes }

abbrev pub row_in : BookRow → Row
row_in r = record { owner = r.owner; is_nogood = is_nogood r.kind }

abbrev pub journals_in : List Keeping → List Journal
journals_in js = map journal_in js

abbrev pub rows_in : List BookRow → List Row
rows_in rows = map row_in rows

-- The two lines at the head of every log.
abbrev pub head_steps : ℕ → List Step
head_steps lines = Head ∷ Model lines ∷ []

-- What rows bring, row after row, the first of them being row k; and how many lines of each owner stand there then.
abbrev pub rows_steps : List Journal → ℕ → List Row → List ℕ → List Step
rows_steps js k [] done = []
rows_steps js k (r ∷ rs) done = row_lines js done k r.owner (noted_at js k r)
    ++ rows_steps js (k + 1) rs (row_done done r.owner (noted_at js k r))

abbrev pub rows_done : List Journal → ℕ → List Row → List ℕ → List ℕ
rows_done js k [] done = done
rows_done js k (r ∷ rs) done = rows_done js (k + 1) rs (row_done done r.owner (noted_at js k r))

-- The steps of a log of a refutation: the head, the merged lines, and the last line, which names the finisher's last.
abbrev pub refutation : ℕ → List Keeping → List BookRow → ℕ → List Step
refutation lines js rows f = Head ∷ Model lines ∷ (merged (journals_in js) f (rows_in rows)
    ++ E (Made (last_name (journals_in js) f)) ∷ [])

-- The text of steps.
abbrev pub log_text : List Step → List ℕ
log_text steps = lines_text (map step_line steps)

-- The journals stand at the places of their owners, from 0 on.
abbrev pub StandAtOwners : List Keeping → Type 0
StandAtOwners js = (w : ℕ) (j : Keeping) → slice_get js w ≡ Some j → j.owner ≡ w

-- Each journal's notes rise.
abbrev pub AllRise : List Keeping → Type 0
AllRise js = (w : ℕ) (j : Keeping) → slice_get js w ≡ Some j → NotesRise j.notes

-- Each row's owner has a journal.
abbrev pub HaveOwners : List Keeping → List BookRow → Type 0
HaveOwners js rows = (k : ℕ) (r : BookRow) → slice_get rows k ≡ Some r → r.owner < length js

-- The number that is noted for a row is that of one of its owner's lines.
abbrev pub NotesAreOfLines : List Journal → List Row → Type 0
NotesAreOfLines js rows = (k n : ℕ) (r : Row) → slice_get rows k ≡ Some r
    → noted_at js k r ≡ Some n → (1 ≤ n) × (n ≤ length (journal_of js r.owner).lines)

-- The lines of a journal bear their owner's names, in their ranges, and are not too many to be numbered.
pub record IsWrittenDown (j : Keeping) : Type 0 where
  pub names : BearNames j.owner j.steps
  pub ranges : AreSteps j.steps
  pub few : length j.steps < 2 ^ 63

abbrev pub AllWritten : List Keeping → Type 0
AllWritten js = (w : ℕ) (j : Keeping) → slice_get js w ≡ Some j → IsWrittenDown j

-- The variables of all lines are among the first n.
abbrev pub AreInRange : ℕ → List Journal → Type 0
AreInRange n js = (w i : ℕ) (s : Step) → w < length js
    → slice_get (journal_of js w).lines i ≡ Some s → in_range n (step_variables s) ≡ true

-- ---- journals that stand beside the same rows

-- Each journal makes these forms beside the rows, owner 0's forms not counted, with its variables among the first n; the journals stand at
-- their owners, and their notes rise.
pub record StandBeside (n : ℕ) (model : List Form) (rows : List BookRow) (clause : ℕ
    → Form) (js : List Keeping) (fs : List (List Form)) : Type 0 where
  pub same : length fs ≡ length js
  pub owners : StandAtOwners js
  pub notes : AllRise js
  pub each : (w : ℕ) (j : Keeping) (forms : List Form) → slice_get js w ≡ Some j
      → slice_get fs w ≡ Some forms → Journaled model (rows_in rows) clause [] j.owner
      (journal_in j) forms
  pub ranges : (w i : ℕ) (j : Keeping) (s : Step) → slice_get js w ≡ Some j
      → slice_get j.steps i ≡ Some s → in_range n (step_variables s) ≡ true

-- Owner 0 is alone, and there are no rows; or it has no forms.
abbrev pub IsAloneOrBare : List BookRow → List Keeping → List (List Form) → Type 0
IsAloneOrBare rows js fs = ((rows ≡ []) × (length js ≡ 1)) ⊎ (slice_get fs 0 ≡ Some [])

-- Each row is of an owner from 1 on that has a journal.
abbrev pub AreOfWorkers : List Keeping → List BookRow → Type 0
AreOfWorkers js rows = (k : ℕ) (r : BookRow) → slice_get rows k ≡ Some r
    → (0 < r.owner) × (r.owner < length js)

-- The last form of this owner is plainly false.
pub record EndsFalse (js : List Keeping) (fs : List (List Form)) (f : ℕ) : Type 0 where
  pub journal : Keeping
  pub journal_is : slice_get js f ≡ Some journal
  pub forms : List Form
  pub forms_are : slice_get fs f ≡ Some forms
  pub last : Form
  pub last_is : from_one forms (length journal.steps) ≡ Some last
  pub plainly_false : is_contradiction last ≡ true

-- A log may be written of such journals, and it is accepted.
pub record MayBeMerged (n : ℕ) (model : List Form) (js : List Keeping) (rows : List BookRow)
    (f : ℕ) : Type 0 where
  pub owned : HaveOwners js rows
  pub lines : NotesAreOfLines (journals_in js) (rows_in rows)
  pub finisher : f < length js
  pub ends : 0 < length (journal_of (journals_in js) f).lines
  pub accepted : Accepts n model (log_text (refutation (length model) js rows f)) Unsatisfiable
