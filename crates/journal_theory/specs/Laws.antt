-- The laws of journals, from the definitions alone.

use Rattle.std.specs.Prelude.{◌≡◌, ℕ, ◌<◌, ◌≤◌, true, List, [], ◌∷◌, ◌++◌, length, map, Some, None, Ok, slice_get}
use Rattle.log_theory.specs.declared.step.Ref.TheVariants.{Made}
use Rattle.log_theory.specs.declared.step.Step.{Step}
use Rattle.log_theory.specs.declared.step.Verdict.TheVariants.{Unsatisfiable}
use Rattle.proof_theory.specs.Forms.{Form}
use Rattle.proof_theory.specs.Rules.{is_contradiction}
use Rattle.log_theory.specs.Lookups.{Lookup, makes}
use Rattle.log_theory.specs.Tables.{Table, empty_table, made_by, from_one, undeleted}
use Rattle.log_theory.specs.Acceptance.{lines_text, Accepts}
use Rattle.journal_theory.specs.Referring.{RefsLaw, step_refs, NamesRow}
use Rattle.journal_theory.specs.Stepping.{StepsRun, step_line, whole_log, TextLaw, NoFeedLaw, LinesLaw}
use Rattle.journal_theory.specs.Journals.{IsMaking, Finds, HoldsOwn, IsJournal, base_of, Row, IsNogoodOf, Journal, no_journal, Journaled, with_line, with_note, note_of, GrowsFor, PublishesAt, EndsInOwn}
use Rattle.journal_theory.specs.Merging.{journal_of, merged, last_name, AreJournals, AreFitting}

-- What lines make and what their texts are.
pub record LineLaws : Type 0 where
  pub refs : RefsLaw
  pub text : TextLaw
  pub no_feed : NoFeedLaw
  pub lines : LinesLaw

-- The merged lines of journals step from the empty table, and lead to one that has all of the finisher's forms.
abbrev pub MergeLaw : Type 0
MergeLaw = (model : List Form) (rows : List Row) (clause : ℕ
    → Form) (js : List Journal) (forms : ℕ → List Form) (f : ℕ)
    → AreJournals model rows clause js forms → f < length js
    → (t : Table) × StepsRun model empty_table (merged js f rows) t × (made_by t f ≡ undeleted (forms f))

-- Where the finisher's last form is plainly false, the merged log is accepted.
abbrev pub AcceptedLaw : Type 0
AcceptedLaw = (n : ℕ) (model : List Form) (rows : List Row) (clause : ℕ
    → Form) (js : List Journal) (forms : ℕ → List Form) (f : ℕ) (last : Form)
    → AreJournals model rows clause js forms
    → AreFitting n model rows js → f < length js
    → from_one (forms f) (length (journal_of js f).lines) ≡ Some last
    → is_contradiction last ≡ true
    → Accepts n model (lines_text (map step_line (whole_log model (merged js f rows) (Made
    (last_name js f))))) Unsatisfiable

pub record MergeLaws : Type 0 where
  pub merged_steps : MergeLaw
  pub accepted : AcceptedLaw

-- How a worker keeps its journal: from no line on, line by line, as rows come and as its own rows are noted. Behind its rows it may have
-- others of its own, which nobody else sees: the journal stands without them.
pub record GrowthLaws : Type 0 where
  pub start : (model : List Form) (rows : List Row) (clause : ℕ
      → Form) (root : List Form) (owner : ℕ) → ((k : ℕ) → IsNogoodOf rows k owner → ⊥)
      → Journaled model rows clause root owner no_journal []
  pub kept : (model : List Form) (rows : List Row) (clause : ℕ
      → Form) (root : List Form) (owner : ℕ) (j : Journal) (forms : List Form) (s : Step) (f : Form)
      → Journaled model rows clause root owner j forms → IsMaking s
      → ((look : Lookup) → Finds (base_of model root clause (length rows)) look
      → HoldsOwn owner forms look → makes look s ≡ Ok f)
      → ((k : ℕ) → NamesRow (step_refs s) k → (o : ℕ) × IsNogoodOf rows k o × (o ≡ owner → ⊥))
      → Journaled model rows clause root owner (with_line j s) (forms ++ f ∷ [])
  pub grows : (model : List Form) (rows more : List Row) (clause : ℕ
      → Form) (root : List Form) (owner : ℕ) (j : Journal) (forms : List Form)
      → Journaled model rows clause root owner j forms → GrowsFor rows more owner
      → Journaled model more clause root owner j forms
  pub noted : (model : List Form) (rows more : List Row) (clause : ℕ
      → Form) (root : List Form) (owner : ℕ) (j : Journal) (forms : List Form) (k n : ℕ)
      → Journaled model rows clause root owner j forms → PublishesAt rows more owner k
      → note_of j.notes k ≡ None
      → from_one forms n ≡ Some (clause k)
      → Journaled model more clause root owner (with_note j k n) forms
  pub clauses : (model : List Form) (rows : List Row) (clause other : ℕ
      → Form) (root : List Form) (owner : ℕ) (j : Journal) (forms : List Form)
      → ((k : ℕ) → k < length rows → other k ≡ clause k)
      → Journaled model rows clause root owner j forms
      → Journaled model rows other root owner j forms
  pub wider : (less more : Lookup) (owner : ℕ) (lines : List Step) (forms : List Form)
      → Finds less more → IsJournal less owner lines forms → IsJournal more owner lines forms
  pub narrower : (model root : List Form) (clause : ℕ
      → Form) (few many owner : ℕ) (lines : List Step) (forms : List Form) → few ≤ many
      → ((i k : ℕ) (s : Step) → slice_get lines i ≡ Some s → NamesRow (step_refs s) k → k < few)
      → IsJournal (base_of model root clause many) owner lines forms
      → IsJournal (base_of model root clause few) owner lines forms
  pub without_own : (model : List Form) (rows whole : List Row) (clause : ℕ
      → Form) (root : List Form) (owner : ℕ) (j : Journal) (forms : List Form)
      → EndsInOwn rows whole owner → Journaled model whole clause root owner j forms
      → Journaled model rows clause root owner j forms
