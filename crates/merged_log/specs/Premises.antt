-- What a merge asks of journals and rows, where they are journals beside these rows.
use Rattle.std.specs.Prelude.{◌≡◌, ℕ, ◌<◌, List, length, Some}
use Rattle.proof_theory.specs.Forms.{Form}
use Rattle.log_theory.specs.Tables.{from_one}
use Rattle.nogood_book.specs.declared.row.Row.{Row as BookRow}
use Rattle.journals.specs.Keeping.{Keeping}
use Rattle.journal_theory.specs.Merging.{journal_of, AreJournals}
use Rattle.merged_log.specs.Steps.{journals_in, rows_in, HaveOwners, NotesAreOfLines}

-- Each row's owner has a journal; what is noted for a row is one of its owner's lines; and an owner with a last form has a line.
pub record PremiseLaws : Type 0 where
  pub owned : (model : List Form) (rows : List BookRow) (clause : ℕ
      → Form) (js : List Keeping) (forms : ℕ → List Form)
      → AreJournals model (rows_in rows) clause (journals_in js) forms → HaveOwners js rows
  pub of_lines : (model : List Form) (rows : List BookRow) (clause : ℕ
      → Form) (js : List Keeping) (forms : ℕ → List Form)
      → AreJournals model (rows_in rows) clause (journals_in js) forms
      → NotesAreOfLines (journals_in js) (rows_in rows)
  pub ends : (js : List Keeping) (forms : ℕ → List Form) (f : ℕ) (last : Form)
      → from_one (forms f) (length (journal_of (journals_in js) f).lines) ≡ Some last
      → 0 < length (journal_of (journals_in js) f).lines
