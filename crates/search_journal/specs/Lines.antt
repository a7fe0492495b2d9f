-- The lines of a worker beside the rows of a book, as a log takes them, and when they refute.

use Rattle.std.specs.Prelude.{◌≡◌, ℕ, true, List, [], length, map, Some}
use Rattle.graph_theory.specs.Embedding.{Problem}
use Rattle.proof_theory.specs.Forms.{Form}
use Rattle.proof_theory.specs.Rules.{is_contradiction}
use Rattle.log_theory.specs.Tables.{from_one}
use Rattle.encoding_theory.specs.Encoding.{encoding}
use Rattle.explanation_theory.specs.Reasons.{pairs_clause}
use Rattle.nogood_book.specs.declared.row.Row.{Row}
use Rattle.nogood_book.specs.Rows.{path_at}
use Rattle.nogood_book.specs.Places.{is_nogood}
use Rattle.journal_theory.specs.Journals.{Row as LogRow, Journaled}
use Rattle.journals.specs.Keeping.{Keeping}
use Rattle.log_growth.specs.Frames.{Frame, Stands}
use Rattle.log_growth.specs.Rows.{frame_of}
use Rattle.search_journal.specs.Numbers.{RowsRise}

-- A row of a book as a log speaks of it.
abbrev pub log_row : Row → LogRow
log_row r = record { owner = r.owner; is_nogood = is_nogood r.kind }

abbrev pub log_rows : List Row → List LogRow
log_rows rows = map log_row rows

-- The clause of row k: that not all pairs of its path hold.
abbrev pub row_clause : Problem → List Row → ℕ → Form
row_clause q rows k = pairs_clause q (path_at rows k)

-- The frame of an owner beside rows. Owner 0 has no lines there.
abbrev pub row_frame : Problem → List Row → ℕ → Frame
row_frame q rows owner = frame_of q (log_rows rows) (row_clause q rows) [] owner

-- The lines make these forms beside the rows, and each row of the owner has its clause noted, the rows rising.
pub record StandsBeside (q : Problem) (rows : List Row) (j : Keeping)
    (forms : List Form) : Type 0 where
  pub journaled : Journaled (encoding q) (log_rows rows) (row_clause q rows) [] j.owner
      (record { lines = j.steps; notes = j.notes }) forms
  pub stands : Stands (row_frame q rows j.owner) j.steps forms
  pub notes : RowsRise j.notes

-- They do so for some forms.
pub record Steps (lines : Problem) (j : Keeping) (q : Problem) (rows : List Row) : Type 0 where
  pub problem_is : lines ≡ q
  pub forms : List Form
  pub beside : StandsBeside q rows j forms

-- And the form of the last line is plainly false.
pub record Refutes (lines : Problem) (j : Keeping) (q : Problem) (rows : List Row) : Type 0 where
  pub problem_is : lines ≡ q
  pub forms : List Form
  pub beside : StandsBeside q rows j forms
  pub last : Form
  pub last_is : from_one forms (length j.steps) ≡ Some last
  pub plainly_false : is_contradiction last ≡ true
