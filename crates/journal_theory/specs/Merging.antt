-- The lines of several journals in one order: owner 0's, then row by row what its owner made up to it, then what the finisher made last.

use Rattle.std.specs.Prelude.{◌≡◌, ℕ, ◌+◌, ◌^◌, ◌<◌, ◌≤◌, cond, List, [], ◌∷◌, ◌++◌, length, take, drop, get_or, set, max, map, Option, Some, None, slice_get}
use Rattle.log_theory.specs.declared.step.Name.{Name}
use Rattle.log_theory.specs.declared.step.Step.{Step}
use Rattle.log_theory.specs.declared.step.Step.TheVariants.{N}
use Rattle.proof_theory.specs.Forms.{Form}
use Rattle.journal_theory.specs.Referring.{step_refs, NamesRow}
use Rattle.journal_theory.specs.Stepping.{IsWritten}
use Rattle.journal_theory.specs.Journals.{named, numbered, IsJournal, base_of, Row, Journal, no_journal, note_of, Journaled}

-- The journal of an owner.
abbrev pub journal_of : List Journal → ℕ → Journal
journal_of js w = get_or js w no_journal

-- How many of an owner's lines stand in the log.
abbrev pub at_of : List ℕ → ℕ → ℕ
at_of done w = get_or done w 0

-- All of owner 0's lines, and none of the others'.
abbrev pub begun : List Journal → List ℕ
begun [] = []
begun (j ∷ js) = length j.lines ∷ map (λ i. 0) js

-- An owner's lines from those that stand in the log up to number n.
abbrev pub lines_to : List Journal → List ℕ → ℕ → ℕ → List Step
lines_to js done w n = numbered w (at_of done w) (drop (at_of done w) (take n
    (journal_of js w).lines))

-- The number noted for row k, where that is a nogood.
abbrev pub noted_at : List Journal → ℕ → Row → Option ℕ
noted_at js k r = cond r.is_nogood (note_of (journal_of js r.owner).notes k) None

-- What row k brings: its owner's lines up to its clause, and the line that shares this.
abbrev pub row_lines : List Journal → List ℕ → ℕ → ℕ → Option ℕ → List Step
row_lines js done k w None = []
row_lines js done k w (Some n) = lines_to js done w n ++ N k (record { owner = w; number = n }) ∷ []

-- How many lines of each owner stand there then.
abbrev pub row_done : List ℕ → ℕ → Option ℕ → List ℕ
row_done done w None = done
row_done done w (Some n) = set done w (max (at_of done w) n)

-- The rows in order, and then the finisher's further lines.
abbrev pub merge_from : List Journal → ℕ → ℕ → List Row → List ℕ → List Step
merge_from js f k [] done = numbered f (at_of done f) (drop (at_of done f) (journal_of js f).lines)
merge_from js f k (r ∷ rs) done =
    row_lines js done k r.owner (noted_at js k r)
    ++ merge_from js f (k + 1) rs (row_done done r.owner (noted_at js k r))

-- The lines of a log between its head and its last line.
abbrev pub merged : List Journal → ℕ → List Row → List Step
merged js f rows = numbered 0 0 (journal_of js 0).lines ++ merge_from js f 0 rows (begun js)

-- The name of the finisher's last line.
abbrev pub last_name : List Journal → ℕ → Name
last_name js f = record { owner = f; number = length (journal_of js f).lines }

-- Journals of owners from 0 on, beside the rows of a book.
pub record AreJournals (model : List Form) (rows : List Row) (clause : ℕ
    → Form) (js : List Journal) (forms : ℕ → List Form) : Type 0 where
  pub some_ : 0 < length js
  pub few : length js ≤ 65
  pub owners : (k : ℕ) (r : Row) → slice_get rows k ≡ Some r → (0 < r.owner) × (r.owner < length js)
  pub plain : (i k : ℕ) (s : Step) → slice_get (journal_of js 0).lines i ≡ Some s
      → NamesRow (step_refs s) k → ⊥
  pub root : IsJournal (base_of model [] clause 0) 0 (journal_of js 0).lines (forms 0)
  pub each : (w : ℕ) → 0 < w → w < length js
      → Journaled model rows clause (forms 0) w (journal_of js w) (forms w)

-- All numbers of the merged lines are in their ranges.
pub record AreFitting (n : ℕ) (model : List Form) (rows : List Row)
    (js : List Journal) : Type 0 where
  pub model_fits : length model < 2 ^ 63
  pub rows_fit : length rows ≤ 2 ^ 22
  pub short : (w : ℕ) → length (journal_of js w).lines < 2 ^ 63
  pub lines_fit : (w i : ℕ) (s : Step) → w < length js
      → slice_get (journal_of js w).lines i ≡ Some s → IsWritten n (named w i s)
