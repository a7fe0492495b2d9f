-- What giving the line of a dead path does.

use Rattle.std.specs.Prelude.{ℕ, List, length, take, drop, Option, Result}
use Rattle.std.specs.declared.alloc.AllocError.{AllocError}
use Rattle.graph_theory.specs.Embedding.{Problem}
use Rattle.search_theory.specs.Account.{Account, path}
use Rattle.proof_theory.specs.Forms.{Form}
use Rattle.log_theory.specs.declared.step.Name.{Name}
use Rattle.nogood_book.specs.declared.row.Row.{Row}
use Rattle.journals.specs.Keeping.{Keeping}
use Rattle.log_growth.specs.Frames.{Frame, After}
use Rattle.dead_paths.specs.Explaining.{IsDeadName}
use Rattle.search_journal.specs.declared.refuted.Refuted.{Refuted}
use Rattle.search_journal.specs.Lines.{row_frame}
use Rattle.search_journal.specs.Entries.{AreFrom, AreBelow, Writes}

-- Lines were added to those that stood, the last one that of the account's path, where the entries from a place on are those of the level after it.
abbrev pub IsLined : (Problem → Frame → List Form → Type 0) → (Problem → Frame → List Form
    → Type 0) → Problem → Keeping → Keeping → ℕ → List (ℕ × ℕ) → List Refuted → Problem
    → List Row → Account → ℕ
    → Result (Option Name) AllocError → Type 0
IsLined knows later lines old new owner numbers entries q rows a above result =
    (w : Writes knows lines old owner numbers entries q rows a)
    → AreFrom (length (path a)) (drop above entries)
    → AreBelow (length (path a)) (take above entries)
    → After (row_frame q rows old.owner) old.steps new.steps w.forms (IsDeadName q (path a)
    (row_frame q rows old.owner) (later q (row_frame q rows old.owner)) result)
