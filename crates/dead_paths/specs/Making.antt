-- Lines for first domains, for pairs of vertices and for sets, as those who make them answer.

use Rattle.std.specs.Prelude.{Option, ℕ, Bool, List, Result, Ok, Err}
use Rattle.std.specs.declared.alloc.AllocError.{AllocError}
use Rattle.graph_theory.specs.Embedding.{Problem}
use Rattle.proof_theory.specs.Forms.{Form}
use Rattle.log_theory.specs.declared.step.Name.{Name}
use Rattle.log_theory.specs.declared.step.Ref.{Ref}
use Rattle.explanation_theory.specs.Reasons.{pairs_clause, ForcesFirst}
use Rattle.nogood_book.specs.declared.row.Row.{Row}
use Rattle.nogood_book.specs.Rows.{path_at}
use Rattle.nogood_book.specs.Places.{IsNogoodRow}
use Rattle.dead_theory.specs.Changes.{Forces}
use Rattle.log_growth.specs.Frames.{Frame, IsNamed}
use Rattle.dead_paths.specs.Lines.{IsSetKept}

-- The reference names a form that takes from p whatever is not in its first domain.
pub record IsFirstLine (q : Problem) (w : Frame) (p : ℕ) (r : Ref)
    (forms : List Form) : Type 0 where
  pub line : Form
  pub forces : ForcesFirst q line p
  pub named : IsNamed w forms r line

-- The reference names a form that, where p is at t, takes from r whatever is not consistent with this; or, where edges alone are asked, what they
-- refuse.
pub record IsRowLine (by_edges : Bool) (q : Problem) (w : Frame) (p t r : ℕ) (ref : Ref)
    (forms : List Form) : Type 0 where
  pub line : Form
  pub forces : Forces by_edges q line p t r
  pub named : IsNamed w forms ref line

-- The answer is such a reference, and the maker knows what it is to know of the forms.
abbrev pub GivesFirst : Problem → Frame → ℕ → Result Ref AllocError → (List Form → Type 0)
    → List Form → Type 0
GivesFirst q w p (Ok ref) knows forms = knows forms × IsFirstLine q w p ref forms
GivesFirst q w p (Err e) knows forms = Unit {0}

abbrev pub GivesRow : Bool → Problem → Frame → ℕ → ℕ → ℕ → Result Ref AllocError → (List Form
    → Type 0) → List Form → Type 0
GivesRow by_edges q w p t r (Ok ref) knows forms = knows forms
    × IsRowLine by_edges q w p t r ref forms
GivesRow by_edges q w p t r (Err e) knows forms = Unit {0}

-- The answer is the name of the set's form, and the maker knows what it is to know of the forms.
abbrev pub GivesSet : Problem → Frame → Option ℕ → List ℕ → List ℕ → Result Name AllocError → (List Form
    → Type 0) → List Form → Type 0
GivesSet q w b vertices values (Ok n) knows forms = knows forms
    × IsSetKept q b vertices values w (Ok n) forms
GivesSet q w b vertices values (Err e) knows forms = Unit {0}

-- Each nogood row's reference names the clause of its path.
abbrev pub AreRowsNamed : Problem → List Row → Frame → (ℕ → Ref) → List Form → Type 0
AreRowsNamed q rows w names forms = (k : ℕ) → IsNogoodRow rows k
    → IsNamed w forms (names k) (pairs_clause q (path_at rows k))
