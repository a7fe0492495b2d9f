-- How the literals that a form forces and the setting after it agree.
use Rattle.std.specs.Prelude.{◌≡◌, ◌↔◌, ℕ, ◌<◌, length, slice_index_or, ℤ, pos, negsuc, Bool, true, false, Option, Some, None}
use Rattle.proof_theory.specs.Forms.{Form, Rises}
use Rattle.proof_theory.specs.Slack.{Setting, wanted, Forces, after}

-- The term at a place.
abbrev pub term_at : Form → ℕ → ℕ × ℤ
term_at f place = slice_index_or f.terms place (0, pos 0)

-- Where no variable has two terms, a form forces the literal of a term exactly where its variable has no value before the form, and after it the value that makes the literal true.
abbrev pub ForcesWhatIsSetAfter : Type 0
ForcesWhatIsSetAfter = (s : Setting) (f : Form) (place : ℕ) → Rises 0 f.terms
    → place < length f.terms
    → Forces s f (term_at f place) ↔ ((s (term_at f place).0 ≡ None)
    × (after s f (term_at f place).0 ≡ Some (wanted (term_at f place).1)))

-- The greatest that a term can still add to the sum, its variable being set like this.
abbrev pub greatest_at : Option Bool → ℤ → ℤ
greatest_at None (pos n) = pos n
greatest_at None (negsuc n) = pos 0
greatest_at (Some true) c = c
greatest_at (Some false) c = pos 0
