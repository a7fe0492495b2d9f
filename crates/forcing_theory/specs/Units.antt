-- When a form forces a variable: exactly where every assignment that follows the setting, and under which the form holds, has this value there.

use Rattle.std.specs.Prelude.{◌≡◌, ℕ, Bool, true, ◌⊎◌, Some}
use Rattle.proof_theory.specs.Forms.{Form, Holds, Rises}
use Rattle.proof_theory.specs.Slack.{Setting, conflict, after}

-- What the setting sets has the assignment's value.
pub record Follows (s : Setting) (a : ℕ → Bool) : Type 0 where
  pub same : (v : ℕ) (b : Bool) → s v ≡ Some b → a v ≡ b

-- The form has sorted terms, and wherever it holds beside the setting the variable has this value.
pub record Implies (s : Setting) (f : Form) (v : ℕ) (b : Bool) : Type 0 where
  pub rises : Rises 0 f.terms
  pub there : (a : ℕ → Bool) → Follows s a → Holds f a → a v ≡ b

-- Then the form is in conflict, or sets it.
abbrev pub UnitLaw : Type 0
UnitLaw = (s : Setting) (f : Form) (v : ℕ) (b : Bool) → Implies s f v b
    → (conflict s f ≡ true) ⊎ (after s f v ≡ Some b)
