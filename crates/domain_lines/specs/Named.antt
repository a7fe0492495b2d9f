-- Clauses against single values that an owner has named, by their variables.

use Rattle.std.specs.Prelude.{◌≡◌, ℕ, List, [], ◌∷◌, Option, Some}
use Rattle.std.specs.Ordering.{nat_cmp}
use Rattle.std.specs.BTreeMap.{is_at}
use Rattle.std.specs.Map.{lookup}
use Rattle.proof_theory.specs.Forms.{Form, form_of}
use Rattle.std.specs.Prelude.{pos, negsuc}
use Rattle.log_theory.specs.declared.step.Name.{Name}
use Rattle.log_theory.specs.declared.step.Ref.TheVariants.{Made}
use Rattle.log_theory.specs.LogText.{IsName}
use Rattle.log_growth.specs.Frames.{Frame, IsNamed}

-- The name that a list of variables and names has for a variable.
abbrev pub name_at : List (ℕ × Name) → ℕ → Option Name
name_at named v = lookup (is_at (nat_cmp v)) named

-- Each name is one that a log can have.
abbrev pub AreNames : List (ℕ × Name) → Type 0
AreNames named = (v : ℕ) (n : Name) → name_at named v ≡ Some n → IsName n

-- The variable is false.
abbrev pub is_false : ℕ → Form
is_false v = form_of ((v, negsuc 0) ∷ []) (pos 0)

-- Each name is that of the clause of its variable.
abbrev pub AreUnits : Frame → List (ℕ × Name) → List Form → Type 0
AreUnits w named forms = (v : ℕ) (n : Name) → name_at named v ≡ Some n
    → IsNamed w forms (Made n) (is_false v)
