-- Unit propagation over all forms of a list: literals that forms force, one after the other, up to a conflict.
use Rattle.std.specs.Prelude.{◌≡◌, ◌⊎◌, ℕ, zero, suc, ◌+◌, Bool, true, false, cond, ◌==◌, ◌||◌, List, [], ◌∷◌, ℤ, pos, unsigned_abs, int_lt, Option, Some, None}
use Rattle.proof_theory.specs.Forms.{Form, total}
use Rattle.proof_theory.specs.Slack.{Setting, slack, conflict, wanted, Forces}

-- The item stands in the list.
abbrev pub IsAmong : {A : Type 0} → A → List A → Type 0
IsAmong x [] = ⊥
IsAmong x (y ∷ ys) = (x ≡ y) ⊎ IsAmong x ys

-- A true literal, as a variable and its value.
abbrev pub Value : Type 0
Value = ℕ × Bool

-- The setting with one more true literal.
abbrev pub with_value : Setting → Value → Setting
with_value s l v = cond (l.0 == v) (Some l.1) (s v)

-- The form forces the literal: that of one of its terms.
pub record ForcesValue (s : Setting) (f : Form) (l : Value) : Type 0 where
  pub term : ℕ × ℤ
  pub among : IsAmong term f.terms
  pub forces : Forces s f term
  pub is : l ≡ (term.0, wanted term.1)

-- Some form of the list forces the literal.
pub record IsForced (s : Setting) (fs : List Form) (l : Value) : Type 0 where
  pub form : Form
  pub among : IsAmong form fs
  pub forces : ForcesValue s form l

-- Some form of the list is in conflict.
pub record HasConflict (s : Setting) (fs : List Form) : Type 0 where
  pub form : Form
  pub among : IsAmong form fs
  pub conflicts : conflict s form ≡ true

-- Each of the literals is forced under the setting and those before it, and at their end some form is in conflict.
abbrev pub EndsInConflict : Setting → List Form → List Value → Type 0
EndsInConflict s fs [] = HasConflict s fs
EndsInConflict s fs (l ∷ ls) = IsForced s fs l × EndsInConflict (with_value s l) fs ls

-- The first setting has every value of the second.
pub record Extends (t s : Setting) : Type 0 where
  pub kept : (v : ℕ) (b : Bool) → s v ≡ Some b → t v ≡ Some b

-- Unit propagation over the forms can come to a conflict: in some order of literals.
pub record Closes (s : Setting) (fs : List Form) : Type 0 where
  pub literals : List Value
  pub ends : EndsInConflict s fs literals

-- ---- the same, computed: some literal is forced as long as there is one

-- Whether some form of the list is in conflict.
abbrev pub any_conflict : Setting → List Form → Bool
any_conflict s [] = false
any_conflict s (f ∷ fs) = conflict s f || any_conflict s fs

-- The literal where its variable is unset and it passes a test, or else what comes behind.
abbrev pub unless_set : Option Bool → Bool → Value → Option Value → Option Value
unless_set None true l more = Some l
unless_set None false l more = more
unless_set (Some b) above l more = more

-- The first literal among terms that is unset and has a coefficient above the slack k.
abbrev pub first_above : Setting → ℤ → List (ℕ × ℤ) → Option Value
first_above s k [] = None
first_above s k (t ∷ ts) =
    unless_set (s t.0) (int_lt k (pos (unsigned_abs t.1))) (t.0, wanted t.1) (first_above s k ts)

-- The first value, or else the second.
abbrev pub or_next : Option Value → Option Value → Option Value
or_next None o = o
or_next (Some l) o = Some l

-- The first literal that a form of the list forces.
abbrev pub first_forced : Setting → List Form → Option Value
first_forced s [] = None
first_forced s (f ∷ fs) = or_next (first_above s (slack s f) f.terms) (first_forced s fs)

-- How many places of terms have an unset variable.
abbrev pub unset_one : Option Bool → ℕ
unset_one None = 1
unset_one (Some b) = 0

abbrev pub unset_places : Setting → List Form → ℕ
unset_places s [] = 0
unset_places s (f ∷ fs) = total (λ t. unset_one (s t.0)) f.terms + unset_places s fs

-- Whether a value is there that passes a test.
abbrev pub passes : (Value → Bool) → Option Value → Bool
passes test None = false
passes test (Some l) = test l

-- Whether a conflict is there, or comes with at most k more literals.
abbrev pub closes_within : ℕ → Setting → List Form → Bool
closes_within zero s fs = any_conflict s fs
closes_within (suc k) s fs =
    any_conflict s fs || passes (λ l. closes_within k (with_value s l) fs) (first_forced s fs)

-- Whether unit propagation over the forms comes to a conflict.
abbrev pub closes : Setting → List Form → Bool
closes s fs = closes_within (unset_places s fs) s fs
