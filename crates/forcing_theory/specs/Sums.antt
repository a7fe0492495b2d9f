-- Sums of forms that just reach their bounds: such a sum forces all that its forms say together.

use Rattle.std.specs.Prelude.{◌≡◌, ℕ, ◌*◌, ◌^◌, ◌<◌, ◌≤◌, Bool, true, ◌⊎◌, List, [], ◌∷◌, length, Some, Ok, ◌≤ℤ◌, unsigned_abs}
use Rattle.proof_theory.specs.Forms.{Form, Holds, Satisfies, Rises, value, size}
use Rattle.proof_theory.specs.Rules.{sum_of}
use Rattle.proof_theory.specs.Slack.{Setting, conflict, after}
use Rattle.log_theory.specs.declared.step.Name.{Name}
use Rattle.log_theory.specs.declared.step.Ref.{Ref}
use Rattle.log_theory.specs.declared.step.Op.{Op}
use Rattle.log_theory.specs.declared.step.Op.TheVariants.{Push, Add}
use Rattle.log_theory.specs.declared.step.Step.TheVariants.{P}
use Rattle.log_theory.specs.Lookups.{Lookup, find_all, makes}
use Rattle.forcing_theory.specs.Units.{Follows}

-- ---- sums, and the operations that make them

-- A form and others, summed in order.
abbrev pub sum_from : Form → List Form → Form
sum_from f [] = f
sum_from f (g ∷ gs) = sum_from (sum_of f g) gs

-- Further references, each pushed and added.
abbrev pub adding : List Ref → List Op
adding [] = []
adding (r ∷ rs) = Push r ∷ Add ∷ adding rs

-- The operations that sum a reference and others.
abbrev pub summing : Ref → List Ref → List Op
summing r rs = Push r ∷ adding rs

-- The bound and the sum of the absolute coefficients are at most n in size.
pub record IsSmall (n : ℕ) (f : Form) : Type 0 where
  pub bound_fits : unsigned_abs f.bound ≤ n
  pub sum_fits : size f.terms ≤ n

abbrev pub AreSmall : ℕ → List Form → Type 0
AreSmall n [] = Unit {0}
AreSmall n (f ∷ fs) = IsSmall n f × AreSmall n fs

-- ---- tight forms

-- No assignment that follows the setting does better than just reach the bound.
pub record IsTight (s : Setting) (f : Form) : Type 0 where
  pub rises : Rises 0 f.terms
  pub below : (a : ℕ → Bool) → Follows s a → value a f.terms ≤ℤ f.bound

abbrev pub AreTight : Setting → List Form → Type 0
AreTight s [] = Unit {0}
AreTight s (f ∷ fs) = IsTight s f × AreTight s fs

-- A line of summing operations makes the sum, where the sizes of its forms add up to no more than exact arithmetic bears; and a sum of
-- tight forms is in conflict or sets each value that they all say together.
pub record SumLaws : Type 0 where
  pub made : (look : Lookup) (name : Name) (r : Ref) (rs : List Ref) (f : Form) (gs : List Form)
      (n : ℕ) → find_all look (r ∷ rs) ≡ Ok (f ∷ gs) → AreSmall n (f ∷ gs)
      → length (f ∷ gs) * n ≤ 2 ^ 125 → makes look (P name (summing r rs)) ≡ Ok (sum_from f gs)
  pub tight : (s : Setting) (f : Form) (gs : List Form) → IsTight s f → AreTight s gs
      → IsTight s (sum_from f gs)
  pub each : (s : Setting) (f : Form) (gs : List Form) (a : ℕ → Bool) → IsTight s f
      → AreTight s gs → Follows s a → Holds (sum_from f gs) a → Holds f a × Satisfies gs a
  pub forces : (s : Setting) (f : Form) (gs : List Form) (v : ℕ) (b : Bool) → IsTight s f
      → AreTight s gs → ((a : ℕ → Bool) → Follows s a → Holds f a → Satisfies gs a → a v ≡ b)
      → (conflict s (sum_from f gs) ≡ true) ⊎ (after s (sum_from f gs) v ≡ Some b)
