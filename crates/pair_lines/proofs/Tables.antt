-- A table of names: what is found in it, and what one name more does to it.
use Rattle.std.proofs.Common.{◌≡◌, ℕ, ◌==◌, Bool, true, false, cond, Option, Some, None, sym, subst, ◌∙◌, refl}
use Rattle.std.specs.Prelude.{IfSome}
use Rattle.std.proofs.lemmas.Bool.{eq-eqb, ne_eqb, eqb-true, eqb-false}
use Rattle.log_theory.specs.declared.step.Name.{Name}
use Rattle.log_theory.specs.LogText.{IsName}
use Rattle.pair_lines.specs.Choices.{Names, entry_at}

pub swapped : (a b : ℕ) → (a == b) ≡ (b == a)
swapped a b = by (a == b) refl
  where
    by : (x : Bool) → (a == b) ≡ x → (a == b) ≡ (b == a)
    by true e = e ∙ sym (eq-eqb b a (sym (eqb-true a b e)))
    by false e = e ∙ sym (ne_eqb b a (λ (same : b ≡ a). eqb-false a b e (sym same)))

-- What is found is a name that a log can have.
pub found_fits : (names : Names) (k : ℕ) (o : Option Name) → ((k : ℕ) (n : Name) → entry_at names k ≡ Some n → IsName n) → o ≡ entry_at names k → IfSome o IsName
found_fits names k None fit is = tt
found_fits names k (Some n) fit is = fit k n (sym is)

-- And so it is after one is added.
pub added_fits : (old new : Names) (key : ℕ) (name : Name) → ((k : ℕ) → entry_at new k ≡ cond (key == k) (Some name) (entry_at old k)) → IsName name
    → ((k : ℕ) (n : Name) → entry_at old k ≡ Some n → IsName n) → (k : ℕ) (n : Name) → entry_at new k ≡ Some n → IsName n
added_fits old new key name added fits fit k n is = by (key == k) (sym (added k) ∙ is)
  where
    by : (b : Bool) → cond b (Some name) (entry_at old k) ≡ Some n → IsName n
    by true e = let same : name ≡ n = cc in subst IsName same fits
    by false e = fit k n e
