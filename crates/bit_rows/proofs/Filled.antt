-- A row that is filled value by value with those that have a property.

use Rattle.std.proofs.Common.{◌≡◌, ℕ, ◌+◌, ◌<◌, Bool, true, false, ◌==◌, ◌||◌, List, refl, sym, ◌∙◌, subst, arith, inl, inr, ◌⊎◌}
use Rattle.std.proofs.lemmas.Bool.{cases_eq, eqb-true, eq-eqb}
use Rattle.bit_rows.specs.BitRows.{has}

-- the row holds the values below n that have the property
pub record FilledBelow (P : ℕ → Type 0) (n : ℕ) (row : List ℕ) : Type 0 where
  pub right : (v : ℕ) → has row v ≡ true → (v < n) × P v
  pub complete : (v : ℕ) → v < n → P v → has row v ≡ true

-- a row that holds nothing
pub filled_none : (P : ℕ → Type 0) (row : List ℕ) → ((v : ℕ) → has row v ≡ false) → FilledBelow P 0 row
filled_none P row none = record {
  right = λ v h. absurd (no_truth (has row v) h (none v));
  complete = λ v v_in _. absurd (omega arith);
}
  where
    no_truth : (b : Bool) → b ≡ true → b ≡ false → ⊥
    no_truth b x y = cc

either_of : (a b : Bool) → (a || b) ≡ true → (a ≡ true) ⊎ (b ≡ true)
either_of true b h = inl refl
either_of false b h = inr h

or_first : (a b : Bool) → a ≡ true → (a || b) ≡ true
or_first a b h = rw h refl

or_second : (a b : Bool) → b ≡ true → (a || b) ≡ true
or_second true b h = refl
or_second false b h = h

-- the next value has the property, and was put in
pub filled_more : (P : ℕ → Type 0) (n at : ℕ) (old new row : List ℕ) → FilledBelow P n old → row ≡ new → ((v : ℕ) → has new v ≡ (has old v || at == v))
    → at ≡ n → P n → FilledBelow P (n + 1) row
filled_more P n at old new row filled is put at_is here = record {
  right = λ v h. by v (either_of (has old v) (at == v) (sym (put v) ∙ subst (λ (r : List ℕ). has r v ≡ true) is h));
  complete = λ v v_in p. subst (λ (r : List ℕ). has r v ≡ true) (sym is) (put v ∙ within v v_in p (cases_eq n v));
}
  where
    by : (v : ℕ) → (has old v ≡ true) ⊎ ((at == v) ≡ true) → (v < n + 1) × P v
    by v (inl h) = let f = filled.right v h in (omega (arith, f.0), f.1)
    by v (inr h) = let e : n ≡ v = sym at_is ∙ eqb-true at v h in (omega arith, subst P e here)

    within : (v : ℕ) → v < n + 1 → P v → (n ≡ v) ⊎ (n ≡ v → ⊥) → (has old v || at == v) ≡ true
    within v v_in p (inl e) = or_second (has old v) (at == v) (eq-eqb at v (at_is ∙ e))
    within v v_in p (inr ne) = or_first (has old v) (at == v) (filled.complete v (omega arith) p)

-- the next value has it not
pub filled_same : (P : ℕ → Type 0) (n : ℕ) (old row : List ℕ) → FilledBelow P n old → row ≡ old → (P n → ⊥) → FilledBelow P (n + 1) row
filled_same P n old row filled is none = subst (λ (r : List ℕ). FilledBelow P (n + 1) r) (sym is) (record {
  right = λ v h. let f = filled.right v h in (omega (arith, f.0), f.1);
  complete = λ v v_in p. within v v_in p (cases_eq n v);
})
  where
    within : (v : ℕ) → v < n + 1 → P v → (n ≡ v) ⊎ (n ≡ v → ⊥) → has old v ≡ true
    within v v_in p (inl e) = absurd (none (subst P (sym e) p))
    within v v_in p (inr ne) = filled.complete v (omega arith) p
