-- Sums over the members of a row, one after another, that pass over what is none.
use Rattle.std.proofs.Common.{◌≡◌, ℕ, ◌+◌, ◌<◌, ◌≤◌, zero, suc, Bool, true, false, max, refl, sym, ap, arith, inl, inr, ◌⊎◌}
use Rattle.std.proofs.lemmas.Bool.{cases_eq}
use Rattle.biased_choice.specs.Bias.{total, greatest}

pub total_skip : (f : ℕ → Bool) (w : ℕ → ℕ) (a b : ℕ) → a ≤ b → ((v : ℕ) → a ≤ v → v < b → f v ≡ false) → total f w b ≡ total f w a
total_skip f w a zero le none = let e : zero ≡ a = omega arith in ap (total f w) e
total_skip f w a (suc b) le none = by (cases_eq a (suc b)) (total_skip f w a b)
  where
    by : (a ≡ suc b) ⊎ (a ≡ suc b → ⊥) → (a ≤ b → ((v : ℕ) → a ≤ v → v < b → f v ≡ false) → total f w b ≡ total f w a) → total f w (suc b) ≡ total f w a
    by (inl e) more = ap (total f w) (sym e)
    by (inr ne) more =
        let off : f b ≡ false = none b (omega arith) (omega arith) in
        let last : total f w (suc b) ≡ total f w b + 0 = rw off refl in
        omega (arith, last, more (omega arith) (λ v l h. none v l (omega arith)))

pub greatest_skip : (f : ℕ → Bool) (degree : ℕ → ℕ) (a b : ℕ) → a ≤ b → ((v : ℕ) → a ≤ v → v < b → f v ≡ false) → greatest f degree b ≡ greatest f degree a
greatest_skip f degree a zero le none = let e : zero ≡ a = omega arith in ap (greatest f degree) e
greatest_skip f degree a (suc b) le none = by (cases_eq a (suc b)) (greatest_skip f degree a b)
  where
    by : (a ≡ suc b) ⊎ (a ≡ suc b → ⊥) → (a ≤ b → ((v : ℕ) → a ≤ v → v < b → f v ≡ false) → greatest f degree b ≡ greatest f degree a) → greatest f degree (suc b) ≡ greatest f degree a
    by (inl e) more = ap (greatest f degree) (sym e)
    by (inr ne) more =
        let off : f b ≡ false = none b (omega arith) (omega arith) in
        let last : greatest f degree (suc b) ≡ max (greatest f degree b) 0 = rw off refl in
        omega (arith, last, more (omega arith) (λ v l h. none v l (omega arith)))

-- a member's weight is added, and what is no member passed over
pub total_next : (f : ℕ → Bool) (w : ℕ → ℕ) (v next : ℕ) → f v ≡ true → v + 1 ≤ next → ((u : ℕ) → v + 1 ≤ u → u < next → f u ≡ false) → total f w next ≡ total f w v + w v
total_next f w v next here le none =
    let e : v + 1 ≡ suc v = omega arith in
    let own : total f w (suc v) ≡ total f w v + w v = rw here refl in
    omega (arith, total_skip f w (v + 1) next le none, ap (total f w) e, own)

pub greatest_next : (f : ℕ → Bool) (degree : ℕ → ℕ) (v next : ℕ) → f v ≡ true → v + 1 ≤ next → ((u : ℕ) → v + 1 ≤ u → u < next → f u ≡ false)
    → greatest f degree next ≡ max (greatest f degree v) (degree v)
greatest_next f degree v next here le none =
    let e : v + 1 ≡ suc v = omega arith in
    let own : greatest f degree (suc v) ≡ max (greatest f degree v) (degree v) = rw here refl in
    omega (arith, greatest_skip f degree (v + 1) next le none, ap (greatest f degree) e, own)
