-- Vertices and values in lists.
use Rattle.std.proofs.Common.{◌⊎◌, inl, inr, ◌≡◌, ℕ, zero, suc, ◌+◌, ◌<◌, ◌==◌, Bool, true, false, ◌||◌, ◌&&◌, not, List, [], ◌∷◌, length, take, slice_index, refl, sym, ap, ◌∙◌, arith}
use Rattle.std.proofs.lemmas.Bool.{eqb-true, eq-eqb, ne_eqb, or_cases}
use Rattle.log_theory.specs.Lookups.{is_among}
use Rattle.bit_rows.specs.BitRows.{has}

or_left : (a b : Bool) → a ≡ true → (a || b) ≡ true
or_left true b e = refl
or_left false b e = absurd cc

or_right : (a b : Bool) → b ≡ true → (a || b) ≡ true
or_right true b e = refl
or_right false b e = e

-- What stands in a list is one of it.
pub among_at : (xs : List ℕ) (i v : ℕ) → i < length xs → slice_index xs i ≡ v → is_among v xs ≡ true
among_at [] i v below is = absurd (omega (arith, below))
among_at (x ∷ xs) zero v below is = or_left (x == v) (is_among v xs) (eq-eqb x v is)
among_at (x ∷ xs) (suc i) v below is = or_right (x == v) (is_among v xs) (among_at xs i v (omega (arith, below)) is)

-- What is none of the first ones, nor the next, is none of one more.
pub among_not_next : (xs : List ℕ) (i v : ℕ) → i < length xs → is_among v (take i xs) ≡ false → (slice_index xs i ≡ v → ⊥) → is_among v (take (i + 1) xs) ≡ false
among_not_next xs i v below none other = let e : i + 1 ≡ suc i = omega arith in ap (λ (n : ℕ). is_among v (take n xs)) e ∙ by xs i below none other
  where
    by : (xs : List ℕ) (i : ℕ) → i < length xs → is_among v (take i xs) ≡ false → (slice_index xs i ≡ v → ⊥) → is_among v (take (suc i) xs) ≡ false
    by [] i below none other = absurd (omega (arith, below))
    by (x ∷ xs) zero below none other = ap (λ (b : Bool). b || false) (ne_eqb x v other)
    by (x ∷ xs) (suc i) below none other = step xs i (x == v) none (λ h. by xs i (omega (arith, below)) h other)
      where
        step : (xs : List ℕ) (i : ℕ) (b : Bool) → (b || is_among v (take i xs)) ≡ false → (is_among v (take i xs) ≡ false → is_among v (take (suc i) xs) ≡ false) → (b || is_among v (take (suc i) xs)) ≡ false
        step xs i true h next = absurd cc
        step xs i false h next = next h

-- What is one of one more is one of the first ones, or the next.
pub among_next : (xs : List ℕ) (i v : ℕ) → i < length xs → is_among v (take (suc i) xs) ≡ true → (is_among v (take i xs) ≡ true) ⊎ (slice_index xs i ≡ v)
among_next [] i v below is = absurd (omega (arith, below))
among_next (x ∷ xs) zero v below is = elim (or_cases (x == v) false is) [ inl h ↦ inr (eqb-true x v h) | inr h ↦ absurd cc ]
among_next (x ∷ xs) (suc i) v below is = elim (or_cases (x == v) (is_among v (take (suc i) xs)) is) [
  | inl h ↦ inl (or_left (x == v) (is_among v (take i xs)) h)
  | inr h ↦ elim (among_next xs i v (omega (arith, below)) h) [ inl k ↦ inl (or_right (x == v) (is_among v (take i xs)) k) | inr k ↦ inr k ]
]

-- What is none of one more is none of the first ones, and not the next.
pub off_parts : (xs : List ℕ) (i v : ℕ) → i < length xs → is_among v (take (i + 1) xs) ≡ false → (is_among v (take i xs) ≡ false) × (slice_index xs i ≡ v → ⊥)
off_parts xs i v below off = let e : i + 1 ≡ suc i = omega arith in by xs i below (sym (ap (λ (n : ℕ). is_among v (take n xs)) e) ∙ off)
  where
    parts : (a b : Bool) → (a || b) ≡ false → (a ≡ false) × (b ≡ false)
    parts true b h = absurd cc
    parts false b h = (refl, h)

    by : (xs : List ℕ) (i : ℕ) → i < length xs → is_among v (take (suc i) xs) ≡ false → (is_among v (take i xs) ≡ false) × (slice_index xs i ≡ v → ⊥)
    by [] i below h = absurd (omega (arith, below))
    by (x ∷ xs) zero below h = let p = parts (x == v) false h in (refl, λ same. let t : (x == v) ≡ true = eq-eqb x v same in let bad : true ≡ false = sym t ∙ p.0 in absurd cc)
    by (x ∷ xs) (suc i) below h =
        let p = parts (x == v) (is_among v (take (suc i) xs)) h in
        let o = by xs i (omega (arith, below)) p.1 in
        (ap (λ (b : Bool). b || is_among v (take i xs)) p.0 ∙ o.0, o.1)

-- What leaves a row by one more value.
pub out_next : (xs : List ℕ) (i v : ℕ) (old now next : List ℕ) → i < length xs → slice_index xs i ≡ v → ((u : ℕ) → has next u ≡ (has now u && not (v == u))) → ((u : ℕ) → is_among u (take i xs) ≡ true → has now u ≡ false)
    → (u : ℕ) → is_among u (take (i + 1) xs) ≡ true → has next u ≡ false
out_next xs i v old now next below is step out u among = let e : i + 1 ≡ suc i = omega arith in
    elim (among_next xs i u below (sym (ap (λ (n : ℕ). is_among u (take n xs)) e) ∙ among)) [
      | inl h ↦ step u ∙ ap (λ (b : Bool). b && not (v == u)) (out u h)
      | inr h ↦ step u ∙ ap (λ (b : Bool). has now u && not b) (eq-eqb v u (sym is ∙ h)) ∙ last (has now u)
    ]
  where
    last : (b : Bool) → (b && false) ≡ false
    last true = refl
    last false = refl

pub rest_next : (xs : List ℕ) (i v : ℕ) (old now next : List ℕ) → i < length xs → slice_index xs i ≡ v → ((u : ℕ) → has next u ≡ (has now u && not (v == u))) → ((u : ℕ) → is_among u (take i xs) ≡ false → has now u ≡ has old u)
    → (u : ℕ) → is_among u (take (i + 1) xs) ≡ false → has next u ≡ has old u
rest_next xs i v old now next below is step rest u off =
    let o = off_parts xs i u below off in
    step u ∙ ap (λ (b : Bool). has now u && not b) (ne_eqb v u (λ e. o.1 (is ∙ e))) ∙ last (has now u) ∙ rest u o.0
  where
    last : (b : Bool) → (b && true) ≡ b
    last true = refl
    last false = refl
