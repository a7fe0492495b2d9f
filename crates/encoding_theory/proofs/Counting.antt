-- Counts of the numbers that pass a test: when there is one, when there is no second, and the one that is found.

use Rattle.std.proofs.Common.{◌≡◌, ℕ, zero, suc, ◌+◌, ◌≤◌, ◌<◌, Bool, true, false, if◌then◌else◌, refl, sym, ap, ◌∙◌, arith, inl, inr, ◌⊎◌}
use Rattle.std.proofs.lemmas.Bool.{cases_eq}
use Rattle.graph_theory.specs.Neighbours.{count}

one_counted : (b : Bool) → b ≡ true → let P : ℕ → ℕ → Type 0 = λ x y. x ≡ y in P (if b then 1 else 0) 1
one_counted true e = refl
one_counted false e = absurd cc

-- where a number passes, the count is not 0
pub count_some : (f : ℕ → Bool) (n i : ℕ) → i < n → f i ≡ true → 0 < count f n
count_some f zero i h e = absurd (omega arith)
count_some f (suc n) i h e = by-cases (λ low. count_some f n i low e) (cases_eq i n)
  where
    by-cases : (i < n → 0 < count f n) → (i ≡ n) ⊎ (i ≡ n → ⊥) → 0 < count f (suc n)
    by-cases ih (inl same) = let k = one_counted (f n) (ap f (sym same) ∙ e) in omega arith
    by-cases ih (inr other) = let low : i < n = omega arith in let k = ih low in omega arith

-- where at most one passes, two that pass are the same
pub count_one : (f : ℕ → Bool) (n i j : ℕ) → count f n ≤ 1 → i < n → j < n → f i ≡ true → f j ≡ true → i ≡ j
count_one f zero i j few h k e d = absurd (omega arith)
count_one f (suc n) i j few h k e d =
    by-cases (λ low high. count_one f n i j (omega arith) low high e d) (cases_eq i n) (cases_eq j n)
  where
    by-cases : (i < n → j < n → i ≡ j) → (i ≡ n) ⊎ (i ≡ n → ⊥) → (j ≡ n) ⊎ (j ≡ n → ⊥) → i ≡ j
    by-cases ih (inl same) (inl equal) = omega arith
    by-cases ih (inl same) (inr other) =
        let c = one_counted (f n) (ap f (sym same) ∙ e) in
        let s = count_some f n j (omega arith) d in
        absurd (omega arith)
    by-cases ih (inr other) (inl same) =
        let c = one_counted (f n) (ap f (sym same) ∙ d) in
        let s = count_some f n i (omega arith) e in
        absurd (omega arith)
    by-cases ih (inr other) (inr another) = ih (omega arith) (omega arith)

-- a number below n that passes
pub record Passes (f : ℕ → Bool) (n : ℕ) : Type 0 where
  pub number : ℕ
  pub below : number < n
  pub passes : f number ≡ true

-- where the count is not 0, a number passes
pub some_passes : (f : ℕ → Bool) (n : ℕ) → 0 < count f n → Passes f n
some_passes f zero h = absurd (omega arith)
some_passes f (suc n) h = by-cases (some_passes f n) (f n) refl h
  where
    by-cases : (0 < count f n → Passes f n) → (b : Bool) → f n ≡ b → 0 < (if b then 1 else 0) + count f n → Passes f (suc n)
    by-cases ih true e k = record { number = n; below = omega arith; passes = e }
    by-cases ih false e k = let w = ih (omega arith) in let low : w.number < n = w.below in record { number = w.number; below = omega arith; passes = w.passes }

-- the last number below n that passes
abbrev pub pick : (ℕ → Bool) → ℕ → ℕ
pick f zero = 0
pick f (suc n) = if f n then n else pick f n

-- where one passes, this one does, and it is below n
pub pick_passes : (f : ℕ → Bool) (n : ℕ) → 0 < count f n → (pick f n < n) × (f (pick f n) ≡ true)
pick_passes f zero h = absurd (omega arith)
pick_passes f (suc n) h = by-cases (pick_passes f n) (f n) refl h
  where
    by-cases : (0 < count f n → (pick f n < n) × (f (pick f n) ≡ true)) → (b : Bool) → f n ≡ b → 0 < (if b then 1 else 0) + count f n
        → ((if b then n else pick f n) < suc n) × (f (if b then n else pick f n) ≡ true)
    by-cases ih true e k = (omega arith, e)
    by-cases ih false e k = let w = ih (omega arith) in let low : pick f n < n = w.0 in (omega arith, w.1)

-- where two that pass are always the same, at most one passes
pub count_unique : (f : ℕ → Bool) (n : ℕ) → ((i j : ℕ) → i < n → j < n → f i ≡ true → f j ≡ true → i ≡ j) → count f n ≤ 1
count_unique f zero one = omega arith
count_unique f (suc n) one =
    by-cases (f n) refl (count_unique f n (λ i j h k e d. one i j (omega arith) (omega arith) e d)) (some_passes f n)
  where
    by-cases : (b : Bool) → f n ≡ b → count f n ≤ 1 → (0 < count f n → Passes f n) → (if b then 1 else 0) + count f n ≤ 1
    by-cases false e ih found = omega arith
    by-cases true e ih found = by-count (count f n) refl
      where
        by-count : (k : ℕ) → count f n ≡ k → 1 + count f n ≤ 1
        by-count zero c = omega arith
        by-count (suc k) c =
            let w = found (omega arith) in
            let low : w.number < n = w.below in
            let same : w.number ≡ n = one w.number n (omega arith) (omega arith) w.passes e in
            absurd (omega arith)
