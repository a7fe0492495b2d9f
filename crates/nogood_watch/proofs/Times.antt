-- How often a number stands in a list.
use Rattle.std.proofs.Common.{◌≡◌, ℕ, ◌+◌, ◌<◌, ◌≤◌, true, false, cond, eqb, List, [], ◌∷◌, length, refl, sym, ap, ◌∙◌, arith, inl, inr, ◌⊎◌}
use Rattle.std.proofs.lemmas.Bool.{cases_eq, eq-eqb, ne_eqb}
use Rattle.std.proofs.lemmas.Map.Steps.{length-le_from_distinct_below}
use Rattle.std.specs.List.{IsDistinct, AllByRecursion, list_any}
use Rattle.nogood_watch.specs.Lists.{times, IsOnceEach, without}

pub times_same : (x : ℕ) (l : List ℕ) → times (x ∷ l) x ≡ 1 + times l x
times_same x l = rw (eq-eqb x x refl) (omega arith)

pub times_other : (y x : ℕ) (l : List ℕ) → (y ≡ x → ⊥) → times (y ∷ l) x ≡ times l x
times_other y x l ne = rw (ne_eqb y x ne) (omega arith)

-- no more often than with one more in front
pub times_tail : (y x : ℕ) (l : List ℕ) → times l x ≤ times (y ∷ l) x
times_tail y x l = omega arith

pub once_tail : (y : ℕ) (l : List ℕ) → IsOnceEach (y ∷ l) → IsOnceEach l
once_tail y l o z = omega (arith, o z, times_tail y z l)

-- the first of a list with nothing twice is not among the rest
pub first_once : (y : ℕ) (l : List ℕ) → IsOnceEach (y ∷ l) → times l y ≡ 0
first_once y l o = omega (arith, o y, times_same y l)

-- another number is as often there
pub without_other : (l : List ℕ) (x y : ℕ) → (y ≡ x → ⊥) → times (without x l) y ≡ times l y
without_other [] x y ne = refl
without_other (z ∷ l) x y ne = by (cases_eq z x) (without_other l x y ne)
  where
    by : (z ≡ x) ⊎ (z ≡ x → ⊥) → times (without x l) y ≡ times l y → times (without x (z ∷ l)) y ≡ times (z ∷ l) y
    by (inl e) h = rw (eq-eqb z x e) (sym (times_other z y l (λ f. ne (sym f ∙ e))))
    by (inr n) h = rw (ne_eqb z x n) (ap (λ k. cond (eqb z y) 1 0 + k) h)

-- x is there once less
pub without_same : (l : List ℕ) (x : ℕ) → times l x ≡ 1 → times (without x l) x ≡ 0
without_same [] x h = refl
without_same (z ∷ l) x h = by (cases_eq z x) (without_same l x)
  where
    by : (z ≡ x) ⊎ (z ≡ x → ⊥) → (times l x ≡ 1 → times (without x l) x ≡ 0) → times (without x (z ∷ l)) x ≡ 0
    by (inl e) more = let h' = rw (eq-eqb z x e) at h in rw (eq-eqb z x e) (omega arith)
    by (inr n) more = let h' = sym (times_other z x l n) ∙ h in rw (ne_eqb z x n) (times_other z x (without x l) n ∙ more h')

-- in std's words
none_equal : (x : ℕ) (l : List ℕ) → times l x ≡ 0 → AllByRecursion (λ y. eqb x y ≡ false) l
none_equal x [] h = tt
none_equal x (y ∷ l) h = by (cases_eq y x) (none_equal x l)
  where
    by : (y ≡ x) ⊎ (y ≡ x → ⊥) → (times l x ≡ 0 → AllByRecursion (λ y. eqb x y ≡ false) l) → AllByRecursion (λ y. eqb x y ≡ false) (y ∷ l)
    by (inl e) more = absurd (omega (arith, rw (eq-eqb y x e) at h))
    by (inr n) more = (ne_eqb x y (λ f. n (sym f)), more (sym (times_other y x l n) ∙ h))

pub distinct_once : (l : List ℕ) → IsOnceEach l → IsDistinct eqb l
unfolding IsDistinct
distinct_once [] o = tt
distinct_once (y ∷ l) o = (none_equal y l (first_once y l o), distinct_once l (once_tail y l o))

any_times : (l : List ℕ) (q : ℕ) → list_any (eqb q) l ≡ true → 0 < times l q
any_times [] q h = absurd (cc)
any_times (y ∷ l) q h = by (cases_eq y q) (any_times l q)
  where
    by : (y ≡ q) ⊎ (y ≡ q → ⊥) → (list_any (eqb q) l ≡ true → 0 < times l q) → 0 < times (y ∷ l) q
    by (inl e) more = rw (eq-eqb y q e) (omega arith)
    by (inr n) more = rw (times_other y q l n) (more (rw (ne_eqb q y (λ f. n (sym f))) at h))

-- a list of numbers below n, none twice, has at most n
pub once_length : (l : List ℕ) (n : ℕ) → IsOnceEach l → ((q : ℕ) → 0 < times l q → q < n) → length l ≤ n
once_length l n o below = length-le_from_distinct_below l n (distinct_once l o) (λ q h. below q (any_times l q h))
