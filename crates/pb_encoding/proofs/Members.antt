-- The numbers that pass a test, rising: what stands at a place, and where a number stands.

use Rattle.std.proofs.Common.{◌≡◌, ℕ, zero, suc, ◌+◌, ◌≤◌, ◌<◌, Bool, true, false, if◌then◌else◌, List, [], ◌∷◌, ◌++◌, length, get_or, slice_get, Some, refl, sym, subst, ap, ◌∙◌, arith, inl, inr, ◌⊎◌, length-append}
use Rattle.std.proofs.lemmas.Bool.{cases_eq, cases_lt}
use Rattle.std.proofs.lemmas.List.{append-nil}
use Rattle.std.proofs.lemmas.Option.{slice_get-get_or}
use Rattle.graph_theory.specs.Neighbours.{count, members}
use Rattle.encoding_theory.proofs.Collected.{get-append_left, get-append_right}

-- what stands in a list with one more element stands in the list, or is the element
get-more : {X : Type 0} (xs : List X) (y x : X) (k : ℕ) → slice_get (xs ++ y ∷ []) k ≡ Some x → (slice_get xs k ≡ Some x) ⊎ ((k ≡ length xs) × (y ≡ x))
get-more [] y x zero h = inr (refl, cc)
get-more [] y x (suc k) h = absurd cc
get-more (z ∷ xs) y x zero h = inl h
get-more (z ∷ xs) y x (suc k) h = by-cases (get-more xs y x k h)
  where
    by-cases : (slice_get xs k ≡ Some x) ⊎ ((k ≡ length xs) × (y ≡ x)) → (slice_get xs k ≡ Some x) ⊎ ((suc k ≡ length (z ∷ xs)) × (y ≡ x))
    by-cases (inl e) = inl e
    by-cases (inr e) = let f : k ≡ length xs = e.0 in inr (omega arith, e.1)

-- there are as many as are counted
pub length-members : (f : ℕ → Bool) (n : ℕ) → length (members f n) ≡ count f n
length-members f zero = refl
length-members f (suc n) = by-cases (f n) (length-members f n)
  where
    by-cases : (b : Bool) → length (members f n) ≡ count f n → length (members f n ++ (if b then n ∷ [] else [])) ≡ (if b then 1 else 0) + count f n
    by-cases true ih = let e = length-append (members f n) (n ∷ []) in omega arith
    by-cases false ih = let e = length-append (members f n) [] in omega arith

-- What stands at place k: a number below n that passes, and has k before it.
pub record StandsAt (f : ℕ → Bool) (n k i : ℕ) : Type 0 where
  pub below : i < n
  pub passes : f i ≡ true
  pub place : k ≡ count f i

pub members_get : (f : ℕ → Bool) (n k i : ℕ) → slice_get (members f n) k ≡ Some i → StandsAt f n k i
members_get f zero k i h = absurd cc
members_get f (suc n) k i h = by-cases (λ e. members_get f n k i e) (f n) refl h
  where
    by-cases : (slice_get (members f n) k ≡ Some i → StandsAt f n k i) → (b : Bool) → f n ≡ b
        → slice_get (members f n ++ (if b then n ∷ [] else [])) k ≡ Some i → StandsAt f (suc n) k i
    by-cases ih false e g =
        let s = ih (ap (λ (xs : List ℕ). slice_get xs k) (sym (append-nil (members f n))) ∙ g) in
        let low : i < n = s.below in
        record { below = omega arith; passes = s.passes; place = s.place }
    by-cases ih true e g = by-place (get-more (members f n) n i k g)
      where
        by-place : (slice_get (members f n) k ≡ Some i) ⊎ ((k ≡ length (members f n)) × (n ≡ i)) → StandsAt f (suc n) k i
        by-place (inl d) =
            let s = ih d in
            let low : i < n = s.below in
            record { below = omega arith; passes = s.passes; place = s.place }
        by-place (inr d) =
            let same : n ≡ i = d.1 in
            record { below = omega arith; passes = subst (λ (v : ℕ). f v ≡ true) same e; place = d.0 ∙ length-members f n ∙ ap (count f) same }

-- a number that passes stands at the count of those before it
pub members_at : (f : ℕ → Bool) (n i : ℕ) → i < n → f i ≡ true → slice_get (members f n) (count f i) ≡ Some i
members_at f zero i low e = absurd (omega arith)
members_at f (suc n) i low e = by-cases (λ lower. members_at f n i lower e) (cases_eq i n)
  where
    by-cases : (i < n → slice_get (members f n) (count f i) ≡ Some i) → (i ≡ n) ⊎ (i ≡ n → ⊥) → slice_get (members f n ++ (if f n then n ∷ [] else [])) (count f i) ≡ Some i
    by-cases ih (inl same) =
        let passes : f n ≡ true = subst (λ (v : ℕ). f v ≡ true) same e in
        let place : count f i ≡ length (members f n) + 0 = let c : count f i ≡ count f n = ap (count f) same in omega (arith, length-members f n) in
        rw (passes, place) (get-append_right (members f n) (n ∷ []) 0 ∙ ap Some (sym same))
    by-cases ih (inr other) = get-append_left (members f n) (if f n then n ∷ [] else []) (count f i) i (ih (omega arith))

-- the count grows with the bound, and past a number that passes
pub count-grows : (f : ℕ → Bool) (m n : ℕ) → m ≤ n → count f m ≤ count f n
count-grows f m zero le = let e : m ≡ 0 = omega arith in rw e (omega arith)
count-grows f m (suc n) le = by-cases (λ lower. count-grows f m n lower) (cases_eq m (suc n))
  where
    by-cases : (m ≤ n → count f m ≤ count f n) → (m ≡ suc n) ⊎ (m ≡ suc n → ⊥) → count f m ≤ count f (suc n)
    by-cases ih (inl same) = let e : count f m ≡ count f (suc n) = ap (count f) same in omega arith
    by-cases ih (inr other) = let k = ih (omega arith) in omega arith

pub count_past : (f : ℕ → Bool) (i n : ℕ) → i < n → f i ≡ true → count f i < count f n
count_past f i n low e =
    let g = count-grows f (suc i) n (omega arith) in
    let s : count f (suc i) ≡ 1 + count f i = rw e refl in
    omega arith

pub count_all : (f : ℕ → Bool) (n : ℕ) → count f n ≤ n
count_all f zero = omega arith
count_all f (suc n) = by-cases (f n) (count_all f n)
  where
    by-cases : (b : Bool) → count f n ≤ n → (if b then 1 else 0) + count f n ≤ suc n
    by-cases true h = omega arith
    by-cases false h = omega arith

-- the numbers rise
pub members_rise : (f : ℕ → Bool) (n i j : ℕ) → i ≤ j → j < length (members f n) → get_or (members f n) i 0 ≤ get_or (members f n) j 0
members_rise f n i j le inside = by-cases (cases_lt y x)
  where
    x : ℕ
    x = get_or (members f n) i 0

    y : ℕ
    y = get_or (members f n) j 0

    by-cases : (y < x) ⊎ (x ≤ y) → x ≤ y
    by-cases (inr fine) = fine
    by-cases (inl less) =
        let s = members_get f n i x (slice_get-get_or (members f n) i 0 (omega arith)) in
        let t = members_get f n j y (slice_get-get_or (members f n) j 0 inside) in
        let c = count_past f y x less t.passes in
        let p : i ≡ count f x = s.place in
        let q : j ≡ count f y = t.place in
        absurd (omega arith)
