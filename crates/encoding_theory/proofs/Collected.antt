-- Lists that are collected from parts: what satisfies them, and what stands where.

use Rattle.std.proofs.Common.{◌≡◌, ℕ, zero, suc, ◌+◌, ◌<◌, Bool, true, false, List, [], ◌∷◌, ◌++◌, length, slice_get, Some, refl, sym, subst, ap, ◌∙◌, arith, inl, inr, ◌⊎◌}
use Rattle.std.proofs.lemmas.Bool.{cases_eq}
use Rattle.proof_theory.specs.Forms.{Form, Satisfies}
use Rattle.encoding_theory.specs.Variables.{collect, when}

-- ---- satisfaction

pub satisfies_left : (fs gs : List Form) (a : ℕ → Bool) → Satisfies (fs ++ gs) a → Satisfies fs a
satisfies_left [] gs a h = tt
satisfies_left (f ∷ fs) gs a h = (h.0, satisfies_left fs gs a h.1)

pub satisfies_right : (fs gs : List Form) (a : ℕ → Bool) → Satisfies (fs ++ gs) a → Satisfies gs a
satisfies_right [] gs a h = h
satisfies_right (f ∷ fs) gs a h = satisfies_right fs gs a h.1

pub satisfies_both : (fs gs : List Form) (a : ℕ → Bool) → Satisfies fs a → Satisfies gs a → Satisfies (fs ++ gs) a
satisfies_both [] gs a h k = k
satisfies_both (f ∷ fs) gs a h k = (h.0, satisfies_both fs gs a h.1 k)

-- what satisfies the whole satisfies each part
pub satisfies_at : (f : ℕ → List Form) (n i : ℕ) (a : ℕ → Bool) → Satisfies (collect f n) a → i < n → Satisfies (f i) a
satisfies_at f zero i a h low = absurd (omega arith)
satisfies_at f (suc n) i a h low = by-cases (λ lower. satisfies_at f n i a (satisfies_left (collect f n) (f n) a h) lower) (cases_eq i n)
  where
    by-cases : (i < n → Satisfies (f i) a) → (i ≡ n) ⊎ (i ≡ n → ⊥) → Satisfies (f i) a
    by-cases ih (inl same) = subst (λ (k : ℕ). Satisfies (f k) a) (sym same) (satisfies_right (collect f n) (f n) a h)
    by-cases ih (inr other) = ih (omega arith)

-- and what satisfies each part satisfies the whole
pub satisfies_all : (f : ℕ → List Form) (n : ℕ) (a : ℕ → Bool) → ((i : ℕ) → i < n → Satisfies (f i) a) → Satisfies (collect f n) a
satisfies_all f zero a each = tt
satisfies_all f (suc n) a each =
    satisfies_both (collect f n) (f n) a (satisfies_all f n a (λ i low. each i (omega arith))) (each n (omega arith))

pub satisfies_where : (b : Bool) (fs : List Form) (a : ℕ → Bool) → b ≡ true → Satisfies (when b fs) a → Satisfies fs a
satisfies_where true fs a e h = h
satisfies_where false fs a e h = absurd cc

pub satisfies_when : (b : Bool) (fs : List Form) (a : ℕ → Bool) → (b ≡ true → Satisfies fs a) → Satisfies (when b fs) a
satisfies_when true fs a h = h refl
satisfies_when false fs a h = tt

-- ---- places

-- a place of the first list is the same place of both
pub get-append_left : {X : Type 0} (xs ys : List X) (i : ℕ) (x : X) → slice_get xs i ≡ Some x → slice_get (xs ++ ys) i ≡ Some x
get-append_left [] ys i x h = absurd cc
get-append_left (y ∷ xs) ys zero x h = h
get-append_left (y ∷ xs) ys (suc i) x h = get-append_left xs ys i x h

-- a place of the second list comes after the first
pub get-append_right : {X : Type 0} (xs ys : List X) (i : ℕ) → slice_get (xs ++ ys) (length xs + i) ≡ slice_get ys i
get-append_right [] ys i = ap (slice_get ys) (let e : 0 + i ≡ i = omega arith in e)
get-append_right (x ∷ xs) ys i =
    let e : length (x ∷ xs) + i ≡ suc (length xs + i) = omega arith in
    ap (slice_get (x ∷ (xs ++ ys))) e ∙ get-append_right xs ys i

-- place k of part i is a place of the whole, after the parts before
pub get-collect : {X : Type 0} (f : ℕ → List X) (n i k : ℕ) (x : X) → i < n → slice_get (f i) k ≡ Some x
    → slice_get (collect f n) (length (collect f i) + k) ≡ Some x
get-collect f zero i k x low h = absurd (omega arith)
get-collect f (suc n) i k x low h = by-cases (λ lower. get-collect f n i k x lower h) (cases_eq i n)
  where
    by-cases : (i < n → slice_get (collect f n) (length (collect f i) + k) ≡ Some x) → (i ≡ n) ⊎ (i ≡ n → ⊥)
        → slice_get (collect f n ++ f n) (length (collect f i) + k) ≡ Some x
    by-cases ih (inl same) =
        ap (λ (m : ℕ). slice_get (collect f n ++ f n) (length (collect f m) + k)) same
        ∙ get-append_right (collect f n) (f n) k ∙ ap (λ (m : ℕ). slice_get (f m) k) (sym same) ∙ h
    by-cases ih (inr other) = get-append_left (collect f n) (f n) _ x (ih (omega arith))

-- what stands in a list that is there where a test is passed
pub get-when : {X : Type 0} (b : Bool) (xs : List X) (k : ℕ) → b ≡ true → slice_get (when b xs) k ≡ slice_get xs k
get-when true xs k e = refl
get-when false xs k e = absurd cc
