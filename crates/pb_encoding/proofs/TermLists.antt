-- The terms of a line: how large their coefficients are together, and that their order does not matter to the form.

use Rattle.std.proofs.Common.{◌≡◌, ℕ, zero, suc, ◌+◌, ◌≤◌, ◌^◌, Bool, true, false, not, List, [], ◌∷◌, ◌++◌, ℤ, pos, unsigned_abs, ap, arith}
use Rattle.std.proofs.lemmas.Int.{ints}
use Rattle.std.proofs.lemmas.List.{append-nil}
use Rattle.proof_theory.specs.Forms.{Form, form_of, size, sorted, total}
use Rattle.proof_theory.proofs.Sorting.{Rises-sorted, coefficient-append, coefficient-sorted, same_terms}
use Rattle.encoding_theory.specs.Variables.{when}
use Rattle.encoding_theory.specs.Encoding.{terms_where}

total-append : (f : ℕ × ℤ → ℕ) (ts us : List (ℕ × ℤ)) → total f (ts ++ us) ≡ total f ts + total f us
total-append f [] us = let e : total f us ≡ 0 + total f us = omega arith in e
total-append f (t ∷ ts) us = let h = total-append f ts us in omega arith

-- terms there where a test is passed, each of size 1 at most, are at most as large together as there are numbers
pub size-terms : (c : ℤ) (test : ℕ → Bool) (number : ℕ → ℕ) (n : ℕ) → unsigned_abs c ≤ 1 → size (terms_where c test number n) ≤ n
size-terms c test number zero small = omega arith
size-terms c test number (suc n) small = by-cases (test n) (size-terms c test number n small)
  where
    by-cases : (b : Bool) → size (terms_where c test number n) ≤ n → size (terms_where c test number n ++ when b ((number n, c) ∷ [])) ≤ suc n
    by-cases true h = let e = total-append (λ t. unsigned_abs t.1) (terms_where c test number n) ((number n, c) ∷ []) in omega arith
    by-cases false h = let e = total-append (λ t. unsigned_abs t.1) (terms_where c test number n) [] in omega arith

pub few-terms : (c : ℤ) (test : ℕ → Bool) (number : ℕ → ℕ) (n : ℕ) (ts : List (ℕ × ℤ)) → ts ≡ terms_where c test number n
    → unsigned_abs c ≤ 1 → n ≤ 8192 → size ts ≤ 2 ^ 14
few-terms c test number n ts is small few =
    let s : size (terms_where c test number n) ≤ n = size-terms c test number n small in
    rw is (omega arith)

-- a term in front of others, or behind them
abbrev pub placed : Bool → ℕ × ℤ → List (ℕ × ℤ) → List (ℕ × ℤ)
placed first own ts = (when first (own ∷ []) ++ ts) ++ when (not first) (own ∷ [])

size-placed : (first : Bool) (own : ℕ × ℤ) (ts : List (ℕ × ℤ)) → size (placed first own ts) ≡ unsigned_abs own.1 + size ts
size-placed true own ts =
    let e = total-append (λ t. unsigned_abs t.1) (own ∷ ts) [] in
    omega arith
size-placed false own ts =
    let e = total-append (λ t. unsigned_abs t.1) ts (own ∷ []) in
    omega arith

pub few-placed : (first : Bool) (own : ℕ × ℤ) (test : ℕ → Bool) (number : ℕ → ℕ) (n : ℕ) (ts : List (ℕ × ℤ))
    → ts ≡ placed first own (terms_where (pos 1) test number n) → unsigned_abs own.1 ≤ 1 → n ≤ 8192 → size ts ≤ 2 ^ 14
few-placed first own test number n ts is small few =
    let e : size (placed first own (terms_where (pos 1) test number n)) ≡ unsigned_abs own.1 + size (terms_where (pos 1) test number n) = size-placed first own (terms_where (pos 1) test number n) in
    let s : size (terms_where (pos 1) test number n) ≤ n = size-terms (pos 1) test number n (omega arith) in
    rw is (omega arith)

-- makes the same form
pub form-placed : (first : Bool) (own : ℕ × ℤ) (ts : List (ℕ × ℤ)) (b : ℤ) → form_of (placed first own ts) b ≡ form_of (own ∷ ts) b
form-placed true own ts b = ap (λ (us : List (ℕ × ℤ)). form_of us b) (append-nil (own ∷ ts))
form-placed false own ts b =
    ap (λ (us : List (ℕ × ℤ)). let f : Form = record { terms = us; bound = b } in f)
    (same_terms 0 (sorted (ts ++ own ∷ [])) (sorted (own ∷ ts)) (Rises-sorted (ts ++ own ∷ [])) (Rises-sorted (own ∷ ts))
    (λ v.
    let e = coefficient-sorted (ts ++ own ∷ []) v in
    let d = coefficient-sorted (own ∷ ts) v in
    let a = coefficient-append ts (own ∷ []) v in
    omega (arith, ints)))

-- a term in front, with others there where a test is passed
pub few-led : (own : ℕ × ℤ) (test : ℕ → Bool) (number : ℕ → ℕ) (n : ℕ) (ts : List (ℕ × ℤ)) → ts ≡ own ∷ terms_where (pos 1) test number n
    → unsigned_abs own.1 ≤ 1 → n ≤ 8192 → size ts ≤ 2 ^ 14
few-led own test number n ts is small few =
    let s : size (terms_where (pos 1) test number n) ≤ n = size-terms (pos 1) test number n (omega arith) in
    rw is (omega arith)
