-- What each form of the encoding says of an assignment, in counts of variables that are true.

use Rattle.std.proofs.Common.{◌≡◌, ℕ, zero, suc, ◌≤◌, ◌<◌, Bool, true, false, ◌&&◌, cond, if◌then◌else◌, List, [], ◌∷◌, ℤ, pos, negsuc, ◌+ℤ◌, ◌≤ℤ◌, refl, sym, subst, ap, arith}
use Rattle.std.proofs.lemmas.Int.{ints}
use Rattle.graph_theory.specs.Neighbours.{count}
use Rattle.proof_theory.specs.Forms.{Holds, value, form_of}
use Rattle.proof_theory.proofs.Sorting.{value-sorted, value-append}
use Rattle.encoding_theory.specs.Variables.{when}
use Rattle.encoding_theory.specs.Encoding.{terms_where}

-- a form holds exactly where its raw terms reach the bound
pub holds_value : (ts : List (ℕ × ℤ)) (b : ℤ) (a : ℕ → Bool) → Holds (form_of ts b) a → b ≤ℤ value a ts
holds_value ts b a h = subst (λ (v : ℤ). b ≤ℤ v) (value-sorted a ts) h.reached

pub value_holds : (ts : List (ℕ × ℤ)) (b : ℤ) (a : ℕ → Bool) → b ≤ℤ value a ts → Holds (form_of ts b) a
value_holds ts b a h = record { reached = subst (λ (v : ℤ). b ≤ℤ v) (sym (value-sorted a ts)) h }

-- one term, there where the test is passed
value-when : (a : ℕ → Bool) (v : ℕ) (c : ℤ) (b : Bool) → value a (when b ((v, c) ∷ [])) ≡ cond (b && a v) c (pos 0)
value-when a v c true = omega (arith, ints)
value-when a v c false = refl

one_more : (b : Bool) → cond b (pos 1) (pos 0) ≡ pos (if b then 1 else 0)
one_more true = refl
one_more false = refl

one_less : (b : Bool) → cond b (negsuc 0) (pos 0) +ℤ pos (if b then 1 else 0) ≡ pos 0
one_less true = omega (arith, ints)
one_less false = omega (arith, ints)

-- terms with coefficient 1 add up to the count of true variables
pub value_up : (a : ℕ → Bool) (test : ℕ → Bool) (number : ℕ → ℕ) (n : ℕ)
    → value a (terms_where (pos 1) test number n) ≡ pos (count (λ i. test i && a (number i)) n)
value_up a test number zero = refl
value_up a test number (suc n) =
    let h = value_up a test number n in
    let e = value-append a (terms_where (pos 1) test number n) (when (test n) ((number n, pos 1) ∷ [])) in
    let w = value-when a (number n) (pos 1) (test n) in
    let o = one_more (test n && a (number n)) in
    omega (arith, ints)

-- terms with coefficient -1 to its opposite
pub value_down : (a : ℕ → Bool) (test : ℕ → Bool) (number : ℕ → ℕ) (n : ℕ)
    → value a (terms_where (negsuc 0) test number n) +ℤ pos (count (λ i. test i && a (number i)) n) ≡ pos 0
value_down a test number zero = omega (arith, ints)
value_down a test number (suc n) =
    let h = value_down a test number n in
    let e = value-append a (terms_where (negsuc 0) test number n) (when (test n) ((number n, negsuc 0) ∷ [])) in
    let w = value-when a (number n) (negsuc 0) (test n) in
    let o = one_less (test n && a (number n)) in
    omega (arith, ints)

-- at least one
pub some_true : (a : ℕ → Bool) (test : ℕ → Bool) (number : ℕ → ℕ) (n : ℕ)
    → Holds (form_of (terms_where (pos 1) test number n) (pos 1)) a → 0 < count (λ i. test i && a (number i)) n
some_true a test number n h =
    let v = value_up a test number n in
    let k = holds_value (terms_where (pos 1) test number n) (pos 1) a h in
    omega (arith, ints)

pub true_some : (a : ℕ → Bool) (test : ℕ → Bool) (number : ℕ → ℕ) (n : ℕ)
    → 0 < count (λ i. test i && a (number i)) n → Holds (form_of (terms_where (pos 1) test number n) (pos 1)) a
true_some a test number n h =
    let v = value_up a test number n in
    value_holds (terms_where (pos 1) test number n) (pos 1) a (omega (arith, ints))

-- at most one
pub one_true : (a : ℕ → Bool) (test : ℕ → Bool) (number : ℕ → ℕ) (n : ℕ)
    → Holds (form_of (terms_where (negsuc 0) test number n) (negsuc 0)) a → count (λ i. test i && a (number i)) n ≤ 1
one_true a test number n h =
    let v = value_down a test number n in
    let k = holds_value (terms_where (negsuc 0) test number n) (negsuc 0) a h in
    omega (arith, ints)

pub true_one : (a : ℕ → Bool) (test : ℕ → Bool) (number : ℕ → ℕ) (n : ℕ)
    → count (λ i. test i && a (number i)) n ≤ 1 → Holds (form_of (terms_where (negsuc 0) test number n) (negsuc 0)) a
true_one a test number n h =
    let v = value_down a test number n in
    value_holds (terms_where (negsuc 0) test number n) (negsuc 0) a (omega (arith, ints))

-- where a variable is true, one of others is: the variable's own term takes 1 from their count
pub follows : (a : ℕ → Bool) (w : ℕ) (test : ℕ → Bool) (number : ℕ → ℕ) (n : ℕ)
    → Holds (form_of ((w, negsuc 0) ∷ terms_where (pos 1) test number n) (pos 0)) a → a w ≡ true → 0 < count (λ i. test i && a (number i)) n
follows a w test number n h e =
    let v = value_up a test number n in
    let k = holds_value ((w, negsuc 0) ∷ terms_where (pos 1) test number n) (pos 0) a h in
    let t : cond (a w) (negsuc 0) (pos 0) ≡ negsuc 0 = ap (λ (b : Bool). cond b (negsuc 0) (pos 0)) e in
    omega (arith, ints)

pub following : (a : ℕ → Bool) (w : ℕ) (test : ℕ → Bool) (number : ℕ → ℕ) (n : ℕ)
    → (a w ≡ true → 0 < count (λ i. test i && a (number i)) n) → Holds (form_of ((w, negsuc 0) ∷ terms_where (pos 1) test number n) (pos 0)) a
following a w test number n h =
    value_holds ((w, negsuc 0) ∷ terms_where (pos 1) test number n) (pos 0) a (by-cases (a w) refl)
  where
    by-cases : (b : Bool) → a w ≡ b → pos 0 ≤ℤ (cond b (negsuc 0) (pos 0) +ℤ value a (terms_where (pos 1) test number n))
    by-cases true e = let v = value_up a test number n in let k = h e in omega (arith, ints)
    by-cases false e = let v = value_up a test number n in omega (arith, ints)

-- a variable that is refused is false
pub refused_false : (a : ℕ → Bool) (w : ℕ) → Holds (form_of ((w, negsuc 0) ∷ []) (pos 0)) a → a w ≡ true → ⊥
refused_false a w h e =
    let k = holds_value ((w, negsuc 0) ∷ []) (pos 0) a h in
    let t : cond (a w) (negsuc 0) (pos 0) ≡ negsuc 0 = ap (λ (b : Bool). cond b (negsuc 0) (pos 0)) e in
    omega (arith, ints)

pub false_refused : (a : ℕ → Bool) (w : ℕ) → a w ≡ false → Holds (form_of ((w, negsuc 0) ∷ []) (pos 0)) a
false_refused a w e =
    let t : cond (a w) (negsuc 0) (pos 0) ≡ pos 0 = ap (λ (b : Bool). cond b (negsuc 0) (pos 0)) e in
    value_holds ((w, negsuc 0) ∷ []) (pos 0) a (omega (arith, ints))
