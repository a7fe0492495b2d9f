-- Division: to which form a form is divided whose coefficients are multiples of the divisor, or between 0 and it.
use Rattle.std.proofs.Common.{◌≡◌, ℕ, suc, ◌+◌, ◌*◌, ◌/◌, ◌≤◌, ◌<◌, ◌==◌, Bool, true, false, cond, List, [], ◌∷◌, map, ℤ, pos, negsuc, ◌+ℤ◌, ◌-ℤ◌, ◌*ℤ◌, neg_ℤ, unsigned_abs, refl, sym, ap, subst, ◌∙◌, arith, inl, inr, ◌⊎◌}
use Rattle.std.proofs.lemmas.Int.{ints, unsigned_abs-mul}
use Rattle.std.proofs.lemmas.Bool.{cases_lt, eqb-true, ne_eqb}
use native.Mathlib.Nat.{add-mul, mul-le-mul_right, zero-mul}
use Rattle.std.proofs.Math.Nat.{div-eq_of_lt}
use Rattle.std.proofs.Math.IntN.{pos-*ℤ-pos}
use Rattle.proof_theory.specs.Forms.{Form, Rises, coefficient}
use Rattle.proof_theory.specs.Rules.{divide_of, negative, negatives, degree, up, up_ℤ, signed}
use Rattle.proof_theory.proofs.Sorting.{coefficient_below, coefficient_head, same_terms}
use Rattle.proof_theory.proofs.Rounding.{up-mul, up-least}
use Rattle.pb_terms.proofs.Ruled.{Rises-divided, same_form}
use Rattle.pair_line_theory.proofs.Values.{scaled}

-- ---- without a remainder

-- A number that falls short of a multiple of n by less than n rounds up to it.
up_is : (x n k : ℕ) → 0 < n → k * n < x + n → x ≤ k * n → up x n ≡ k
up_is x n k some short fits = by (cases_lt (up x n) k)
  where
    by : (up x n < k) ⊎ (k ≤ up x n) → up x n ≡ k
    by (inl less) =
        let above = up-mul x n some in
        let step = mul-le-mul_right {m = up x n + 1} {n = k} n (omega (arith, less)) in
        let one = add-mul (up x n) 1 n in
        absurd (omega (arith, above, step, one, short))
    by (inr more) = let low = up-least x n k some fits in omega (arith, low, more)

-- The sign and the size of so many times a number.
signed_back : (c : ℤ) (less : ℕ) → signed (c *ℤ pos (less + 1)) (up (unsigned_abs (c *ℤ pos (less + 1))) (less + 1)) ≡ c
signed_back c less =
    ap (λ (m : ℕ). signed (c *ℤ pos (less + 1)) (up m (less + 1))) (unsigned_abs-mul c (pos (less + 1)))
    ∙ ap (λ (m : ℕ). signed (c *ℤ pos (less + 1)) m) (up_is (unsigned_abs c * (less + 1)) (less + 1) (unsigned_abs c) (omega arith) (omega arith) (omega arith))
    ∙ by c
  where
    below : (m : ℕ) (z : ℤ) → z +ℤ pos (suc m * (less + 1)) ≡ pos (0 * (less + 1)) → signed z (suc m) ≡ negsuc m
    below m (pos y) e =
        let z = zero-mul (less + 1) in
        let some = mul-le-mul_right {m = 1} {n = suc m} (less + 1) (omega arith) in
        absurd (omega (arith, ints))
    below m (negsuc y) e = refl

    by : (d : ℤ) → signed (d *ℤ pos (less + 1)) (unsigned_abs d) ≡ d
    by (pos m) = ap (λ (z : ℤ). signed z m) (pos-*ℤ-pos m (less + 1))
    by (negsuc m) = below m (negsuc m *ℤ pos (less + 1)) (scaled (negsuc m) (suc m) 0 (less + 1) (let z : negsuc m +ℤ pos (suc m) ≡ pos 0 = omega (arith, ints) in z))

negative_times : (c : ℤ) (less : ℕ) → negative (c *ℤ pos (less + 1)) ≡ negative c * (less + 1)
negative_times (pos m) less = ap negative (pos-*ℤ-pos m (less + 1)) ∙ sym (zero-mul (less + 1))
negative_times (negsuc m) less = by (negsuc m *ℤ pos (less + 1)) (scaled (negsuc m) (suc m) 0 (less + 1) (let z : negsuc m +ℤ pos (suc m) ≡ pos 0 = omega (arith, ints) in z))
  where
    by : (z : ℤ) → z +ℤ pos (suc m * (less + 1)) ≡ pos (0 * (less + 1)) → negative z ≡ suc m * (less + 1)
    by (pos y) e =
        let z = zero-mul (less + 1) in
        let some = mul-le-mul_right {m = 1} {n = suc m} (less + 1) (omega arith) in
        absurd (omega (arith, ints))
    by (negsuc y) e = let z = zero-mul (less + 1) in omega (arith, ints)

rounds : (d : ℤ) (less n : ℕ) → d +ℤ pos less ≡ pos (n * (less + 1)) → up_ℤ d (less + 1) ≡ pos n
rounds (pos x) less n e = ap pos (up_is x (less + 1) n (omega arith) (omega (arith, ints)) (omega (arith, ints)))
rounds (negsuc y) less n e = by (cases_lt 0 n)
  where
    by : (0 < n) ⊎ (n ≤ 0) → neg_ℤ (pos (suc y / (less + 1))) ≡ pos n
    by (inl some) = let more = mul-le-mul_right {m = 1} {n = n} (less + 1) some in absurd (omega (arith, ints))
    by (inr none) =
        let zero_n : n ≡ 0 = omega (arith, none) in
        let z : n * (less + 1) ≡ 0 = ap (λ (m : ℕ). m * (less + 1)) zero_n ∙ zero-mul (less + 1) in
        let small : suc y < less + 1 = omega (arith, ints) in
        ap (λ (m : ℕ). neg_ℤ (pos m)) (div-eq_of_lt small) ∙ ap pos (sym zero_n)

-- ---- coefficients that are rounded

-- The coefficient that division leaves.
abbrev pub rounded : ℕ → ℤ → ℤ
rounded n c = signed c (up (unsigned_abs c) n)

-- So many times a number, or between 0 and n.
pub data Rounds (less : ℕ) (c d : ℤ) : Type 0 where
  times : c ≡ d *ℤ pos (less + 1) → Rounds less c d
  part : (k : ℕ) → c ≡ pos (suc k) → k ≤ less → d ≡ pos 1 → Rounds less c d

round_is : (less : ℕ) (c d : ℤ) → Rounds less c d → rounded (less + 1) c ≡ d
round_is less c d (times e) = ap (rounded (less + 1)) e ∙ signed_back d less
round_is less c d (part k e few one) = ap (rounded (less + 1)) e ∙ ap pos (up_is (suc k) (less + 1) 1 (omega arith) (omega (arith, few)) (omega (arith, few))) ∙ sym one

round_negative : (less : ℕ) (c d : ℤ) → Rounds less c d → negative c ≡ negative d * (less + 1)
round_negative less c d (times e) = ap negative e ∙ negative_times d less
round_negative less c d (part k e few one) = ap negative e ∙ sym (zero-mul (less + 1)) ∙ ap (λ (x : ℤ). negative x * (less + 1)) (sym one)

-- Each coefficient is rounded to the other list's.
abbrev pub RoundsAll : ℕ → List (ℕ × ℤ) → List (ℕ × ℤ) → Type 0
RoundsAll less ts us = (v : ℕ) → Rounds less (coefficient ts v) (coefficient us v)

none_rounds : (less : ℕ) → rounded (less + 1) (pos 0) ≡ pos 0
none_rounds less = ap pos (up_is 0 (less + 1) 0 (omega arith) (let z = zero-mul (less + 1) in omega (arith, z)) (omega arith))

coefficient_rounded : (less low : ℕ) (ts : List (ℕ × ℤ)) (v : ℕ) → Rises low ts → coefficient (map (λ (t : ℕ × ℤ). (t.0, rounded (less + 1) t.1)) ts) v ≡ rounded (less + 1) (coefficient ts v)
coefficient_rounded less low [] v r = sym (none_rounds less)
coefficient_rounded less low (t ∷ ts) v r = by (t.0 == v) refl (coefficient_rounded less (t.0 + 1) ts v r.2)
  where
    by : (b : Bool) → (t.0 == v) ≡ b → coefficient (map (λ (t : ℕ × ℤ). (t.0, rounded (less + 1) t.1)) ts) v ≡ rounded (less + 1) (coefficient ts v)
        → cond b (rounded (less + 1) t.1) (pos 0) +ℤ coefficient (map (λ (t : ℕ × ℤ). (t.0, rounded (less + 1) t.1)) ts) v ≡ rounded (less + 1) (cond b t.1 (pos 0) +ℤ coefficient ts v)
    by true same later =
        let none = coefficient_below (t.0 + 1) v ts r.2 (let e : t.0 ≡ v = eqb-true t.0 v same in omega (arith, e)) in
        let left : coefficient (map (λ (t : ℕ × ℤ). (t.0, rounded (less + 1) t.1)) ts) v ≡ pos 0 = later ∙ ap (rounded (less + 1)) none ∙ none_rounds less in
        let first : rounded (less + 1) t.1 +ℤ coefficient (map (λ (t : ℕ × ℤ). (t.0, rounded (less + 1) t.1)) ts) v ≡ rounded (less + 1) t.1 = omega (arith, ints) in
        let second : t.1 ≡ t.1 +ℤ coefficient ts v = omega (arith, ints) in
        first ∙ ap (rounded (less + 1)) second
    by false other later =
        let first : pos 0 +ℤ coefficient (map (λ (t : ℕ × ℤ). (t.0, rounded (less + 1) t.1)) ts) v ≡ rounded (less + 1) (coefficient ts v) = omega (arith, ints) in
        let second : coefficient ts v ≡ pos 0 +ℤ coefficient ts v = omega (arith, ints) in
        first ∙ ap (rounded (less + 1)) second

-- What holds of each coefficient of a rising list holds of each term.
negatives_rounded : (less low : ℕ) (ts : List (ℕ × ℤ)) → Rises low ts → ((v : ℕ) → negative (coefficient ts v) ≡ negative (rounded (less + 1) (coefficient ts v)) * (less + 1))
    → negatives ts ≡ negatives (map (λ (t : ℕ × ℤ). (t.0, rounded (less + 1) t.1)) ts) * (less + 1)
negatives_rounded less low [] r each = sym (zero-mul (less + 1))
negatives_rounded less low (t ∷ ts) r each =
    let here : negative t.1 ≡ negative (rounded (less + 1) t.1) * (less + 1) = subst (λ (c : ℤ). negative c ≡ negative (rounded (less + 1) c) * (less + 1)) (coefficient_head t ts r.2) (each t.0) in
    let later = negatives_rounded less (t.0 + 1) ts r.2 (λ v. tail v (cases_lt v (t.0 + 1))) in
    let e = add-mul (negative (rounded (less + 1) t.1)) (negatives (map (λ (t : ℕ × ℤ). (t.0, rounded (less + 1) t.1)) ts)) (less + 1) in
    omega (arith, here, later, e)
  where
    none : negative (pos 0) ≡ negative (rounded (less + 1) (pos 0)) * (less + 1)
    none = sym (ap (λ (c : ℤ). negative c * (less + 1)) (none_rounds less) ∙ zero-mul (less + 1))

    tail : (v : ℕ) → (v < t.0 + 1) ⊎ (t.0 + 1 ≤ v) → negative (coefficient ts v) ≡ negative (rounded (less + 1) (coefficient ts v)) * (less + 1)
    tail v (inl low_v) = subst (λ (c : ℤ). negative c ≡ negative (rounded (less + 1) c) * (less + 1)) (sym (coefficient_below (t.0 + 1) v ts r.2 low_v)) none
    tail v (inr high) =
        let other : (t.0 == v) ≡ false = ne_eqb t.0 v (λ (e : t.0 ≡ v). omega (arith, e, high)) in
        let same : coefficient (t ∷ ts) v ≡ coefficient ts v = ap (λ (b : Bool). cond b t.1 (pos 0) +ℤ coefficient ts v) other ∙ (let z : pos 0 +ℤ coefficient ts v ≡ coefficient ts v = omega (arith, ints) in z) in
        subst (λ (c : ℤ). negative c ≡ negative (rounded (less + 1) c) * (less + 1)) same (each v)

-- A form whose coefficients are rounded to those of another, and whose bound falls short of 0 by less than the divisor, is divided to that.
pub quotient : (less : ℕ) (f g : Form) → Rises 0 f.terms → Rises 0 g.terms → RoundsAll less f.terms g.terms → f.bound +ℤ pos less ≡ pos 0 → g.bound ≡ pos 0 → divide_of (less + 1) f ≡ g
quotient less f g rises sorts rounds_all bound none =
    same_form (map (λ (t : ℕ × ℤ). (t.0, rounded (less + 1) t.1)) f.terms) g.terms _ g.bound same
    (ap (λ (d : ℤ). d -ℤ pos (negatives (map (λ (t : ℕ × ℤ). (t.0, rounded (less + 1) t.1)) f.terms))) (rounds (degree f) less (negatives g.terms) degree_is)
    ∙ ap (λ (ts : List (ℕ × ℤ)). pos (negatives g.terms) -ℤ pos (negatives ts)) same ∙ (let z : pos (negatives g.terms) -ℤ pos (negatives g.terms) ≡ g.bound = omega (arith, ints) in z))
  where
    same : map (λ (t : ℕ × ℤ). (t.0, rounded (less + 1) t.1)) f.terms ≡ g.terms
    same = same_terms 0 (map (λ (t : ℕ × ℤ). (t.0, rounded (less + 1) t.1)) f.terms) g.terms (Rises-divided (less + 1) f.terms (omega arith) rises) sorts
        (λ v. coefficient_rounded less 0 f.terms v rises ∙ round_is less (coefficient f.terms v) (coefficient g.terms v) (rounds_all v))

    degree_is : degree f +ℤ pos less ≡ pos (negatives g.terms * (less + 1))
    degree_is =
        let n = negatives_rounded less 0 f.terms rises
        (λ v. round_negative less (coefficient f.terms v) (coefficient g.terms v) (rounds_all v)
        ∙ ap (λ (c : ℤ). negative c * (less + 1)) (sym (round_is less (coefficient f.terms v) (coefficient g.terms v) (rounds_all v)))) in
        let m = ap (λ (ts : List (ℕ × ℤ)). negatives ts * (less + 1)) same in
        omega (arith, ints)
