-- The order and the size of what the rules make.
use Rattle.std.proofs.Common.{◌≡◌, ◌≢◌, ℕ, zero, suc, ◌+◌, ◌*◌, ◌≤◌, ◌<◌, min, nat_lt, ◌==◌, Bool, true, false, cond, List, [], ◌∷◌, map, ℤ, pos, negsuc, ◌+ℤ◌, ◌*ℤ◌, ◌-ℤ◌, ◌^◌, to_z, of_z, unsigned_abs, refl, sym, ap, ◌∙◌, arith}
use Rattle.std.specs.Int.{w128}
use Rattle.std.specs.List.Sorted.{IsPermutation}
use Rattle.std.proofs.lemmas.Int.{ints, unsigned_abs-mul, to_z-of_z, fits_signed_from_abs}
use Rattle.std.proofs.lemmas.List.Sorted.{sum_by-IsPermutation}
use Rattle.std.proofs.lemmas.List.Recursion.{is_sum_by}
use Rattle.std.proofs.Math.Nat.{add-mul, zero-mul, mul-le-mul_right, mul-le-mul_left}
use Rattle.proof_theory.specs.Forms.{Form, Rises, keep, put, sorted, total, size, coefficient, value}
use Rattle.proof_theory.specs.Rules.{up, signed, cut, negative, negatives}
use Rattle.proof_theory.proofs.Sorting.{Rises-keep, Rises-sorted, coefficient-sorted, coefficient-value, same_terms}
use Rattle.proof_theory.proofs.Weights.{weight, term_weight, value-weight}
use Rattle.proof_theory.proofs.Rounding.{up-mul, up-least}

-- Changing each coefficient, none of them to zero, keeps the order.
pub Rises-mapped : (f : ℤ → ℤ) → ((c : ℤ) → c ≢ pos 0 → f c ≢ pos 0) → (low : ℕ) (ts : List (ℕ × ℤ)) → Rises low ts → Rises low (map (λ (t : ℕ × ℤ). (t.0, f t.1)) ts)
Rises-mapped f keeps low [] r = tt
Rises-mapped f keeps low (t ∷ ts) r = (r.0, keeps t.1 r.1, Rises-mapped f keeps (t.0 + 1) ts r.2)

abs_positive : (c : ℤ) → c ≢ pos 0 → 0 < unsigned_abs c
abs_positive (pos zero) h = absurd (h refl)
abs_positive (pos (suc n)) h = omega arith
abs_positive (negsuc n) h = omega arith

abs_zero : (c : ℤ) → c ≡ pos 0 → unsigned_abs c ≡ 0
abs_zero c e = ap unsigned_abs e

product_positive : (m n : ℕ) → 0 < m → 0 < n → 0 < m * n
product_positive m n h k = let l = mul-le-mul_right {m = 1} {n = m} n (omega arith) in omega arith

scaled_not_zero : (n : ℕ) → 0 < n → (c : ℤ) → c ≢ pos 0 → c *ℤ pos n ≢ pos 0
scaled_not_zero n h c k e =
    let a = abs_zero (c *ℤ pos n) e in
    let m = unsigned_abs-mul c (pos n) in
    let p = product_positive (unsigned_abs c) n (abs_positive c k) h in
    omega arith

pub Rises-scaled : (n : ℕ) (ts : List (ℕ × ℤ)) → 0 < n → Rises 0 ts → Rises 0 (map (λ (t : ℕ × ℤ). (t.0, t.1 *ℤ pos n)) ts)
Rises-scaled n ts h r = Rises-mapped (λ c. c *ℤ pos n) (scaled_not_zero n h) 0 ts r

pub size-scaled : (n : ℕ) (ts : List (ℕ × ℤ)) → size (map (λ (t : ℕ × ℤ). (t.0, t.1 *ℤ pos n)) ts) ≡ size ts * n
size-scaled n [] = sym (zero-mul n)
size-scaled n (t ∷ ts) =
    let k = size-scaled n ts in
    let m = unsigned_abs-mul t.1 (pos n) in
    let d = add-mul (unsigned_abs t.1) (size ts) n in
    omega arith

-- A size given a sign keeps its size.
pub unsigned_abs-signed : (c : ℤ) (m : ℕ) → unsigned_abs (signed c m) ≡ m
unsigned_abs-signed (pos n) m = refl
unsigned_abs-signed (negsuc n) zero = refl
unsigned_abs-signed (negsuc n) (suc m) = refl

up_positive : (m n : ℕ) → 0 < m → 0 < n → 0 < up m n
up_positive m n h k = by-size (up m n) (up-mul m n k)
  where
    by-size : (u : ℕ) → m ≤ u * n → 0 < u
    by-size zero l = let z = zero-mul n in absurd (omega arith)
    by-size (suc u) l = omega arith

up_below : (m n : ℕ) → 0 < n → up m n ≤ m
up_below m n k = up-least m n m k (at_least m n k)
  where
    at_least : (a b : ℕ) → 0 < b → a ≤ a * b
    at_least a b h = let l = mul-le-mul_left {m = 1} {n = b} a (omega arith) in omega arith

divided_not_zero : (n : ℕ) → 0 < n → (c : ℤ) → c ≢ pos 0 → signed c (up (unsigned_abs c) n) ≢ pos 0
divided_not_zero n h c k e =
    let a = abs_zero (signed c (up (unsigned_abs c) n)) e in
    let s = unsigned_abs-signed c (up (unsigned_abs c) n) in
    let p = up_positive (unsigned_abs c) n (abs_positive c k) h in
    omega arith

pub Rises-divided : (n : ℕ) (ts : List (ℕ × ℤ)) → 0 < n → Rises 0 ts → Rises 0 (map (λ (t : ℕ × ℤ). (t.0, signed t.1 (up (unsigned_abs t.1) n))) ts)
Rises-divided n ts h r = Rises-mapped (λ c. signed c (up (unsigned_abs c) n)) (divided_not_zero n h) 0 ts r

pub size-divided : (n : ℕ) (ts : List (ℕ × ℤ)) → 0 < n → size (map (λ (t : ℕ × ℤ). (t.0, signed t.1 (up (unsigned_abs t.1) n))) ts) ≤ size ts
size-divided n [] h = omega arith
size-divided n (t ∷ ts) h =
    let k = size-divided n ts h in
    let s = unsigned_abs-signed t.1 (up (unsigned_abs t.1) n) in
    let b = up_below (unsigned_abs t.1) n h in
    omega arith

pub size-keep : (v : ℕ) (c : ℤ) (ts : List (ℕ × ℤ)) → size (keep v c ts) ≡ unsigned_abs c + size ts
size-keep v (pos zero) ts = omega arith
size-keep v (pos (suc n)) ts = refl
size-keep v (negsuc n) ts = refl

pub size-cut : (d : ℕ) (ts : List (ℕ × ℤ)) → size (cut d ts) ≤ size ts
size-cut d [] = omega arith
size-cut d (t ∷ ts) =
    let k = size-cut d ts in
    let e = size-keep t.0 (signed t.1 (min (unsigned_abs t.1) d)) (cut d ts) in
    let s = unsigned_abs-signed t.1 (min (unsigned_abs t.1) d) in
    omega arith

pub Rises-cut : (low d : ℕ) (ts : List (ℕ × ℤ)) → Rises low ts → Rises low (cut d ts)
Rises-cut low d [] r = tt
Rises-cut low d (t ∷ ts) r = Rises-keep low t.0 (signed t.1 (min (unsigned_abs t.1) d)) (cut d ts) r.0 (Rises-cut (t.0 + 1) d ts r.2)

-- Sorting makes no sum of absolute coefficients greater.
size-put : (v : ℕ) (c : ℤ) (ts : List (ℕ × ℤ)) → size (put v c ts) ≤ unsigned_abs c + size ts
unfolding put
size-put v c [] = let e = size-keep v c [] in omega arith
size-put v c (t ∷ ts) = by-less (size-put v c ts) (nat_lt v t.0)
  where
    by-same : size (put v c ts) ≤ unsigned_abs c + size ts → (b : Bool) → size (cond b (keep v (c +ℤ t.1) ts) (t ∷ put v c ts)) ≤ unsigned_abs c + (unsigned_abs t.1 + size ts)
    by-same ih true = let e = size-keep v (c +ℤ t.1) ts in omega (arith, ints)
    by-same ih false = omega arith

    by-less : size (put v c ts) ≤ unsigned_abs c + size ts → (b : Bool) → size (cond b (keep v c (t ∷ ts)) (cond (v == t.0) (keep v (c +ℤ t.1) ts) (t ∷ put v c ts))) ≤ unsigned_abs c + (unsigned_abs t.1 + size ts)
    by-less ih true = let e = size-keep v c (t ∷ ts) in omega arith
    by-less ih false = by-same ih (v == t.0)

pub size-sorted : (ts : List (ℕ × ℤ)) → size (sorted ts) ≤ size ts
unfolding sorted
size-sorted [] = omega arith
size-sorted (t ∷ ts) = let h = size-put t.0 t.1 (sorted ts) in let k = size-sorted ts in omega arith

-- The same terms in another order have the same sums.
total_permuted : (f : ℕ × ℤ → ℕ) (xs ys : List (ℕ × ℤ)) → IsPermutation xs ys → total f ys ≡ total f xs
total_permuted f xs ys h =
    is_sum_by (total f) f refl (λ _ _. refl) ys ∙ sum_by-IsPermutation f xs ys h ∙ sym (is_sum_by (total f) f refl (λ _ _. refl) xs)

pub size_permuted : (xs ys : List (ℕ × ℤ)) → IsPermutation xs ys → size ys ≡ size xs
size_permuted xs ys h = total_permuted (λ t. unsigned_abs t.1) xs ys h

coefficient_permuted : (xs ys : List (ℕ × ℤ)) → IsPermutation xs ys → (v : ℕ) → coefficient ys v ≡ coefficient xs v
coefficient_permuted xs ys h v =
    let a : ℕ → Bool = λ w. w == v in
    let e = value-weight a xs in
    let f = value-weight a ys in
    let n : negatives ys ≡ negatives xs = total_permuted (λ t. negative t.1) xs ys h in
    let w : weight a ys ≡ weight a xs = total_permuted (λ t. term_weight (a t.0) t.1) xs ys h in
    coefficient-value ys v ∙ same_value (value a xs) (value a ys) (negatives xs) (negatives ys) (weight a xs) (weight a ys) e f n w ∙ sym (coefficient-value xs v)
  where
    same_value : (x y : ℤ) (m n p q : ℕ) → x +ℤ pos m ≡ pos p → y +ℤ pos n ≡ pos q → n ≡ m → q ≡ p → y ≡ x
    same_value x y m n p q e f g k = omega (arith, ints)

-- The same terms in another order sort to the same list.
pub sorted_permuted : (xs ys : List (ℕ × ℤ)) → IsPermutation xs ys → sorted ys ≡ sorted xs
sorted_permuted xs ys h =
    same_terms 0 (sorted ys) (sorted xs) (Rises-sorted ys) (Rises-sorted xs) (λ v. coefficient-sorted ys v ∙ coefficient_permuted xs ys h v ∙ sym (coefficient-sorted xs v))

-- Terms in another order, as they are lent: they weigh as much, and sort to the same list.
pub in_order : (ts us lent : List (ℕ × ℤ)) → IsPermutation ts us → lent ≡ us → (size lent ≡ size ts) × (sorted lent ≡ sorted ts)
in_order ts us lent h e = (ap size e ∙ size_permuted ts us h, ap sorted e ∙ sorted_permuted ts us h)

-- Forms with the same terms and the same bound are the same.
pub same_form : (ts us : List (ℕ × ℤ)) (b d : ℤ) → ts ≡ us → b ≡ d → let f : Form = record { terms = ts; bound = b } in let g : Form = record { terms = us; bound = d } in f ≡ g
same_form ts us b d e k = ap (λ (x : List (ℕ × ℤ)). let f : Form = record { terms = x; bound = b } in f) e ∙ ap (λ (x : ℤ). let f : Form = record { terms = us; bound = x } in f) k

-- A difference of a degree and a sum of negative coefficients is exact in i128.
pub exact_difference : (d : ℤ) (n : ℕ) → unsigned_abs d ≤ 2 ^ 126 → n ≤ 2 ^ 125 → to_z w128 (of_z w128 (to_z w128 (of_z w128 d) -ℤ to_z w128 n)) ≡ d -ℤ pos n
exact_difference d n h k = omega (arith, ints)

-- A number up to 2^126 in size is itself in i128.
pub exact : (z : ℤ) → unsigned_abs z ≤ 2 ^ 126 → to_z w128 (of_z w128 z) ≡ z
exact z h = to_z-of_z w128 z (fits_signed_from_abs w128 z (omega arith))
