-- The weight of an assignment: the sum of the normal form's coefficients at its true literals.
-- A form holds exactly where its degree is at most the weight.
use Rattle.std.proofs.Common.{◌≡◌, ℕ, zero, suc, ◌+◌, ◌≤◌, min, Bool, true, false, cond, List, [], ◌∷◌, ℤ, pos, negsuc, ◌+ℤ◌, ◌≤ℤ◌, unsigned_abs, refl, arith, Some}
use Rattle.std.proofs.lemmas.Int.{ints}
use Rattle.proof_theory.specs.Forms.{Form, Holds, value, total, keep}
use Rattle.proof_theory.specs.Rules.{negative, negatives, degree, with_degree, signed, cut}
use Rattle.proof_theory.specs.Slack.{open_at}

-- What one term weighs at a value of its variable.
abbrev pub term_weight : Bool → ℤ → ℕ
term_weight b c = cond (open_at (Some b) c) (unsigned_abs c) 0

-- What all terms weigh.
abbrev pub weight : (ℕ → Bool) → List (ℕ × ℤ) → ℕ
weight a ts = total (λ t. term_weight (a t.0) t.1) ts

value_of_term : (b : Bool) (c : ℤ) → cond b c (pos 0) +ℤ pos (negative c) ≡ pos (term_weight b c)
value_of_term true (pos n) = omega (arith, ints)
value_of_term true (negsuc n) = omega (arith, ints)
value_of_term false (pos n) = omega (arith, ints)
value_of_term false (negsuc n) = omega (arith, ints)

-- The value and the negative coefficients together are the weight.
pub value-weight : (a : ℕ → Bool) (ts : List (ℕ × ℤ)) → value a ts +ℤ pos (negatives ts) ≡ pos (weight a ts)
value-weight a [] = refl
value-weight a (t ∷ ts) =
    let h = value_of_term (a t.0) t.1 in
    let k = value-weight a ts in
    omega (arith, ints)

-- A form that holds has a degree of at most the weight.
pub degree_below : (a : ℕ → Bool) (f : Form) → Holds f a → degree f ≤ℤ pos (weight a f.terms)
degree_below a f h =
    let k : f.bound ≤ℤ value a f.terms = h.reached in
    let e = value-weight a f.terms in
    omega (arith, ints)

-- A form whose degree is at most the weight holds.
pub holds_from : (a : ℕ → Bool) (f : Form) → degree f ≤ℤ pos (weight a f.terms) → Holds f a
holds_from a f h =
    let e = value-weight a f.terms in
    record { reached = omega (arith, ints) }

-- The degree given to terms is their degree.
pub degree-with_degree : (ts : List (ℕ × ℤ)) (d : ℤ) → degree (with_degree ts d) ≡ d
degree-with_degree ts d = omega (arith, ints)

-- A term whose size is changed weighs its new size where it weighed the old one.
pub signed_weight : (b : Bool) (c : ℤ) (m : ℕ) → term_weight b (signed c m) ≡ cond (open_at (Some b) c) m 0
signed_weight true (pos n) m = refl
signed_weight false (pos n) m = refl
signed_weight true (negsuc n) zero = refl
signed_weight false (negsuc n) zero = refl
signed_weight true (negsuc n) (suc m) = refl
signed_weight false (negsuc n) (suc m) = refl

weight-keep : (a : ℕ → Bool) (v : ℕ) (c : ℤ) (ts : List (ℕ × ℤ)) → weight a (keep v c ts) ≡ term_weight (a v) c + weight a ts
weight-keep a v (pos zero) ts = elim (a v) as (λ b. weight a ts ≡ term_weight b (pos 0) + weight a ts) [ true ↦ omega arith | false ↦ omega arith ]
weight-keep a v (pos (suc n)) ts = refl
weight-keep a v (negsuc n) ts = refl

min_step : (b : Bool) (x d w u : ℕ) → min w d ≤ u → min (cond b x 0 + w) d ≤ cond b (min x d) 0 + u
min_step true x d w u h = omega arith
min_step false x d w u h = omega arith

-- Cutting each coefficient to d takes the weight down to no less than d.
pub weight-cut : (a : ℕ → Bool) (d : ℕ) (ts : List (ℕ × ℤ)) → min (weight a ts) d ≤ weight a (cut d ts)
weight-cut a d [] = omega arith
weight-cut a d (t ∷ ts) =
    let c : ℤ = signed t.1 (min (unsigned_abs t.1) d) in
    let e = weight-keep a t.0 c (cut d ts) in
    let k = signed_weight (a t.0) t.1 (min (unsigned_abs t.1) d) in
    let h = min_step (open_at (Some (a t.0)) t.1) (unsigned_abs t.1) d (weight a ts) (weight a (cut d ts)) (weight-cut a d ts) in
    omega arith
