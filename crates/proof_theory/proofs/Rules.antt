-- Each rule keeps every assignment that satisfies its operands.
use Rattle.std.proofs.Common.{◌≡◌, ℕ, zero, suc, ◌*◌, ◌≤◌, ◌<◌, min, Bool, true, false, cond, List, [], ◌∷◌, ◌++◌, map, ℤ, pos, negsuc, ◌+ℤ◌, ◌*ℤ◌, neg_ℤ, ◌≤ℤ◌, unsigned_abs, refl, sym, ap, ◌∙◌, arith, Some, ◌<ℤ◌, int_lt}
use Rattle.std.proofs.lemmas.Int.{ints}
use Rattle.std.proofs.Math.IntN.{suc_ℤ-*ℤ, *ℤ_comm, zero-*ℤ}
use Rattle.std.proofs.Math.Nat.{add-mul}
use Rattle.std.proofs.lemmas.Bool.{and_parts}
use Rattle.proof_theory.specs.declared.literal.Literal.{Literal}
use Rattle.proof_theory.specs.Forms.{Form, Holds, value}
use Rattle.proof_theory.specs.Rules.{sum_of, times_of, divide_of, saturate_of, degree, signed, cut, up, up_ℤ, at_least_zero, is_contradiction, has_no_term}
use Rattle.proof_theory.specs.Slack.{axiom_form, literal_term, open_at}
use Rattle.proof_theory.proofs.Sorting.{value-sorted, value-append}
use Rattle.proof_theory.proofs.Weights.{term_weight, weight, degree_below, holds_from, degree-with_degree, signed_weight, weight-cut}
use Rattle.proof_theory.proofs.Rounding.{up-mul, up-least}

-- The sum of two forms that hold holds.
pub sum_holds : (f g : Form) (a : ℕ → Bool) → Holds f a → Holds g a → Holds (sum_of f g) a
sum_holds f g a h k =
    let e = value-sorted a (f.terms ++ g.terms) in
    let d = value-append a f.terms g.terms in
    let x : f.bound ≤ℤ value a f.terms = h.reached in
    let y : g.bound ≤ℤ value a g.terms = k.reached in
    record { reached = omega (arith, ints) }

-- One more factor is one more summand.
times_more : (x : ℤ) (n : ℕ) → x *ℤ pos (suc n) ≡ x *ℤ pos n +ℤ x
times_more x n = *ℤ_comm x (pos (suc n)) ∙ suc_ℤ-*ℤ (pos n) x ∙ ap (λ (y : ℤ). y +ℤ x) (*ℤ_comm (pos n) x)

times_none : (x : ℤ) → x *ℤ pos zero ≡ pos zero
times_none x = *ℤ_comm x (pos zero) ∙ zero-*ℤ x

-- A multiple of a sum is the sum of the multiples.
pub times_sum : (x y : ℤ) (n : ℕ) → (x +ℤ y) *ℤ pos n ≡ (x *ℤ pos n) +ℤ (y *ℤ pos n)
times_sum x y zero =
    let e = times_none x in
    let d = times_none y in
    let f = times_none (x +ℤ y) in
    omega (arith, ints)
times_sum x y (suc n) =
    let e = times_more x n in
    let d = times_more y n in
    let f = times_more (x +ℤ y) n in
    let h = times_sum x y n in
    omega (arith, ints)

times_keeps_order : (x y : ℤ) (n : ℕ) → x ≤ℤ y → (x *ℤ pos n) ≤ℤ (y *ℤ pos n)
times_keeps_order x y zero h =
    let e = times_none x in
    let d = times_none y in
    omega (arith, ints)
times_keeps_order x y (suc n) h =
    let e = times_more x n in
    let d = times_more y n in
    let k = times_keeps_order x y n h in
    omega (arith, ints)

times_one_term : (b : Bool) (c : ℤ) (n : ℕ) → cond b (c *ℤ pos n) (pos 0) ≡ cond b c (pos 0) *ℤ pos n
times_one_term true c n = refl
times_one_term false c n = sym (*ℤ_comm (pos 0) (pos n) ∙ times_zero n)
  where
    times_zero : (m : ℕ) → pos m *ℤ pos 0 ≡ pos 0
    times_zero m = times_none (pos m)

value-times : (a : ℕ → Bool) (n : ℕ) (ts : List (ℕ × ℤ)) → value a (map (λ t. (t.0, t.1 *ℤ pos n)) ts) ≡ value a ts *ℤ pos n
value-times a n [] = sym (zero-*ℤ (pos n))
value-times a n (t ∷ ts) =
    let h = value-times a n ts in
    let e = times_one_term (a t.0) t.1 n in
    let d = times_sum (cond (a t.0) t.1 (pos 0)) (value a ts) n in
    omega (arith, ints)

-- A multiple of a form that holds holds.
pub times_holds : (n : ℕ) (f : Form) (a : ℕ → Bool) → Holds f a → Holds (times_of n f) a
times_holds n f a h =
    let e = value-times a n f.terms in
    let k = times_keeps_order f.bound (value a f.terms) n h.reached in
    record { reached = omega (arith, ints) }

rounded_size : (b : Bool) (m n : ℕ) → 0 < n → cond b m 0 ≤ cond b (up m n) 0 * n
rounded_size true m n h = up-mul m n h
rounded_size false m n h = omega arith

-- One rounded term weighs at least its n-th part.
divided_term : (b : Bool) (c : ℤ) (n : ℕ) → 0 < n → term_weight b c ≤ term_weight b (signed c (up (unsigned_abs c) n)) * n
divided_term b c n h =
    let e = signed_weight b c (up (unsigned_abs c) n) in
    let k = rounded_size (open_at (Some b) c) (unsigned_abs c) n h in
    let d : term_weight b (signed c (up (unsigned_abs c) n)) * n ≡ cond (open_at (Some b) c) (up (unsigned_abs c) n) 0 * n = ap (λ (x : ℕ). x * n) e in
    omega arith

weight-divide : (a : ℕ → Bool) (n : ℕ) (ts : List (ℕ × ℤ)) → 0 < n → weight a ts ≤ weight a (map (λ t. (t.0, signed t.1 (up (unsigned_abs t.1) n))) ts) * n
weight-divide a n [] h = omega arith
weight-divide a n (t ∷ ts) h =
    let k = weight-divide a n ts h in
    let e = divided_term (a t.0) t.1 n h in
    let d = add-mul (term_weight (a t.0) (signed t.1 (up (unsigned_abs t.1) n))) (weight a (map (λ t. (t.0, signed t.1 (up (unsigned_abs t.1) n))) ts)) n in
    omega arith

-- The quotient of a form that holds holds.
pub divide_holds : (n : ℕ) (f : Form) (a : ℕ → Bool) → 0 < n → Holds f a → Holds (divide_of n f) a
divide_holds n f a p h =
    let e = degree-with_degree (divide_of n f).terms (up_ℤ (degree f) n) in
    let k = rounded (degree f) (degree_below a f h) in
    holds_from a (divide_of n f) (omega (arith, ints))
  where
    rounded : (d : ℤ) → d ≤ℤ pos (weight a f.terms) → up_ℤ d n ≤ℤ pos (weight a (divide_of n f).terms)
    rounded (pos m) le =
        let k = weight-divide a n f.terms p in
        let u = up-least m n (weight a (divide_of n f).terms) p (omega (arith, ints)) in
        omega (arith, ints)
    rounded (negsuc m) le = omega (arith, ints)

cut_degree : (d : ℤ) (w u : ℕ) → d ≤ℤ pos w → min w (at_least_zero d) ≤ u → d ≤ℤ pos u
cut_degree (pos n) w u h k = omega (arith, ints)
cut_degree (negsuc n) w u h k = omega (arith, ints)

-- A saturated form that held holds.
pub saturate_holds : (f : Form) (a : ℕ → Bool) → Holds f a → Holds (saturate_of f) a
saturate_holds f a h =
    let e = degree-with_degree (cut (at_least_zero (degree f)) f.terms) (degree f) in
    let k = cut_degree (degree f) (weight a f.terms) (weight a (saturate_of f).terms) (degree_below a f h) (weight-cut a (at_least_zero (degree f)) f.terms) in
    holds_from a (saturate_of f) (omega (arith, ints))

axiom_value : (n b : Bool) → (cond n (neg_ℤ (pos 1)) (pos 0)) ≤ℤ (cond b (cond n (neg_ℤ (pos 1)) (pos 1)) (pos 0) +ℤ pos 0)
axiom_value true true = omega (arith, ints)
axiom_value true false = omega (arith, ints)
axiom_value false true = omega (arith, ints)
axiom_value false false = omega (arith, ints)

-- A literal is at least zero.
pub axiom_form_holds : (l : Literal) (a : ℕ → Bool) → Holds (axiom_form l) a
axiom_form_holds l a =
    let e = value-sorted a (literal_term l ∷ []) in
    let k = axiom_value l.negated (a l.variable) in
    record { reached = omega (arith, ints) }

-- A plainly false form holds nowhere.
pub contradiction_fails : (f : Form) (a : ℕ → Bool) → is_contradiction f ≡ true → Holds f a → ⊥
contradiction_fails f a e h = by-terms f.terms refl
  where
    by-terms : (ts : List (ℕ × ℤ)) → f.terms ≡ ts → ⊥
    by-terms [] t =
        let p = and_parts (has_no_term f.terms) (int_lt (pos 0) (degree f)) e in
        let d : pos 0 <ℤ degree f = let i = p.1 in grind (arith, ints) in
        let k = degree_below a f h in
        let w : weight a f.terms ≡ 0 = ap (weight a) t in
        omega (arith, ints)
    by-terms (x ∷ ts) t =
        let p = and_parts (has_no_term f.terms) (int_lt (pos 0) (degree f)) e in
        let n : has_no_term f.terms ≡ false = ap has_no_term t in
        cc
