-- What the forms of the encoding, and sums and multiples of forms, are worth under an assignment.
use Rattle.std.proofs.Common.{◌≡◌, ℕ, zero, suc, ◌+◌, ◌*◌, ◌<◌, Bool, true, false, ◌&&◌, cond, List, [], ◌∷◌, ◌++◌, map, Option, None, ℤ, pos, negsuc, ◌+ℤ◌, ◌*ℤ◌, refl, sym, ap, ◌∙◌, arith, inl, inr, ◌⊎◌}
use Rattle.std.proofs.lemmas.Int.{ints}
use Rattle.std.proofs.lemmas.Bool.{cases_order}
use native.Mathlib.Nat.{suc-mul, mul-le-mul_right}
use Rattle.std.proofs.Math.IntN.{pos-*ℤ-pos}
use Rattle.graph_theory.specs.Graph.{size}
use Rattle.graph_theory.specs.Embedding.{Problem}
use Rattle.graph_theory.specs.Blocks.{in_block}
use Rattle.graph_theory.specs.Neighbours.{count}
use Rattle.proof_theory.specs.Forms.{Form, Rises, value}
use Rattle.proof_theory.specs.Rules.{sum_of, times_of}
use Rattle.proof_theory.specs.Slack.{axiom_form, literal_term}
use Rattle.proof_theory.proofs.Sorting.{value-sorted, value-append, Rises-sorted}
use Rattle.proof_theory.proofs.Rules.{times_sum}
use Rattle.encoding_theory.specs.Variables.{variable}
use Rattle.encoding_theory.specs.Pairs.{is_compatible}
use Rattle.encoding_theory.specs.Encoding.{every, terms_where, at_most, at_most_in, at_most_target, pair_form}
use Rattle.encoding_theory.proofs.FormMeanings.{value_up, value_down}
use Rattle.pair_line_theory.specs.Operations.{sum_where}
use Rattle.pair_line_theory.specs.Rows.{there}
use Rattle.pair_line_theory.proofs.Totals.{one_if, number_if, total_where}

-- The form's value is what is given to it less what is taken from it.
pub record IsWorth (a : ℕ → Bool) (f : Form) (taken given : ℕ) : Type 0 where
  pub worth : value a f.terms +ℤ pos taken ≡ pos given

-- ---- sums and multiples

pub value_sum : (a : ℕ → Bool) (f g : Form) → value a (sum_of f g).terms ≡ value a f.terms +ℤ value a g.terms
value_sum a f g = value-sorted a (f.terms ++ g.terms) ∙ value-append a f.terms g.terms

pub worth_sum : (a : ℕ → Bool) (f g : Form) (s t u v : ℕ) → IsWorth a f s t → IsWorth a g u v → IsWorth a (sum_of f g) (s + u) (t + v)
worth_sum a f g s t u v wf wg = record { worth = let e = value_sum a f g in let h = wf.worth in let k = wg.worth in omega (arith, ints) }

value_times : (a : ℕ → Bool) (k : ℕ) (ts : List (ℕ × ℤ)) → value a (map (λ (t : ℕ × ℤ). (t.0, t.1 *ℤ pos k)) ts) ≡ value a ts *ℤ pos k
value_times a k [] = sym (pos-*ℤ-pos 0 k ∙ none k)
  where
    none : (m : ℕ) → pos (0 * m) ≡ pos 0
    none m = ap pos (let z : 0 * m ≡ 0 = omega arith in z)
value_times a k (t ∷ ts) = ap (λ (z : ℤ). cond (a t.0) (t.1 *ℤ pos k) (pos 0) +ℤ z) (value_times a k ts) ∙ by (a t.0)
  where
    none : pos 0 *ℤ pos k ≡ pos 0
    none = pos-*ℤ-pos 0 k ∙ ap pos (let z : 0 * k ≡ 0 = omega arith in z)

    by : (b : Bool) → cond b (t.1 *ℤ pos k) (pos 0) +ℤ (value a ts *ℤ pos k) ≡ (cond b t.1 (pos 0) +ℤ value a ts) *ℤ pos k
    by true = sym (times_sum t.1 (value a ts) k)
    by false = ap (λ (z : ℤ). z +ℤ (value a ts *ℤ pos k)) (sym none) ∙ sym (times_sum (pos 0) (value a ts) k)

-- What is so many times worth, so many times.
pub scaled : (z : ℤ) (m g k : ℕ) → z +ℤ pos m ≡ pos g → (z *ℤ pos k) +ℤ pos (m * k) ≡ pos (g * k)
scaled z m g k e =
    ap (λ (x : ℤ). (z *ℤ pos k) +ℤ x) (sym (pos-*ℤ-pos m k)) ∙ sym (times_sum z (pos m) k) ∙ ap (λ (x : ℤ). x *ℤ pos k) e ∙ pos-*ℤ-pos g k

pub worth_times : (a : ℕ → Bool) (f : Form) (k s t : ℕ) → IsWorth a f s t → IsWorth a (times_of k f) (s * k) (t * k)
worth_times a f k s t w = record { worth = ap (λ (z : ℤ). z +ℤ pos (s * k)) (value_times a k f.terms) ∙ scaled (value a f.terms) s t k w.worth }

-- A sum over numbers that pass is worth the totals.
pub worth_where : (a : ℕ → Bool) (test : ℕ → Bool) (f : ℕ → Form) (base : Form) (s t : ℕ) (taken given : ℕ → ℕ) (n : ℕ) → IsWorth a base s t
    → ((i : ℕ) → i < n → test i ≡ true → IsWorth a (f i) (taken i) (given i)) → IsWorth a (sum_where test f base n) (s + total_where test taken n) (t + total_where test given n)
worth_where a test f base s t taken given zero wb each = record { worth = let h = wb.worth in omega (arith, ints) }
worth_where a test f base s t taken given (suc n) wb each = by (test n) refl (worth_where a test f base s t taken given n wb (λ i low e. each i (omega (arith, low)) e))
  where
    by : (b : Bool) → test n ≡ b → IsWorth a (sum_where test f base n) (s + total_where test taken n) (t + total_where test given n)
        → IsWorth a (cond b (sum_of (sum_where test f base n) (f n)) (sum_where test f base n)) (s + (number_if b (taken n) + total_where test taken n)) (t + (number_if b (given n) + total_where test given n))
    by true e before =
        record { worth = let w = (worth_sum a (sum_where test f base n) (f n) (s + total_where test taken n) (t + total_where test given n) (taken n) (given n) before (each n (omega arith) e)).worth in omega (arith, ints) }
    by false e before = record { worth = let w = before.worth in omega (arith, ints) }

-- Where no form but the first has a bound, theirs is the sum's.
pub bound_where : (test : ℕ → Bool) (f : ℕ → Form) (base : Form) (n : ℕ) → ((i : ℕ) → (f i).bound ≡ pos 0) → (sum_where test f base n).bound ≡ base.bound
bound_where test f base zero none = refl
bound_where test f base (suc n) none = by (test n) (bound_where test f base n none)
  where
    by : (b : Bool) → (sum_where test f base n).bound ≡ base.bound → (cond b (sum_of (sum_where test f base n) (f n)) (sum_where test f base n)).bound ≡ base.bound
    by true before = let z = none n in omega (arith, ints)
    by false before = before

pub rises_where : (test : ℕ → Bool) (f : ℕ → Form) (base : Form) (n : ℕ) → Rises 0 base.terms → Rises 0 (sum_where test f base n).terms
rises_where test f base zero rises = rises
rises_where test f base (suc n) rises = by (test n) (rises_where test f base n rises)
  where
    by : (b : Bool) → Rises 0 (sum_where test f base n).terms → Rises 0 (cond b (sum_of (sum_where test f base n) (f n)) (sum_where test f base n)).terms
    by true before = Rises-sorted ((sum_where test f base n).terms ++ (f n).terms)
    by false before = before

-- ---- forms of the encoding

-- How many values r has.
abbrev pub values_of : Problem → (ℕ → Bool) → ℕ → ℕ
values_of q a r = count (λ u. every u && a (variable q r u)) (size q.target)

-- How many of them pass a test.
abbrev pub values_where : Problem → (ℕ → Bool) → (ℕ → Bool) → ℕ → ℕ
values_where q a test r = count (λ u. test u && a (variable q r u)) (size q.target)

-- How many vertices are at w, and how many of these pass a test.
abbrev pub held_at : Problem → (ℕ → Bool) → ℕ → ℕ
held_at q a w = count (λ v. every v && a (variable q v w)) (size q.pattern)

abbrev pub held_where : Problem → (ℕ → Bool) → (ℕ → Bool) → ℕ → ℕ
held_where q a test w = count (λ v. test v && a (variable q v w)) (size q.pattern)

pub worth_at_most : (q : Problem) (a : ℕ → Bool) (r : ℕ) → IsWorth a (at_most q r) (values_of q a r) 0
worth_at_most q a r = record {
  worth =
      let e = value-sorted a (terms_where (negsuc 0) every (variable q r) (size q.target)) in
      let v = value_down a every (variable q r) (size q.target) in
      omega (arith, ints);
}

pub worth_block : (q : Problem) (b : Option ℕ) (a : ℕ → Bool) (w : ℕ) → IsWorth a (at_most_in q b w) (held_where q a (in_block q b) w) 0
worth_block q b a w = record {
  worth =
      let e = value-sorted a (terms_where (negsuc 0) (in_block q b) (λ p. variable q p w) (size q.pattern)) in
      let v = value_down a (in_block q b) (λ p. variable q p w) (size q.pattern) in
      omega (arith, ints);
}

pub worth_target : (q : Problem) (a : ℕ → Bool) (w : ℕ) → IsWorth a (at_most_target q w) (held_at q a w) 0
worth_target q a w = worth_block q None a w

pub one_less : (b : Bool) → cond b (negsuc 0) (pos 0) +ℤ pos (one_if b) ≡ pos 0
one_less true = omega (arith, ints)
one_less false = omega (arith, ints)

one_more : (b : Bool) → cond b (pos 1) (pos 0) ≡ pos (one_if b)
one_more true = refl
one_more false = refl

pub worth_pair : (q : Problem) (a : ℕ → Bool) (p r t : ℕ) → IsWorth a (pair_form q p r t) (one_if (a (variable q p t))) (values_where q a (is_compatible q p t r) r)
worth_pair q a p r t = record {
  worth =
      let e = value-sorted a ((variable q p t, negsuc 0) ∷ terms_where (pos 1) (is_compatible q p t r) (variable q r) (size q.target)) in
      let v = value_up a (is_compatible q p t r) (variable q r) (size q.target) in
      let o = one_less (a (variable q p t)) in
      omega (arith, ints);
}

pub worth_there : (q : Problem) (a : ℕ → Bool) (w v : ℕ) → IsWorth a (axiom_form (there q w v)) 0 (one_if (a (variable q v w)))
worth_there q a w v = record {
  worth =
      let e = value-sorted a (literal_term (there q w v) ∷ []) in
      let o = one_more (a (variable q v w)) in
      omega (arith, ints);
}

-- The vertices of one variable are the same.
pub variable_apart : (q : Problem) (m t r u : ℕ) → t < size q.target → u < size q.target → variable q m t ≡ variable q r u → m ≡ r
variable_apart q m t r u t_in u_in same = by (cases_order m r)
  where
    lower : (a b c d : ℕ) → c < size q.target → variable q a c ≡ variable q b d → a < b → ⊥
    lower a b c d c_in e order =
        let row = mul-le-mul_right {m = suc a} {n = b} (size q.target) (omega (arith, order)) in
        let next = suc-mul a (size q.target) in
        omega (arith, e, row, next, c_in)

    by : (m ≡ r) ⊎ ((m < r) ⊎ (r < m)) → m ≡ r
    by (inl e) = e
    by (inr (inl l)) = absurd (lower m r t u t_in same l)
    by (inr (inr l)) = absurd (lower r m u t u_in (sym same) l)
