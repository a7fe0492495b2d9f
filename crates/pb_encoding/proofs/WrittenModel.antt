-- The encoding is within the limits of the format that it is written in.

use Rattle.std.proofs.Common.{◌≡◌, ℕ, zero, suc, ◌*◌, ◌≤◌, ◌<◌, ◌^◌, Bool, true, false, cond, ◌==◌, nat_lt, List, [], ◌∷◌, ◌++◌, length, slice_get, Option, Some, None, ℤ, pos, negsuc, ◌+ℤ◌, unsigned_abs, refl, length-append, arith}
use Rattle.std.proofs.Math.Nat.{mul-le-mul, suc-mul}
use Rattle.std.proofs.lemmas.Bool.{and_parts, ltb-true}
use Rattle.graph_theory.specs.Graph.{size as size_of}
use Rattle.graph_theory.specs.Embedding.{Problem}
use Rattle.graph_theory.specs.Blocks.{in_block, has_near}
use Rattle.graph_theory.specs.declared.embedding.Maps.{Maps}
use Rattle.graph_theory.specs.declared.embedding.Maps.TheVariants.{Injective, Local, Any}
use Rattle.proof_theory.specs.Forms.{Form, Narrow, Rises, keep, put, sorted, form_of, size}
use Rattle.log_theory.specs.OpbText.{AreVariables, AreConstraints, IsOpbModel}
use Rattle.proof_theory.proofs.Sorting.{Rises-sorted}
use Rattle.pb_terms.proofs.Ruled.{size-sorted}
use Rattle.encoding_theory.specs.Variables.{variable, variables, collect, when}
use Rattle.encoding_theory.proofs.Indicators.{length-collect}
use Rattle.encoding_theory.specs.Pairs.{is_compatible, is_edge_pair, is_non_edge_pair}
use Rattle.encoding_theory.specs.Encoding.{every, terms_where, at_least, at_most, vertex_forms, vertex_group, at_most_in, block_at, block_forms, near_forms, target_group_in, target_group, is_refused, refusal, refused_at, refused_of, refused_group, leads_form, pair_form, pair_at, pair_forms, pairs_at, pairs_of, pair_group, edge_group, non_edge_group, less_from, less_to, less_from_at, less_to_at, less_forms, is_inside, less_of, less_at, less_group, encoding}
use Rattle.pb_encoding.specs.Model.{model_of}
use Rattle.pb_encoding.proofs.TermLists.{size-terms}
use Rattle.pb_encoding.proofs.LineNumbers.{number_in}
use Rattle.pb_encoding.proofs.Counts.{starts}
use Rattle.pb_encoding.proofs.Bounds.{few}

-- ---- variables of terms

variables-keep : (n v : ℕ) (c : ℤ) (ts : List (ℕ × ℤ)) → 1 ≤ v → v ≤ n → AreVariables n ts → AreVariables n (keep v c ts)
variables-keep n v (pos zero) ts low high h = h
variables-keep n v (pos (suc m)) ts low high h = (low, high, h)
variables-keep n v (negsuc m) ts low high h = (low, high, h)

variables-put : (n v : ℕ) (c : ℤ) (ts : List (ℕ × ℤ)) → 1 ≤ v → v ≤ n → AreVariables n ts → AreVariables n (put v c ts)
unfolding put
variables-put n v c [] low high h = variables-keep n v c [] low high tt
variables-put n v c (t ∷ ts) low high h = by_less (variables-put n v c ts low high h.2) (nat_lt v t.0)
  where
    by_same : AreVariables n (put v c ts) → (b : Bool) → AreVariables n (cond b (keep v (c +ℤ t.1) ts) (t ∷ put v c ts))
    by_same ih true = variables-keep n v (c +ℤ t.1) ts low high h.2
    by_same ih false = (h.0, h.1, ih)

    by_less : AreVariables n (put v c ts) → (b : Bool) → AreVariables n (cond b (keep v c (t ∷ ts)) (cond (v == t.0) (keep v (c +ℤ t.1) ts) (t ∷ put v c ts)))
    by_less ih true = variables-keep n v c (t ∷ ts) low high h
    by_less ih false = by_same ih (v == t.0)

variables-sorted : (n : ℕ) (ts : List (ℕ × ℤ)) → AreVariables n ts → AreVariables n (sorted ts)
unfolding sorted
variables-sorted n [] h = tt
variables-sorted n (t ∷ ts) h = variables-put n t.0 t.1 (sorted ts) h.0 h.1 (variables-sorted n ts h.2)

variables-append : (n : ℕ) (ts us : List (ℕ × ℤ)) → AreVariables n ts → AreVariables n us → AreVariables n (ts ++ us)
variables-append n [] us h k = k
variables-append n (t ∷ ts) us h k = (h.0, h.1, variables-append n ts us h.2 k)

variables-terms : (n : ℕ) (c : ℤ) (test : ℕ → Bool) (number : ℕ → ℕ) (m : ℕ) → ((i : ℕ) → i < m → (1 ≤ number i) × (number i ≤ n)) → AreVariables n (terms_where c test number m)
variables-terms n c test number zero each = tt
variables-terms n c test number (suc m) each =
    variables-append n (terms_where c test number m) (when (test m) ((number m, c) ∷ [])) (variables-terms n c test number m (λ i low. each i (omega arith))) (by-cases (test m))
  where
    by-cases : (b : Bool) → AreVariables n (when b ((number m, c) ∷ []))
    by-cases true = let r = each m (omega arith) in (r.0, r.1, tt)
    by-cases false = tt

-- ---- constraints

-- one form: sorted, narrow, over the variables
pub record IsConstraint (n : ℕ) (f : Form) : Type 0 where
  pub rises : Rises 0 f.terms
  pub narrow : Narrow f
  pub variables : AreVariables n f.terms

constraint-of : (n : ℕ) (ts : List (ℕ × ℤ)) (b : ℤ) → AreVariables n ts → size ts ≤ 2 ^ 14 → unsigned_abs b ≤ 1 → IsConstraint n (form_of ts b)
constraint-of n ts b h few low =
    let s = size-sorted ts in
    record {
      rises = Rises-sorted ts;
      narrow = record { bound_fits = omega arith; sum_fits = omega arith };
      variables = variables-sorted n ts h;
    }

constraints-one : (n : ℕ) (f : Form) → IsConstraint n f → AreConstraints n (f ∷ [])
constraints-one n f h = (h.rises, h.narrow, h.variables, tt)

constraints-append : (n : ℕ) (fs gs : List Form) → AreConstraints n fs → AreConstraints n gs → AreConstraints n (fs ++ gs)
constraints-append n [] gs h k = k
constraints-append n (f ∷ fs) gs h k = (h.0, h.1, h.2, constraints-append n fs gs h.3 k)

constraints-collect : (n : ℕ) (part : ℕ → List Form) (m : ℕ) → ((i : ℕ) → i < m → AreConstraints n (part i)) → AreConstraints n (collect part m)
constraints-collect n part zero each = tt
constraints-collect n part (suc m) each =
    constraints-append n (collect part m) (part m) (constraints-collect n part m (λ i low. each i (omega arith))) (each m (omega arith))

constraints-when : (n : ℕ) (b : Bool) (fs : List Form) → AreConstraints n fs → AreConstraints n (when b fs)
constraints-when n true fs h = h
constraints-when n false fs h = tt

-- ---- the encoding's

variable_in : (q : Problem) (p t : ℕ) → p < size_of q.pattern → t < size_of q.target → (1 ≤ variable q p t) × (variable q p t ≤ variables q)
variable_in q p t p_in t_in = let n = number_in (size_of q.pattern) (size_of q.target) p t p_in t_in in (omega arith, omega arith)

vertex_constraint : (q : Problem) (p : ℕ) (c b : ℤ) → size_of q.target ≤ 8192 → p < size_of q.pattern → unsigned_abs c ≤ 1 → unsigned_abs b ≤ 1
    → IsConstraint (variables q) (form_of (terms_where c every (variable q p) (size_of q.target)) b)
vertex_constraint q p c b ts p_in small low =
    let s = size-terms c every (variable q p) (size_of q.target) small in
    constraint-of (variables q) (terms_where c every (variable q p) (size_of q.target)) b
    (variables-terms (variables q) c every (variable q p) (size_of q.target) (λ t t_in. variable_in q p t p_in t_in)) (omega arith) low

block_constraint : (q : Problem) (b : Option ℕ) (t : ℕ) → size_of q.pattern ≤ 1024 → t < size_of q.target → IsConstraint (variables q) (at_most_in q b t)
block_constraint q b t ps t_in =
    let s = size-terms (negsuc 0) (in_block q b) (λ p. variable q p t) (size_of q.pattern) (omega arith) in
    constraint-of (variables q) (terms_where (negsuc 0) (in_block q b) (λ p. variable q p t) (size_of q.pattern)) (negsuc 0)
    (variables-terms (variables q) (negsuc 0) (in_block q b) (λ p. variable q p t) (size_of q.pattern) (λ p p_in. variable_in q p t p_in t_in)) (omega arith) (omega arith)

block_constraints : (q : Problem) (b : Option ℕ) → size_of q.pattern ≤ 1024 → AreConstraints (variables q) (block_forms q b)
block_constraints q b ps = constraints-collect (variables q) (block_at q b) (size_of q.target) (λ t t_in. constraints-one (variables q) (at_most_in q b t) (block_constraint q b t ps t_in))

target_constraints : (k : Maps) (q : Problem) → size_of q.pattern ≤ 1024 → AreConstraints (variables q) (target_group_in k q)
target_constraints Injective q ps = block_constraints q None ps
target_constraints Local q ps =
    constraints-collect (variables q) (near_forms q) (size_of q.pattern) (λ c c_in. constraints-when (variables q) (has_near q.pattern c) (block_forms q (Some c)) (block_constraints q (Some c) ps))
target_constraints Any q ps = tt

refusal_constraint : (q : Problem) (p t : ℕ) → p < size_of q.pattern → t < size_of q.target → IsConstraint (variables q) (refusal q p t)
refusal_constraint q p t p_in t_in =
    let r = variable_in q p t p_in t_in in
    constraint-of (variables q) ((variable q p t, negsuc 0) ∷ []) (pos 0) (r.0, r.1, tt) (omega arith) (omega arith)

leads_constraint : (q : Problem) (p r t : ℕ) (test : ℕ → Bool) → size_of q.target ≤ 8192 → p < size_of q.pattern → r < size_of q.pattern → t < size_of q.target → IsConstraint (variables q) (leads_form q p t r test)
leads_constraint q p r t test ts p_in r_in t_in =
    let own = variable_in q p t p_in t_in in
    let s = size-terms (pos 1) test (variable q r) (size_of q.target) (omega arith) in
    constraint-of (variables q) ((variable q p t, negsuc 0) ∷ terms_where (pos 1) test (variable q r) (size_of q.target)) (pos 0)
    (own.0, own.1, variables-terms (variables q) (pos 1) test (variable q r) (size_of q.target) (λ u u_in. variable_in q r u r_in u_in))
    (omega arith) (omega arith)

pairs_constraints : (test : ℕ → ℕ → Bool) (q : Problem) → size_of q.target ≤ 8192 → AreConstraints (variables q) (pair_group test q)
pairs_constraints test q ts =
    constraints-collect (variables q) (pairs_of test q) (size_of q.pattern) (λ p p_in.
    constraints-collect (variables q) (pairs_at test q p) (size_of q.pattern) (λ r r_in.
    constraints-when (variables q) (test p r) (pair_forms q p r)
    (constraints-collect (variables q) (pair_at q p r) (size_of q.target) (λ t t_in.
    constraints-one (variables q) (pair_form q p r t) (leads_constraint q p r t (is_compatible q p t r) ts p_in r_in t_in)))))

less_constraints : (q : Problem) (x : ℕ × ℕ) → size_of q.target ≤ 8192 → x.0 < size_of q.pattern → x.1 < size_of q.pattern → AreConstraints (variables q) (less_forms q x)
less_constraints q x ts first second =
    constraints-append (variables q) (collect (less_from_at q x) (size_of q.target)) (collect (less_to_at q x) (size_of q.target))
    (constraints-collect (variables q) (less_from_at q x) (size_of q.target) (λ t t_in. constraints-one (variables q) (less_from q x t) (leads_constraint q x.0 x.1 t (λ u. nat_lt t u) ts first second t_in)))
    (constraints-collect (variables q) (less_to_at q x) (size_of q.target) (λ t t_in. constraints-one (variables q) (less_to q x t) (leads_constraint q x.1 x.0 t (λ u. nat_lt u t) ts second first t_in)))

less_of_constraints : (q : Problem) → size_of q.target ≤ 8192 → (o : Option (ℕ × ℕ)) → AreConstraints (variables q) (less_of q o)
less_of_constraints q ts None = tt
less_of_constraints q ts (Some x) = by (is_inside q x) refl
  where
    by : (b : Bool) → is_inside q x ≡ b → AreConstraints (variables q) (when b (less_forms q x))
    by true inside =
        let h = and_parts (nat_lt x.0 (size_of q.pattern)) (nat_lt x.1 (size_of q.pattern)) inside in
        less_constraints q x ts (ltb-true x.0 (size_of q.pattern) h.0) (ltb-true x.1 (size_of q.pattern) h.1)
    by false out = tt

all_constraints : (q : Problem) → size_of q.pattern ≤ 1024 → size_of q.target ≤ 8192 → AreConstraints (variables q) (encoding q)
all_constraints q ps ts =
    constraints-append (variables q) (vertex_group q) _
    (constraints-collect (variables q) (vertex_forms q) (size_of q.pattern) (λ p p_in.
    constraints-append (variables q) (at_least q p ∷ []) (at_most q p ∷ [])
    (constraints-one (variables q) (at_least q p) (vertex_constraint q p (pos 1) (pos 1) ts p_in (omega arith) (omega arith)))
    (constraints-one (variables q) (at_most q p) (vertex_constraint q p (negsuc 0) (negsuc 0) ts p_in (omega arith) (omega arith)))))
    (constraints-append (variables q) (target_group q) _
    (target_constraints q.maps q ps)
    (constraints-append (variables q) (refused_group q) _
    (constraints-collect (variables q) (refused_of q) (size_of q.pattern) (λ p p_in.
    constraints-collect (variables q) (refused_at q p) (size_of q.target) (λ t t_in.
    constraints-when (variables q) (is_refused q p t) (refusal q p t ∷ []) (constraints-one (variables q) (refusal q p t) (refusal_constraint q p t p_in t_in)))))
    (constraints-append (variables q) (edge_group q) _ (pairs_constraints (is_edge_pair q) q ts)
    (constraints-append (variables q) (non_edge_group q) (less_group q) (pairs_constraints (is_non_edge_pair q) q ts)
    (constraints-collect (variables q) (less_at q) (length q.less) (λ k k_in. less_of_constraints q ts (slice_get q.less k)))))))

-- ---- how many there are

less_of_few : (q : Problem) (o : Option (ℕ × ℕ)) → length (less_of q o) ≤ 2 * size_of q.target
less_of_few q None = omega arith
less_of_few q (Some x) = by (is_inside q x)
  where
    by : (b : Bool) → length (when b (less_forms q x)) ≤ 2 * size_of q.target
    by true =
        let a = length-append (collect (less_from_at q x) (size_of q.target)) (collect (less_to_at q x) (size_of q.target)) in
        let f = length-collect (less_from_at q x) (size_of q.target) 1 (λ t. refl) in
        let g = length-collect (less_to_at q x) (size_of q.target) 1 (λ t. refl) in
        omega (arith, a, f, g)
    by false = omega arith

less_few : (q : Problem) (n : ℕ) → length (collect (less_at q) n) ≤ n * (2 * size_of q.target)
less_few q zero = let e : 0 * (2 * size_of q.target) ≡ 0 = omega arith in omega (arith, e)
less_few q (suc n) =
    let h = less_few q n in
    let a = length-append (collect (less_at q) n) (less_at q n) in
    let o = less_of_few q (slice_get q.less n) in
    let m = suc-mul n (2 * size_of q.target) in
    omega (arith, h, a, o, m)

pub models : (q : Problem) → size_of q.pattern ≤ 1024 → size_of q.target ≤ 8192 → length q.less ≤ 64 → IsOpbModel (model_of q)
models q ps ts pairs_few =
    let s = starts q in
    let b = few q ps ts in
    let pairs : variables q ≤ 8388608 = b.pairs in
    let wide : 2 * size_of q.target ≤ 16384 = omega (arith, ts) in
    let m : length q.less * (2 * size_of q.target) ≤ 64 * 16384 = mul-le-mul pairs_few wide in
    let l = less_few q (length q.less) in
    record {
      variables_fit = omega (arith, pairs);
      constraints_fit = omega (arith, ps, s.all, s.less, b.block_forms, b.refused, b.edge_forms, b.non_edge_forms, m, l);
      sound = all_constraints q ps ts;
    }
