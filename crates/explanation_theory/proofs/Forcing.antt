-- What the constraints of an encoding force: at least one value, at most one, and not all of some pairs.
use Rattle.std.proofs.Common.{◌≡◌, ℕ, zero, suc, ◌+◌, ◌<◌, ◌≤◌, ◌==◌, Bool, true, false, not, ◌&&◌, ◌||◌, cond, List, [], ◌∷◌, ◌++◌, map, ℤ, pos, negsuc, ◌+ℤ◌, ◌≤ℤ◌, refl, sym, ap, subst, ◌∙◌, arith, Option, Some, None, inl, inr, ◌⊎◌}
use Rattle.std.proofs.lemmas.Int.{ints}
use Rattle.std.proofs.lemmas.Bool.{cases_eq, or_cases, and_parts, eqb-true, eq-eqb}
use Rattle.graph_theory.specs.Graph.{size}
use Rattle.graph_theory.specs.Embedding.{Problem}
use Rattle.graph_theory.specs.Neighbours.{count}
use Rattle.proof_theory.specs.declared.literal.Literal.{Literal}
use Rattle.proof_theory.specs.Forms.{Form, Holds, value}
use Rattle.proof_theory.specs.Slack.{Setting, conflict, after, refutes, literal_term, negated_count, clause_form, is_true_at, clause_holds}
use Rattle.proof_theory.proofs.Sorting.{value-sorted, Rises-sorted}
use Rattle.proof_theory.proofs.Refutation.{true_count, value-clause}
use Rattle.log_theory.specs.Lookups.{is_among}
use Rattle.encoding_theory.specs.Variables.{variable}
use Rattle.encoding_theory.specs.Encoding.{every, terms_where, at_least, at_most, leads_form}
use Rattle.encoding_theory.proofs.FormMeanings.{some_true, one_true, follows as some_follows}
use Rattle.encoding_theory.proofs.Counting.{Passes, some_passes, count_one}
use Rattle.forcing_theory.specs.Units.{Follows, Implies}
use Rattle.forcing_theory.specs.Chains.{Domains, Within, AreOut, run}
use Rattle.forcing_theory.proofs.Uniting.{unit}
use Rattle.forcing_theory.proofs.Chaining.{after_keeps, run_keeps}
use Rattle.explanation_theory.specs.Reasons.{not_there, pairs_clause, at_leasts, vertices_of, HasAtMost, AreDecided, IsPair, IsNoPair, AreTrue}
use Rattle.explanation_theory.proofs.Giving.{Leads, Gives, no_solution}

pub not_both : (b : Bool) → b ≡ true → b ≡ false → ⊥
not_both true e f = absurd cc
not_both false e f = absurd cc

-- ---- at least one value, and at most one

-- Where all values but one are false, that one is true.
pub at_least_forces : (q : Problem) (s : Setting) (p t : ℕ) → ((u : ℕ) → u < size q.target → (u ≡ t → ⊥) → s (variable q p u) ≡ Some false)
    → (conflict s (at_least q p) ≡ true) ⊎ (after s (at_least q p) (variable q p t) ≡ Some true)
at_least_forces q s p t others = unit s (at_least q p) (variable q p t) true (record {
  rises = Rises-sorted (terms_where (pos 1) every (variable q p) (size q.target));
  there = λ a follows holds.
      let w = some_passes (λ i. every i && a (variable q p i)) (size q.target) (some_true a every (variable q p) (size q.target) holds) in
      by a follows w.number w.below w.passes (cases_eq w.number t);
})
  where
    by : (a : ℕ → Bool) → Follows s a → (u : ℕ) → u < size q.target → a (variable q p u) ≡ true → (u ≡ t) ⊎ (u ≡ t → ⊥) → a (variable q p t) ≡ true
    by a follows u u_in is (inl same) = ap (λ (w : ℕ). a (variable q p w)) (sym same) ∙ is
    by a follows u u_in is (inr other) = absurd (not_both (a (variable q p u)) is (follows.same (variable q p u) false (others u u_in other)))

-- Where all values are false, there is a conflict.
pub at_least_fails : (q : Problem) (s : Setting) (p : ℕ) → ((u : ℕ) → u < size q.target → s (variable q p u) ≡ Some false) → conflict s (at_least q p) ≡ true
at_least_fails q s p all = no_solution s (at_least q p) (Rises-sorted (terms_where (pos 1) every (variable q p) (size q.target)))
    (λ a follows holds.
    let w = some_passes (λ i. every i && a (variable q p i)) (size q.target) (some_true a every (variable q p) (size q.target) holds) in
    not_both (a (variable q p w.number)) w.passes (follows.same (variable q p w.number) false (all w.number w.below)))

-- Where one value is true, every other is false.
pub at_most_forces : (q : Problem) (s : Setting) (p t u : ℕ) → t < size q.target → u < size q.target → (u ≡ t → ⊥) → s (variable q p t) ≡ Some true
    → (conflict s (at_most q p) ≡ true) ⊎ (after s (at_most q p) (variable q p u) ≡ Some false)
at_most_forces q s p t u t_in u_in other is = unit s (at_most q p) (variable q p u) false (record {
  rises = Rises-sorted (terms_where (negsuc 0) every (variable q p) (size q.target));
  there = λ a follows holds. by a follows holds (a (variable q p u)) refl;
})
  where
    by : (a : ℕ → Bool) → Follows s a → Holds (at_most q p) a → (b : Bool) → a (variable q p u) ≡ b → a (variable q p u) ≡ false
    by a follows holds true h =
        absurd (other (count_one (λ i. every i && a (variable q p i)) (size q.target) u t (one_true a every (variable q p) (size q.target) holds) u_in t_in h (follows.same (variable q p t) true is)))
    by a follows holds false h = h

-- ---- edges

-- Where each place of p that passes the test is false, the form that r at u leads p to one of them takes u from r.
pub leads_takes : (q : Problem) (s : Setting) (p r u : ℕ) (test : ℕ → Bool) → ((w : ℕ) → w < size q.target → test w ≡ true → s (variable q p w) ≡ Some false)
    → (conflict s (leads_form q r u p test) ≡ true) ⊎ (after s (leads_form q r u p test) (variable q r u) ≡ Some false)
leads_takes q s p r u test none = unit s (leads_form q r u p test) (variable q r u) false (record {
  rises = Rises-sorted ((variable q r u, negsuc 0) ∷ terms_where (pos 1) test (variable q p) (size q.target));
  there = λ a follows holds. by a follows holds (a (variable q r u)) refl;
})
  where
    by : (a : ℕ → Bool) → Follows s a → Holds (leads_form q r u p test) a → (b : Bool) → a (variable q r u) ≡ b → a (variable q r u) ≡ false
    by a follows holds true is =
        let w = some_passes (λ i. test i && a (variable q p i)) (size q.target)
        (some_follows a (variable q r u) test (variable q p) (size q.target) holds is) in
        let parts = and_parts (test w.number) (a (variable q p w.number)) w.passes in
        absurd (not_both (a (variable q p w.number)) parts.1 (follows.same (variable q p w.number) false (none w.number w.below parts.0)))
    by a follows holds false is = is

-- ---- domains of one value

-- All other values of a domain that has at most one are false.
pub others_false : (q : Problem) (s : Setting) (d : Domains) (p t : ℕ) → HasAtMost d p t → AreOut (variable q) (size q.target) s d p → (u : ℕ) → u < size q.target → (u ≡ t → ⊥) → s (variable q p u) ≡ Some false
others_false q s d p t most out u u_in other = out u u_in (by (d p u) refl)
  where
    by : (b : Bool) → d p u ≡ b → d p u ≡ false
    by true is = absurd (other (most u is))
    by false is = is

-- What is out stays out as more is set.
pub out_within : (x : ℕ → ℕ → ℕ) (n : ℕ) (s t : Setting) (d : Domains) (r : ℕ) → Within s t → AreOut x n s d r → AreOut x n t d r
out_within x n s t d r above out u u_in gone = above (x r u) false (out u u_in gone)

-- ---- clauses

-- A clause that holds has a literal that is true.
pub some_literal : (ls : List Literal) (a : ℕ → Bool) → Holds (clause_form ls) a → clause_holds a ls ≡ true
some_literal ls a h =
    let s = value-sorted a (map literal_term ls) in
    let c = value-clause a ls in
    let k = h.reached in
    counted ls (omega (arith, ints))
  where
    counted : (ks : List Literal) → 0 < true_count a ks → clause_holds a ks ≡ true
    counted [] some = absurd (omega arith)
    counted (l ∷ ks) some = by (is_true_at a l) (counted ks) some
      where
        by : (b : Bool) → (0 < true_count a ks → clause_holds a ks ≡ true) → 0 < cond b 1 0 + true_count a ks → (b || clause_holds a ks) ≡ true
        by true later some = refl
        by false later some = later (omega (arith, some))

-- Each pair's variable is true in the setting, or the pair passes.
abbrev pub AreSet : Problem → Setting → (ℕ × ℕ → Type 0) → List (ℕ × ℕ) → Type 0
AreSet q s but [] = Unit {0}
AreSet q s but (x ∷ xs) = (but x ⊎ (s (variable q x.0 x.1) ≡ Some true)) × AreSet q s but xs

pub set_within : (q : Problem) (s t : Setting) (but : ℕ × ℕ → Type 0) (pairs : List (ℕ × ℕ)) → Within s t → AreSet q s but pairs → AreSet q t but pairs
set_within q s t but [] above h = tt
set_within q s t but (x ∷ xs) above h = (elim h.0 [ inl b ↦ inl b | inr is ↦ inr (above (variable q x.0 x.1) true is) ], set_within q s t but xs above h.1)

-- A true literal of pairs of which each is set or is one pair is that pair's.
literal_is : (q : Problem) (s : Setting) (a : ℕ → Bool) (r u : ℕ) (pairs : List (ℕ × ℕ)) → Follows s a → AreSet q s (IsPair r u) pairs → clause_holds a (map (not_there q) pairs) ≡ true → a (variable q r u) ≡ false
literal_is q s a r u [] follows h is = absurd cc
literal_is q s a r u (x ∷ xs) follows h is = by (or_cases (not (a (variable q x.0 x.1))) (clause_holds a (map (not_there q) xs)) is) (literal_is q s a r u xs follows h.1) h.0
  where
    is_false : (b : Bool) → not b ≡ true → b ≡ false
    is_false true e = absurd cc
    is_false false e = refl

    by : (not (a (variable q x.0 x.1)) ≡ true) ⊎ (clause_holds a (map (not_there q) xs) ≡ true) → (clause_holds a (map (not_there q) xs) ≡ true → a (variable q r u) ≡ false)
        → IsPair r u x ⊎ (s (variable q x.0 x.1) ≡ Some true) → a (variable q r u) ≡ false
    by (inr rest) later here = later rest
    by (inl head) later (inl same) = ap (λ (v : ℕ). a (variable q v u)) (sym same.0) ∙ ap (λ (w : ℕ). a (variable q x.0 w)) (sym same.1) ∙ is_false (a (variable q x.0 x.1)) head
    by (inl head) later (inr set) = absurd (not_both (a (variable q x.0 x.1)) (follows.same (variable q x.0 x.1) true set) (is_false (a (variable q x.0 x.1)) head))

-- Where all pairs but one are true, that one is false.
pub clause_forces : (q : Problem) (s : Setting) (r u : ℕ) (pairs : List (ℕ × ℕ)) → AreSet q s (IsPair r u) pairs
    → (conflict s (pairs_clause q pairs) ≡ true) ⊎ (after s (pairs_clause q pairs) (variable q r u) ≡ Some false)
clause_forces q s r u pairs h = unit s (pairs_clause q pairs) (variable q r u) false (record {
  rises = Rises-sorted (map literal_term (map (not_there q) pairs));
  there = λ a follows holds. literal_is q s a r u pairs follows h (some_literal (map (not_there q) pairs) a holds);
})

no_literal : (q : Problem) (s : Setting) (a : ℕ → Bool) (pairs : List (ℕ × ℕ)) → Follows s a → AreSet q s IsNoPair pairs → clause_holds a (map (not_there q) pairs) ≡ true → ⊥
no_literal q s a [] follows h is = absurd cc
no_literal q s a (x ∷ xs) follows h is = by (or_cases (not (a (variable q x.0 x.1))) (clause_holds a (map (not_there q) xs)) is) (no_literal q s a xs follows h.1) h.0
  where
    by : (not (a (variable q x.0 x.1)) ≡ true) ⊎ (clause_holds a (map (not_there q) xs) ≡ true) → (clause_holds a (map (not_there q) xs) ≡ true → ⊥)
        → IsNoPair x ⊎ (s (variable q x.0 x.1) ≡ Some true) → ⊥
    by (inr rest) later here = later rest
    by (inl head) later (inl none) = none
    by (inl head) later (inr set) = let is_one = follows.same (variable q x.0 x.1) true set in let bad : false ≡ true = sym (ap not is_one) ∙ head in absurd cc

-- Where all pairs are true, there is a conflict.
pub clause_fails : (q : Problem) (s : Setting) (pairs : List (ℕ × ℕ)) → AreSet q s IsNoPair pairs → conflict s (pairs_clause q pairs) ≡ true
clause_fails q s pairs h = no_solution s (pairs_clause q pairs) (Rises-sorted (map literal_term (map (not_there q) pairs)))
    (λ a follows holds. no_literal q s a pairs follows h (some_literal (map (not_there q) pairs) a holds))

-- ---- decided vertices

-- The constraints that vertices go somewhere lead to a setting where each pair of a decided vertex is true.
pub decided_lead : (q : Problem) (s : Setting) (d : Domains) (but : ℕ × ℕ → Type 0) (pairs : List (ℕ × ℕ)) → AreDecided q d but pairs
    → ((r : ℕ) → is_among r (vertices_of pairs) ≡ true → AreOut (variable q) (size q.target) s d r) → Leads s (at_leasts q (vertices_of pairs)) (λ t. AreSet q t but pairs)
decided_lead q s d but [] h out = inr tt
decided_lead q s d but (x ∷ xs) h out = by (λ o. decided_lead q (after s (at_least q x.0)) d but xs h.1 o) (conflict s (at_least q x.0)) refl
  where
    out_here : AreOut (variable q) (size q.target) s d x.0
    out_here = out x.0 (ap (λ (b : Bool). b || is_among x.0 (vertices_of xs)) (eq-eqb x.0 x.0 refl))

    or_right : (b c : Bool) → c ≡ true → (b || c) ≡ true
    or_right true c e = refl
    or_right false c e = e

    out_later : (r : ℕ) → is_among r (vertices_of xs) ≡ true → AreOut (variable q) (size q.target) (after s (at_least q x.0)) d r
    out_later r among = out_within (variable q) (size q.target) s (after s (at_least q x.0)) d r (after_keeps s (at_least q x.0)) (out r (or_right (x.0 == r) (is_among r (vertices_of xs)) among))

    first : but x ⊎ ((x.1 < size q.target) × HasAtMost d x.0 x.1) → conflict s (at_least q x.0) ≡ false → but x ⊎ (after s (at_least q x.0) (variable q x.0 x.1) ≡ Some true)
    first (inl b) quiet = inl b
    first (inr decided) quiet = elim (at_least_forces q s x.0 x.1 (others_false q s d x.0 x.1 decided.1 out_here)) [ inl c ↦ absurd (not_both (conflict s (at_least q x.0)) c quiet) | inr is ↦ inr is ]

    by : (((r : ℕ) → is_among r (vertices_of xs) ≡ true → AreOut (variable q) (size q.target) (after s (at_least q x.0)) d r)
        → Leads (after s (at_least q x.0)) (at_leasts q (vertices_of xs)) (λ t. AreSet q t but xs)) → (b : Bool) → conflict s (at_least q x.0) ≡ b
        → Leads s (at_leasts q (vertices_of (x ∷ xs))) (λ t. AreSet q t but (x ∷ xs))
    by later true c = inl (ap (λ (b : Bool). b || refutes (after s (at_least q x.0)) (at_leasts q (vertices_of xs))) c)
    by later false c = rest (later out_later) (first h.0 c)
      where
        rest : Leads (after s (at_least q x.0)) (at_leasts q (vertices_of xs)) (λ t. AreSet q t but xs) → but x ⊎ (after s (at_least q x.0) (variable q x.0 x.1) ≡ Some true)
            → Leads s (at_leasts q (vertices_of (x ∷ xs))) (λ t. AreSet q t but (x ∷ xs))
        rest (inl refuted) here = inl (or_right (conflict s (at_least q x.0)) (refutes (after s (at_least q x.0)) (at_leasts q (vertices_of xs))) refuted)
        rest (inr later) here =
            inr (elim here [ inl b ↦ inl b | inr is ↦ inr (run_keeps (after s (at_least q x.0)) (at_leasts q (vertices_of xs)) (variable q x.0 x.1) true is) ], later)
