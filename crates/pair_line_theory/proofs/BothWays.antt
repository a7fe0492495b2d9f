-- Shared neighbours in one direction or in both: which line is enough, and the line that is made of one for each.
use Rattle.std.proofs.Common.{◌≡◌, ℕ, zero, suc, ◌+◌, ◌≤◌, ◌<◌, ◌==◌, nat_lt, Bool, true, false, ◌&&◌, ◌||◌, not, cond, List, [], ◌∷◌, ◌++◌, map, ℤ, pos, negsuc, ◌+ℤ◌, refl, sym, ap, subst, ◌∙◌, arith, Option, Some, None, Result, Ok, Err, inl, inr, ◌⊎◌}
use Rattle.std.proofs.lemmas.Int.{ints}
use Rattle.std.proofs.lemmas.List.{map-append}
use Rattle.std.proofs.lemmas.Bool.{cases_lt, cases_eq, eqb-true, eq-eqb, ne_eqb, ltb-true, ltb-false, and_parts, and_from, not-true, not_from_false}
use Rattle.graph_theory.specs.Graph.{size, edge}
use Rattle.graph_theory.specs.Embedding.{Problem, is_injective, Compatible}
use Rattle.graph_theory.specs.Neighbours.{count, common}
use Rattle.graph_theory.specs.Asked.{asked_shared}
use Rattle.graph_theory.specs.Reversed.{reversed, reversed_problem, AreMutual}
use Rattle.graph_theory.proofs.ReversedGraphs.{edge-reversed, differ-reversed}
use Rattle.search_theory.specs.Consistency.{AreConsistent}
use Rattle.search_theory.proofs.Pairs.{mutual_consistent}
use Rattle.proof_theory.specs.declared.literal.Literal.{Literal}
use Rattle.proof_theory.specs.Forms.{Form, Holds, value}
use Rattle.proof_theory.specs.Slack.{Setting, conflict, after, refutes, negations, literal_term, negated_count, clause_form}
use Rattle.proof_theory.proofs.Sorting.{Rises-sorted, value-sorted}
use Rattle.log_theory.specs.declared.step.Name.{Name}
use Rattle.log_theory.specs.declared.step.Ref.{Ref}
use Rattle.log_theory.specs.declared.step.Step.TheVariants.{U}
use Rattle.log_theory.specs.declared.step.Cause.{Cause}
use Rattle.log_theory.specs.declared.step.Cause.TheVariants.{Twice, NoSuchName, NoConflict}
use Rattle.log_theory.specs.Steps.{◌>>=◌, unless, or_fault}
use Rattle.log_theory.specs.Lookups.{Lookup, is_among, are_distinct, variables_of, find_all, makes}
use Rattle.encoding_theory.specs.Variables.{variable, collect, when}
use Rattle.encoding_theory.specs.Pairs.{is_compatible}
use Rattle.encoding_theory.specs.Encoding.{terms_where, at_least, at_most}
use Rattle.encoding_theory.proofs.PairTests.{compatible_injective, compatible_to}
use Rattle.encoding_theory.proofs.FormMeanings.{value_up}
use Rattle.forcing_theory.specs.Units.{Follows}
use Rattle.forcing_theory.specs.Chains.{run, Within}
use Rattle.forcing_theory.proofs.Chaining.{after_keeps, run_keeps, refutes_more, refutes_behind}
use Rattle.explanation_theory.specs.Reasons.{ForcesBeside, not_there}
use Rattle.explanation_theory.proofs.Forcing.{at_least_fails}
use Rattle.explanation_theory.proofs.Explaining.{conflict_refutes}
use Rattle.pair_line_theory.specs.Rows.{at_least_line, there, is_consistent, consistent_places, consistent_clause, consistent_form}
use Rattle.pair_line_theory.specs.Laws.{IsPlace, Shares, ForcesShared, RowServes}
use Rattle.pair_line_theory.proofs.Totals.{one_if, count_but_one}
use Rattle.pair_line_theory.proofs.Values.{IsWorth, worth_sum, one_less, worth_at_most, values_of, values_where, variable_apart}
use Rattle.pair_line_theory.proofs.Forcing.{forces_out}

-- ---- one direction

-- Both directions of an edge pair go together in the reversed problem exactly where they do so here.
turned_pair : (q : Problem) (p t r u : ℕ) → p < size q.pattern → t < size q.target → r < size q.pattern → u < size q.target → Compatible (reversed_problem q) p t r u → Compatible q p t r u
turned_pair q p t r u p_in t_in r_in u_in c = record {
  apart = λ two. c.apart (differ-reversed q p r p_in r_in ∙ two);
  out = rw (← edge-reversed q.pattern r p r_in p_in, ← edge-reversed q.target u t u_in t_in) c.back;
  back = rw (← edge-reversed q.pattern p r p_in r_in, ← edge-reversed q.target t u t_in u_in) c.out;
}

mutual_serves : (q : Problem) (line : Form) (p t r : ℕ) → IsPlace q p t r → AreMutual q → ForcesShared q line p t r → ForcesBeside q line p t r
mutual_serves q line p t r place ways takes s here u u_in refused =
    takes s here u u_in (λ (k : Shares q p t r u). refused (mutual_consistent q p t r u ways place.first place.place place.second u_in k.pair k.shared))

out_serves : (q : Problem) (line : Form) (p t r : ℕ) → IsPlace q p t r → asked_shared (reversed_problem q) p r ≡ 0 → ForcesShared q line p t r → ForcesBeside q line p t r
out_serves q line p t r place none takes s here u u_in refused =
    takes s here u u_in (λ (k : Shares q p t r u). refused (record { pair = k.pair; shared = k.shared; in_shared = omega (arith, none) }))

back_serves : (q : Problem) (line : Form) (p t r : ℕ) → IsPlace q p t r → asked_shared q p r ≡ 0 → ForcesShared (reversed_problem q) line p t r → ForcesBeside q line p t r
back_serves q line p t r place none takes s here u u_in refused =
    takes s here u u_in (λ (k : Shares (reversed_problem q) p t r u).
    refused (record { pair = turned_pair q p t r u place.first place.place place.second u_in k.pair; shared = omega (arith, none); in_shared = k.shared }))

-- ---- values that are consistent, as a test

not_less : (m n : ℕ) → n ≤ m → not (nat_lt m n) ≡ true
not_less m n le = by (nat_lt m n) refl
  where
    by : (b : Bool) → nat_lt m n ≡ b → not b ≡ true
    by true e = absurd (let l = ltb-true m n e in omega (arith, l, le))
    by false e = refl

consistent_from : (q : Problem) (p t r u : ℕ) → is_injective q.maps ≡ true → is_consistent q p t r u ≡ true → AreConsistent q p t r u
consistent_from q p t r u inj h =
    let out : Bool = not (nat_lt (common q.target t u) (asked_shared q p r)) in
    let back : Bool = not (nat_lt (common (reversed q.target) t u) (asked_shared (reversed_problem q) p r)) in
    let x = and_parts (is_compatible q p t r u) (out && back) h in
    let y = and_parts out back x.1 in
    record {
      pair = compatible_injective q p t r u inj x.0;
      shared = ltb-false (common q.target t u) (asked_shared q p r) (not-true (nat_lt (common q.target t u) (asked_shared q p r)) y.0);
      in_shared = ltb-false (common (reversed q.target) t u) (asked_shared (reversed_problem q) p r) (not-true (nat_lt (common (reversed q.target) t u) (asked_shared (reversed_problem q) p r)) y.1);
    }

-- What is not consistent fails in one direction or the other.
fails_one_way : (q : Problem) (p t r u : ℕ) → is_consistent q p t r u ≡ false → (Shares q p t r u → ⊥) ⊎ (Shares (reversed_problem q) p t r u → ⊥)
fails_one_way q p t r u h = by (cases_lt (common (reversed q.target) t u) (asked_shared (reversed_problem q) p r))
  where
    by : (common (reversed q.target) t u < asked_shared (reversed_problem q) p r) ⊎ (asked_shared (reversed_problem q) p r ≤ common (reversed q.target) t u)
        → (Shares q p t r u → ⊥) ⊎ (Shares (reversed_problem q) p t r u → ⊥)
    by (inl few) = inr (λ (k : Shares (reversed_problem q) p t r u). let e = k.shared in omega (arith, e, few))
    by (inr enough) = inl (λ (k : Shares q p t r u). clash (and_from (is_compatible q p t r u) _ (compatible_to q p t r u k.pair)
        (and_from (not (nat_lt (common q.target t u) (asked_shared q p r))) (not (nat_lt (common (reversed q.target) t u) (asked_shared (reversed_problem q) p r)))
        (not_less (common q.target t u) (asked_shared q p r) k.shared) (not_less (common (reversed q.target) t u) (asked_shared (reversed_problem q) p r) enough))))
      where
        clash : is_consistent q p t r u ≡ true → ⊥
        clash e = let bad : true ≡ false = sym e ∙ h in cc

-- ---- the literals

-- That r is at one of the values below n that pass.
abbrev places_where : Problem → (ℕ → Bool) → ℕ → ℕ → List Literal
places_where q test r n = collect (λ u. when (test u) (there q u r ∷ [])) n

module _ (q : Problem) (test : ℕ → Bool) (r : ℕ) where
  terms_there : (n : ℕ) → map literal_term (places_where q test r n) ≡ terms_where (pos 1) test (variable q r) n
  terms_there zero = refl
  terms_there (suc n) =
      map-append literal_term (places_where q test r n) (when (test n) (there q n r ∷ []))
      ∙ ap (λ (ts : List (ℕ × ℤ)). ts ++ map literal_term (when (test n) (there q n r ∷ []))) (terms_there n)
      ∙ ap (λ (ts : List (ℕ × ℤ)). terms_where (pos 1) test (variable q r) n ++ ts) (last (test n))
    where
      last : (b : Bool) → map literal_term (when b (there q n r ∷ [])) ≡ when b ((variable q r n, pos 1) ∷ [])
      last true = refl
      last false = refl

  negated_append : (xs ys : List Literal) → negated_count (xs ++ ys) ≡ negated_count xs + negated_count ys
  negated_append [] ys = omega arith
  negated_append (x ∷ xs) ys = let h = negated_append xs ys in omega (arith, h)

  none_negated : (n : ℕ) → negated_count (places_where q test r n) ≡ 0
  none_negated zero = refl
  none_negated (suc n) =
      let e = negated_append (places_where q test r n) (when (test n) (there q n r ∷ [])) in
      let h = none_negated n in
      let l = last (test n) in
      omega (arith, e, h, l)
    where
      last : (b : Bool) → negated_count (when b (there q n r ∷ [])) ≡ 0
      last true = refl
      last false = refl

  variables_append : (xs ys : List Literal) → variables_of (xs ++ ys) ≡ variables_of xs ++ variables_of ys
  variables_append [] ys = refl
  variables_append (x ∷ xs) ys = ap (λ (vs : List ℕ). x.variable ∷ vs) (variables_append xs ys)

  among_append : (v : ℕ) (xs ys : List ℕ) → is_among v (xs ++ ys) ≡ (is_among v xs || is_among v ys)
  among_append v [] ys = refl
  among_append v (x ∷ xs) ys = ap (λ (b : Bool). (x == v) || b) (among_append v xs ys) ∙ by (x == v)
    where
      by : (b : Bool) → (b || (is_among v xs || is_among v ys)) ≡ ((b || is_among v xs) || is_among v ys)
      by true = refl
      by false = refl

  among_next : (v n : ℕ) → is_among v (variables_of (places_where q test r (suc n))) ≡ (is_among v (variables_of (places_where q test r n)) || is_among v (variables_of (when (test n) (there q n r ∷ []))))
  among_next v n = ap (λ (vs : List ℕ). is_among v vs) (variables_append (places_where q test r n) (when (test n) (there q n r ∷ [])))
      ∙ among_append v (variables_of (places_where q test r n)) (variables_of (when (test n) (there q n r ∷ [])))

  -- None of them is one that is no variable of r below n.
  not_among : (v n : ℕ) → ((u : ℕ) → u < n → variable q r u ≡ v → ⊥) → is_among v (variables_of (places_where q test r n)) ≡ false
  not_among v zero other = refl
  not_among v (suc n) other =
      among_next v n ∙ ap (λ (b : Bool). b || is_among v (variables_of (when (test n) (there q n r ∷ [])))) (not_among v n (λ u low. other u (omega (arith, low)))) ∙ last (test n)
    where
      last : (b : Bool) → is_among v (variables_of (when b (there q n r ∷ []))) ≡ false
      last true = ap (λ (b : Bool). b || false) (ne_eqb (variable q r n) v (other n (omega arith)))
      last false = refl

  -- And each that passes is among them.
  among_places : (n u : ℕ) → u < n → test u ≡ true → is_among (variable q r u) (variables_of (places_where q test r n)) ≡ true
  among_places zero u low is = absurd (omega (arith, low))
  among_places (suc n) u low is = among_next (variable q r u) n ∙ by (λ lower. among_places n u lower is) (cases_eq u n)
    where
      or_right : (x y : Bool) → y ≡ true → (x || y) ≡ true
      or_right true y e = refl
      or_right false y e = e

      or_left : (x y : Bool) → x ≡ true → (x || y) ≡ true
      or_left true y e = refl
      or_left false y e = absurd cc

      last : (b : Bool) → b ≡ true → u ≡ n → is_among (variable q r u) (variables_of (when b (there q n r ∷ []))) ≡ true
      last true e same = ap (λ (b : Bool). b || false) (eq-eqb (variable q r n) (variable q r u) (ap (variable q r) (sym same)))
      last false e same = absurd cc

      by : (u < n → is_among (variable q r u) (variables_of (places_where q test r n)) ≡ true) → (u ≡ n) ⊎ (u ≡ n → ⊥)
          → (is_among (variable q r u) (variables_of (places_where q test r n)) || is_among (variable q r u) (variables_of (when (test n) (there q n r ∷ [])))) ≡ true
      by earlier (inl same) = or_right (is_among (variable q r u) (variables_of (places_where q test r n))) _ (last (test n) (ap test (sym same) ∙ is) same)
      by earlier (inr other) = or_left (is_among (variable q r u) (variables_of (places_where q test r n))) _ (earlier (omega (arith, low, other)))

  distinct_with : (xs : List ℕ) (v : ℕ) → are_distinct xs ≡ true → is_among v xs ≡ false → are_distinct (xs ++ v ∷ []) ≡ true
  distinct_with [] v distinct other = refl
  distinct_with (x ∷ xs) v distinct other =
      let d = and_parts (not (is_among x xs)) (are_distinct xs) distinct in
      let o = both_false (x == v) (is_among v xs) other in
      and_from (not (is_among x (xs ++ v ∷ []))) (are_distinct (xs ++ v ∷ []))
      (ap not (among_append x xs (v ∷ []) ∙ ap (λ (b : Bool). b || ((v == x) || false)) (not-true (is_among x xs) d.0) ∙ ap (λ (b : Bool). b || false) (ne_eqb v x (λ (e : v ≡ x). clash (x == v) (eq-eqb x v (sym e)) o.0))))
      (distinct_with xs v d.1 o.1)
    where
      both_false : (b c : Bool) → (b || c) ≡ false → (b ≡ false) × (c ≡ false)
      both_false true c e = absurd cc
      both_false false c e = (refl, e)

      clash : (b : Bool) → b ≡ true → b ≡ false → ⊥
      clash b e f = let bad : true ≡ false = sym e ∙ f in cc

  places_distinct : (n : ℕ) → are_distinct (variables_of (places_where q test r n)) ≡ true
  places_distinct zero = refl
  places_distinct (suc n) = ap (λ (vs : List ℕ). are_distinct vs) (variables_append (places_where q test r n) (when (test n) (there q n r ∷ []))) ∙ last (places_distinct n) (test n)
    where
      append_none : (xs : List ℕ) → xs ++ [] ≡ xs
      append_none [] = refl
      append_none (x ∷ xs) = ap (λ (ys : List ℕ). x ∷ ys) (append_none xs)

      last : are_distinct (variables_of (places_where q test r n)) ≡ true → (b : Bool) → are_distinct (variables_of (places_where q test r n) ++ variables_of (when b (there q n r ∷ []))) ≡ true
      last earlier true = distinct_with (variables_of (places_where q test r n)) (variable q r n) earlier
          (not_among (variable q r n) n (λ u low (e : variable q r u ≡ variable q r n). omega (arith, low, e)))
      last earlier false = ap are_distinct (append_none (variables_of (places_where q test r n))) ∙ earlier

-- Where no literal is negated, the negations set each variable false.
negations_false : (ls : List Literal) (v : ℕ) → negated_count ls ≡ 0 → is_among v (variables_of ls) ≡ true → negations ls v ≡ Some false
negations_false [] v none among = absurd cc
negations_false (l ∷ ls) v none among = by (λ fewer later. negations_false ls v fewer later) (l.negated) refl (l.variable == v) refl
  where
    by : (negated_count ls ≡ 0 → is_among v (variables_of ls) ≡ true → negations ls v ≡ Some false) → (n : Bool) → l.negated ≡ n → (b : Bool) → (l.variable == v) ≡ b → cond b (Some l.negated) (negations ls v) ≡ Some false
    by rest true is b e = absurd (let one : one_if l.negated ≡ 1 = ap one_if is in omega (arith, one, none))
    by rest false is true e = ap Some is
    by rest false is false e = rest (omega (arith, none)) (sym (ap (λ (b : Bool). b || is_among v (variables_of ls)) e) ∙ among)

-- ---- the clause, and the line of both directions

module _ (q : Problem) (p t r : ℕ) (place : IsPlace q p t r) where
  -- Another vertex's variable is none of p's.
  others : (u : ℕ) → u < size q.target → variable q r u ≡ variable q p t → ⊥
  others u u_in e = place.others (sym (variable_apart q r u p t u_in place.place e))

  distinct : are_distinct (variables_of (consistent_places q p t r)) ≡ true
  distinct = and_from (not (is_among (variable q p t) (variables_of (places_where q (is_consistent q p t r) r (size q.target))))) _
      (not_from_false (is_among (variable q p t) (variables_of (places_where q (is_consistent q p t r) r (size q.target)))) (not_among q (is_consistent q p t r) r (variable q p t) (size q.target) others))
      (places_distinct q (is_consistent q p t r) r (size q.target))

  -- The setting in which p is at t and r at none of them.
  first_set : negations (consistent_places q p t r) (variable q p t) ≡ Some true
  first_set = ap (λ (b : Bool). let o : Option Bool = cond b (Some true) (negations (places_where q (is_consistent q p t r) r (size q.target)) (variable q p t)) in o) (eq-eqb (variable q p t) (variable q p t) refl)

  others_set : (u : ℕ) → u < size q.target → is_consistent q p t r u ≡ true → negations (consistent_places q p t r) (variable q r u) ≡ Some false
  others_set u u_in is =
      ap (λ (b : Bool). let o : Option Bool = cond b (Some true) (negations (places_where q (is_consistent q p t r) r (size q.target)) (variable q r u)) in o)
      (ne_eqb (variable q p t) (variable q r u) (λ (e : variable q p t ≡ variable q r u). others u u_in (sym e)))
      ∙ negations_false (places_where q (is_consistent q p t r) r (size q.target)) (variable q r u) (none_negated q (is_consistent q p t r) r (size q.target)) (among_places q (is_consistent q p t r) r (size q.target) u u_in is)

  module _ (first second : Form) (takes : ForcesShared q first p t r) (takes_too : ForcesShared (reversed_problem q) second p t r) where
    -- Both lines together leave r nothing.
    all_refuted : refutes (negations (consistent_places q p t r)) (first ∷ second ∷ at_least q r ∷ []) ≡ true
    all_refuted = by (refutes (negations (consistent_places q p t r)) (first ∷ second ∷ [])) refl
      where
        s : Setting
        s = negations (consistent_places q p t r)

        by : (b : Bool) → refutes (negations (consistent_places q p t r)) (first ∷ second ∷ []) ≡ b → refutes (negations (consistent_places q p t r)) (first ∷ second ∷ at_least q r ∷ []) ≡ true
        by true is = refutes_more (negations (consistent_places q p t r)) (first ∷ second ∷ []) (at_least q r ∷ []) is
        by false is = refutes_behind (negations (consistent_places q p t r)) (first ∷ second ∷ []) (at_least q r ∷ [])
            (conflict_refutes (run (negations (consistent_places q p t r)) (first ∷ second ∷ [])) (at_least q r)
            (at_least_fails q (run (negations (consistent_places q p t r)) (first ∷ second ∷ [])) r (λ u u_in. gone u u_in (is_consistent q p t r u) refl)))
          where
            both_false : (b c : Bool) → (b || (c || false)) ≡ false → (b ≡ false) × (c ≡ false)
            both_false true c e = absurd cc
            both_false false true e = absurd cc
            both_false false false e = (refl, refl)

            calm : (conflict (negations (consistent_places q p t r)) first ≡ false) × (conflict (after (negations (consistent_places q p t r)) first) second ≡ false)
            calm = both_false (conflict (negations (consistent_places q p t r)) first) (conflict (after (negations (consistent_places q p t r)) first) second) is

            clash : (b : Bool) → b ≡ true → b ≡ false → ⊥
            clash b e f = let bad : true ≡ false = sym e ∙ f in cc

            gone : (u : ℕ) → u < size q.target → (b : Bool) → is_consistent q p t r u ≡ b → run (negations (consistent_places q p t r)) (first ∷ second ∷ []) (variable q r u) ≡ Some false
            gone u u_in true e = run_keeps (negations (consistent_places q p t r)) (first ∷ second ∷ []) (variable q r u) false (others_set u u_in e)
            gone u u_in false e = one (fails_one_way q p t r u e)
              where
                out : (conflict (negations (consistent_places q p t r)) first ≡ true) ⊎ (after (negations (consistent_places q p t r)) first (variable q r u) ≡ Some false)
                    → run (negations (consistent_places q p t r)) (first ∷ second ∷ []) (variable q r u) ≡ Some false
                out (inl c) = absurd (clash (conflict (negations (consistent_places q p t r)) first) c calm.0)
                out (inr a) = after_keeps (after (negations (consistent_places q p t r)) first) second (variable q r u) false a

                back : (conflict (after (negations (consistent_places q p t r)) first) second ≡ true) ⊎ (after (after (negations (consistent_places q p t r)) first) second (variable q r u) ≡ Some false)
                    → run (negations (consistent_places q p t r)) (first ∷ second ∷ []) (variable q r u) ≡ Some false
                back (inl c) = absurd (clash (conflict (after (negations (consistent_places q p t r)) first) second) c calm.1)
                back (inr a) = a

                one : (Shares q p t r u → ⊥) ⊎ (Shares (reversed_problem q) p t r u → ⊥) → run (negations (consistent_places q p t r)) (first ∷ second ∷ []) (variable q r u) ≡ Some false
                one (inl few) = out (takes (negations (consistent_places q p t r)) first_set u u_in few)
                one (inr few) = back (takes_too (after (negations (consistent_places q p t r)) first) (after_keeps (negations (consistent_places q p t r)) first (variable q p t) true first_set) u u_in few)

  pub clause_made : (look : Lookup) (name : Name) (out back : Ref) (first second : Form) → look out ≡ Some first → ForcesShared q first p t r → look back ≡ Some second → ForcesShared (reversed_problem q) second p t r
      → look (at_least_line q r) ≡ Some (at_least q r) → makes look (U name (consistent_places q p t r) (out ∷ back ∷ at_least_line q r ∷ [])) ≡ Ok (consistent_clause q p t r)
  clause_made look name out back first second found takes again takes_too least =
      ap (λ (b : Bool). unless b Twice >>= λ _. find_all look (out ∷ back ∷ at_least_line q r ∷ []) >>= λ fs. unless (refutes (negations (consistent_places q p t r)) fs) NoConflict >>= λ _. let x : Result Form Cause = Ok (consistent_clause q p t r) in x) distinct
      ∙ ap (λ (x : Result (List Form) Cause). x >>= λ fs. unless (refutes (negations (consistent_places q p t r)) fs) NoConflict >>= λ _. let y : Result Form Cause = Ok (consistent_clause q p t r) in y) found_all
      ∙ ap (λ (b : Bool). unless b NoConflict >>= λ _. let x : Result Form Cause = Ok (consistent_clause q p t r) in x) (all_refuted first second takes takes_too)
    where
      found_all : find_all look (out ∷ back ∷ at_least_line q r ∷ []) ≡ Ok (first ∷ second ∷ at_least q r ∷ [])
      found_all =
          ap (λ (o : Option Form). or_fault o NoSuchName >>= λ f. find_all look (back ∷ at_least_line q r ∷ []) >>= λ fs. let x : Result (List Form) Cause = Ok (f ∷ fs) in x) found
          ∙ ap (λ (o : Option Form). (or_fault o NoSuchName >>= λ f. find_all look (at_least_line q r ∷ []) >>= λ fs. let x : Result (List Form) Cause = Ok (f ∷ fs) in x) >>= λ fs. let x : Result (List Form) Cause = Ok (first ∷ fs) in x) again
          ∙ ap (λ (o : Option Form). ((or_fault o NoSuchName >>= λ f. let x : Result (List Form) Cause = Ok (f ∷ []) in x) >>= λ fs. let x : Result (List Form) Cause = Ok (second ∷ fs) in x) >>= λ fs. let x : Result (List Form) Cause = Ok (first ∷ fs) in x) least

pub clause_terms : (q : Problem) (p t r : ℕ) → map literal_term (consistent_places q p t r) ≡ (variable q p t, negsuc 0) ∷ terms_where (pos 1) (is_consistent q p t r) (variable q r) (size q.target)
clause_terms q p t r = ap (λ (ts : List (ℕ × ℤ)). (variable q p t, negsuc 0) ∷ ts) (terms_there q (is_consistent q p t r) r (size q.target))

pub clause_bound : (q : Problem) (p t r : ℕ) → (consistent_clause q p t r).bound ≡ pos 0
clause_bound q p t r = let n = none_negated q (is_consistent q p t r) r (size q.target) in omega (arith, ints)

worth_clause : (q : Problem) (a : ℕ → Bool) (p t r : ℕ) → IsWorth a (consistent_clause q p t r) (one_if (a (variable q p t))) (values_where q a (is_consistent q p t r) r)
worth_clause q a p t r = record {
  worth =
      let e = value-sorted a (map literal_term (consistent_places q p t r)) in
      let m = ap (λ (ts : List (ℕ × ℤ)). value a ts) (clause_terms q p t r) in
      let v = value_up a (is_consistent q p t r) (variable q r) (size q.target) in
      let o = one_less (a (variable q p t)) in
      omega (arith, ints);
}

both_never : (q : Problem) (a : ℕ → Bool) (p t r u : ℕ) → u < size q.target → is_consistent q p t r u ≡ false → a (variable q p t) ≡ true → Holds (consistent_form q p t r) a → a (variable q r u) ≡ true → ⊥
both_never q a p t r u u_in refused here holds is =
    let w = (worth_sum a (consistent_clause q p t r) (at_most q r) (one_if (a (variable q p t))) (values_where q a (is_consistent q p t r) r) (values_of q a r) 0 (worth_clause q a p t r) (worth_at_most q a r)).worth in
    let one : one_if (a (variable q p t)) ≡ 1 = ap one_if here in
    let less = count_but_one (is_consistent q p t r) (λ i. a (variable q r i)) (size q.target) u u_in is in
    let none : one_if (is_consistent q p t r u) ≡ 0 = ap one_if refused in
    let bound = clause_bound q p t r in
    let reached = holds.reached in
    omega (arith, ints)

both_serves : (q : Problem) (p t r : ℕ) → IsPlace q p t r → is_injective q.maps ≡ true → ForcesBeside q (consistent_form q p t r) p t r
both_serves q p t r place inj s here u u_in refused = forces_out s (consistent_form q p t r) (variable q r u) (Rises-sorted _)
    (λ a follows holds is. both_never q a p t r u u_in (by (is_consistent q p t r u) refl) (follows.same (variable q p t) true here) holds is)
  where
    by : (b : Bool) → is_consistent q p t r u ≡ b → is_consistent q p t r u ≡ false
    by true e = absurd (refused (consistent_from q p t r u inj e))
    by false e = e

pub row_serves : (q : Problem) → RowServes q
row_serves q = record {
  both_ways = mutual_serves q;
  out = out_serves q;
  back = back_serves q;
  both = both_serves q;
}
