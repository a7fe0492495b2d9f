-- What each kind of change is explained by, and what leads each kind of end to a conflict.
use Rattle.std.proofs.Common.{◌≡◌, ℕ, ◌+◌, ◌<◌, ◌≤◌, ◌==◌, Bool, true, false, not, ◌||◌, List, [], ◌∷◌, ◌++◌, length, map, pos, refl, sym, ap, subst, ◌∙◌, arith, Option, Some, None, inl, inr, ◌⊎◌}
use Rattle.std.proofs.lemmas.Bool.{cases_eq, eqb-true, eq-eqb, ne_eqb, or_cases}
use Rattle.graph_theory.specs.Graph.{size}
use Rattle.graph_theory.specs.Embedding.{Problem}
use Rattle.graph_theory.specs.Blocks.{in_block}
use Rattle.proof_theory.specs.Forms.{Form, Holds, Rises}
use Rattle.proof_theory.specs.Slack.{Setting, conflict, after, refutes}
use Rattle.proof_theory.proofs.Sorting.{Rises-sorted}
use Rattle.log_theory.specs.Lookups.{is_among, are_distinct}
use Rattle.encoding_theory.specs.Variables.{variable}
use Rattle.encoding_theory.specs.Encoding.{every, terms_where, at_least, at_most, at_most_in, leads_form}
use Rattle.forcing_theory.specs.Units.{Follows, Implies}
use Rattle.forcing_theory.specs.Chains.{run, Within, Domains, AreOut, Explains, EndsAt}
use Rattle.forcing_theory.proofs.Uniting.{unit}
use Rattle.forcing_theory.proofs.Chaining.{after_keeps, run_keeps}
use Rattle.explanation_theory.specs.Reasons.{pairs_clause, at_leasts, vertices_of, set_form, over_form, TakesFirst, TakesBeside, HasAtMost, AreDecided, IsPair, IsNoPair, HaveOnly, HaveBeside, OnlyOf, LeftRefused, reason_for, no_vertex, AreTrue, value_clauses}
use Rattle.explanation_theory.specs.Laws.{ChangeLaws, EndLaws}
use Rattle.explanation_theory.proofs.Giving.{Leads, Gives, one_gives, then_gives, leads_on, leads_to_end, no_solution, explains_each, explains_one}
use Rattle.explanation_theory.proofs.Forcing.{not_both, leads_takes, at_least_forces, at_least_fails, at_most_forces, others_false, out_within, clause_forces, clause_fails, AreSet, set_within, decided_lead}
use Rattle.explanation_theory.proofs.SetCounting.{sum_rises, enough_values, none_outside}
use Rattle.explanation_theory.proofs.OverCounting.{over_takes}

pub conflict_refutes : (s : Setting) (f : Form) → conflict s f ≡ true → refutes s (f ∷ []) ≡ true
conflict_refutes s f c = ap (λ (b : Bool). b || false) c

-- A value that left and was all that is refused but one is another.
not_same : (u t : ℕ) → not (u == t) ≡ true → u ≡ t → ⊥
not_same u t e same = let bad : false ≡ true = sym (ap not (eq-eqb u t same)) ∙ e in absurd cc

module _ (q : Problem) where
  first : (base : Setting) (d e : Domains) (line : Form) (p : ℕ) (refused : ℕ → Bool) → TakesFirst q line p refused → OnlyOf d e p → LeftRefused d e p refused
      → Explains (variable q) (size q.target) base d e (reason_for (line ∷ []) p no_vertex)
  first base d e line p refused takes only left =
      explains_one (variable q) (size q.target) base d e (line ∷ []) p no_vertex only (λ s above out u u_in there gone. one_gives s line (variable q p u) false (takes s u u_in (left u there gone)))

  guess : (base : Setting) (d e : Domains) (p t : ℕ) → t < size q.target → base (variable q p t) ≡ Some true → OnlyOf d e p → LeftRefused d e p (λ u. not (u == t))
      → Explains (variable q) (size q.target) base d e (reason_for (at_most q p ∷ []) p no_vertex)
  guess base d e p t t_in is only left =
      explains_one (variable q) (size q.target) base d e (at_most q p ∷ []) p no_vertex only
      (λ s above out u u_in there gone. one_gives s (at_most q p) (variable q p u) false (at_most_forces q s p t u t_in u_in (not_same u t (left u there gone)) (above (variable q p t) true is)))

  vertex : (base : Setting) (d e : Domains) (line : Form) (p t r : ℕ) (refused : ℕ → Bool) → t < size q.target → HasAtMost d p t → TakesBeside q line p t r refused → OnlyOf d e r → LeftRefused d e r refused
      → Explains (variable q) (size q.target) base d e (reason_for (at_least q p ∷ line ∷ []) r (λ v. v == p))
  vertex base d e line p t r refused t_in most takes only left =
      explains_one (variable q) (size q.target) base d e (at_least q p ∷ line ∷ []) r (λ v. v == p) only
      (λ s above out u u_in there gone.
      then_gives s (at_least q p) (line ∷ []) (variable q p t) true (variable q r u) false
      (at_least_forces q s p t (others_false q s d p t most (out p (eq-eqb p p refl))))
      (λ is. one_gives (after s (at_least q p)) line (variable q r u) false (takes (after s (at_least q p)) is u u_in (left u there gone))))

  nogood : (base : Setting) (d e : Domains) (pairs : List (ℕ × ℕ)) (r : ℕ) → ((u : ℕ) → d r u ≡ true → e r u ≡ false → AreDecided q d (IsPair r u) pairs) → OnlyOf d e r
      → Explains (variable q) (size q.target) base d e (reason_for (at_leasts q (vertices_of pairs) ++ pairs_clause q pairs ∷ []) r (λ v. is_among v (vertices_of pairs)))
  nogood base d e pairs r decided only =
      explains_one (variable q) (size q.target) base d e (at_leasts q (vertices_of pairs) ++ pairs_clause q pairs ∷ []) r (λ v. is_among v (vertices_of pairs)) only
      (λ s above out u u_in there gone.
      leads_on s (at_leasts q (vertices_of pairs)) (pairs_clause q pairs ∷ []) (λ t. AreSet q t (IsPair r u) pairs) (variable q r u) false
      (decided_lead q s d (IsPair r u) pairs (decided u there gone) out)
      (λ are. one_gives (run s (at_leasts q (vertices_of pairs))) (pairs_clause q pairs) (variable q r u) false (clause_forces q (run s (at_leasts q (vertices_of pairs))) r u pairs are)))

  edge : (base : Setting) (d e : Domains) (p r u : ℕ) (test : ℕ → Bool) → ((w : ℕ) → w < size q.target → test w ≡ true → d p w ≡ false) → OnlyOf d e r → LeftRefused d e r (λ v. v == u)
      → Explains (variable q) (size q.target) base d e (reason_for (leads_form q r u p test ∷ []) r (λ v. v == p))
  edge base d e p r u test none only left =
      explains_one (variable q) (size q.target) base d e (leads_form q r u p test ∷ []) r (λ v. v == p) only
      (λ s above out v v_in there gone.
      subst (λ (t : ℕ). Gives s (leads_form q r u p test ∷ []) (variable q r t) false) (sym (eqb-true v u (left v there gone)))
      (one_gives s (leads_form q r u p test) (variable q r u) false (leads_takes q s p r u test (λ w w_in fits. out p (eq-eqb p p refl) w w_in (none w w_in fits)))))

  -- Values of the set that are true are among those that it has.
  true_within : (s : Setting) (b : Option ℕ) (d : Domains) (a : ℕ → Bool) (p : ℕ) (vertices values : List ℕ) → HaveOnly q b d (p ∷ vertices) values
      → ((r : ℕ) → is_among r (p ∷ vertices) ≡ true → AreOut (variable q) (size q.target) s d r) → Follows s a
      → (r u : ℕ) → is_among r (p ∷ vertices) ≡ true → u < size q.target → a (variable q r u) ≡ true → is_among u values ≡ true
  true_within s b d a p vertices values only out follows r u among u_in is = by (d r u) refl
    where
      by : (t : Bool) → d r u ≡ t → is_among u values ≡ true
      by true there = only.within r u among u_in there
      by false gone = absurd (not_both (a (variable q r u)) is (follows.same (variable q r u) false (out r among u u_in gone)))

  set_sorted : (b : Option ℕ) (p : ℕ) (vertices values : List ℕ) → Rises 0 (set_form q b p vertices values).terms
  set_sorted b p vertices values = sum_rises (at_least q p) (at_leasts q vertices ++ map (at_most_in q b) values) (Rises-sorted (terms_where (pos 1) every (variable q p) (size q.target)))

  set_takes : (s : Setting) (b : Option ℕ) (d : Domains) (p : ℕ) (vertices values : List ℕ) → HaveOnly q b d (p ∷ vertices) values → length values ≤ length (p ∷ vertices)
      → ((r : ℕ) → is_among r (p ∷ vertices) ≡ true → AreOut (variable q) (size q.target) s d r) → (r u : ℕ) → r < size q.pattern → in_block q b r ≡ true → is_among r (p ∷ vertices) ≡ false → is_among u values ≡ true
      → (conflict s (set_form q b p vertices values) ≡ true) ⊎ (after s (set_form q b p vertices values) (variable q r u) ≡ Some false)
  set_takes s b d p vertices values only few out r u r_in member outside among = unit s (set_form q b p vertices values) (variable q r u) false (record {
    rises = set_sorted b p vertices values;
    there = λ a follows holds. by a follows holds (a (variable q r u)) refl;
  })
    where
      by : (a : ℕ → Bool) → Follows s a → Holds (set_form q b p vertices values) a → (t : Bool) → a (variable q r u) ≡ t → a (variable q r u) ≡ false
      by a follows holds true is =
          absurd (none_outside q b a p vertices values only.members only.distinct only.vertices_in (true_within s b d a p vertices values only out follows) holds few r u r_in member outside among is)
      by a follows holds false is = is

  counted : (base : Setting) (d e : Domains) (b : Option ℕ) (p : ℕ) (vertices values : List ℕ) → HaveOnly q b d (p ∷ vertices) values → length values ≤ length (p ∷ vertices)
      → ((r u : ℕ) → is_among r (p ∷ vertices) ≡ true → e r u ≡ d r u) → ((r u : ℕ) → d r u ≡ true → e r u ≡ false → (r < size q.pattern) × (in_block q b r ≡ true) × (is_among u values ≡ true))
      → Explains (variable q) (size q.target) base d e (record { forms = set_form q b p vertices values ∷ []; takes = λ r. not (is_among r (p ∷ vertices)); needs = λ r. is_among r (p ∷ vertices) })
  counted base d e b p vertices values only few stays left =
      explains_each (variable q) (size q.target) base d e (record { forms = set_form q b p vertices values ∷ []; takes = λ r. not (is_among r (p ∷ vertices)); needs = λ r. is_among r (p ∷ vertices) })
      (λ r u inside. stays r u (is_in (is_among r (p ∷ vertices)) inside))
      (λ s above out r u outside u_in there gone. let l = left r u there gone in
      one_gives s (set_form q b p vertices values) (variable q r u) false (set_takes s b d p vertices values only few out r u l.0 l.1 (is_out (is_among r (p ∷ vertices)) outside) l.2))
    where
      is_in : (b : Bool) → not b ≡ false → b ≡ true
      is_in true h = refl
      is_in false h = absurd cc

      is_out : (b : Bool) → not b ≡ true → b ≡ false
      is_out true h = absurd cc
      is_out false h = refl

  over : (base : Setting) (d e : Domains) (p t r : ℕ) (vertices values : List ℕ) → HaveBeside q d p t (r ∷ vertices) values → length values < length (r ∷ vertices) → OnlyOf d e p
      → LeftRefused d e p (λ v. v == t) → Explains (variable q) (size q.target) base d e (reason_for (over_form q p t r vertices values ∷ []) p (λ v. is_among v (r ∷ vertices)))
  over base d e p t r vertices values beside fewer only left =
      explains_one (variable q) (size q.target) base d e (over_form q p t r vertices values ∷ []) p (λ v. is_among v (r ∷ vertices)) only
      (λ s above out v v_in there gone.
      subst (λ (u : ℕ). Gives s (over_form q p t r vertices values ∷ []) (variable q p u) false) (sym (eqb-true v t (left v there gone)))
      (one_gives s (over_form q p t r vertices values) (variable q p t) false (over_takes q s d p t r vertices values beside fewer out)))

  -- ---- ends

  empty : (base : Setting) (d : Domains) (p : ℕ) → ((u : ℕ) → u < size q.target → d p u ≡ false) → EndsAt (variable q) (size q.target) base d (λ r. r == p) (at_least q p ∷ [])
  empty base d p none s above out = conflict_refutes s (at_least q p) (at_least_fails q s p (λ u u_in. out p (eq-eqb p p refl) u u_in (none u u_in)))

  whole : (base : Setting) (d : Domains) (pairs : List (ℕ × ℕ)) → AreDecided q d IsNoPair pairs
      → EndsAt (variable q) (size q.target) base d (λ r. is_among r (vertices_of pairs)) (at_leasts q (vertices_of pairs) ++ pairs_clause q pairs ∷ [])
  whole base d pairs decided s above out =
      leads_to_end s (at_leasts q (vertices_of pairs)) (pairs_clause q pairs ∷ []) (λ t. AreSet q t IsNoPair pairs) (decided_lead q s d IsNoPair pairs decided out)
      (λ are. conflict_refutes (run s (at_leasts q (vertices_of pairs))) (pairs_clause q pairs) (clause_fails q (run s (at_leasts q (vertices_of pairs))) pairs are))

  short : (base : Setting) (d : Domains) (b : Option ℕ) (p : ℕ) (vertices values : List ℕ) → HaveOnly q b d (p ∷ vertices) values → length values < length (p ∷ vertices)
      → EndsAt (variable q) (size q.target) base d (λ r. is_among r (p ∷ vertices)) (set_form q b p vertices values ∷ [])
  short base d b p vertices values only fewer s above out =
      conflict_refutes s (set_form q b p vertices values) (no_solution s (set_form q b p vertices values) (set_sorted b p vertices values)
      (λ a follows holds. let enough = enough_values q b a p vertices values only.members only.distinct only.vertices_in (true_within s b d a p vertices values only out follows) holds in omega (arith, enough, fewer)))

  true_within_setting : (s t : Setting) (path : List (ℕ × ℕ)) → Within s t → AreTrue q s path → AreTrue q t path
  true_within_setting s t [] above h = tt
  true_within_setting s t (x ∷ xs) above h = (above (variable q x.0 x.1) true h.0, true_within_setting s t xs above h.1)

  path_set : (s : Setting) (path : List (ℕ × ℕ)) (p u : ℕ) → AreTrue q s path → AreSet q s (IsPair p u) (path ++ (p, u) ∷ [])
  path_set s [] p u h = (inl (refl, refl), tt)
  path_set s (x ∷ xs) p u h = (inr h.0, path_set s xs p u h.1)

  -- The clauses of refuted values lead to a setting where each is false.
  values_lead : (s : Setting) (path : List (ℕ × ℕ)) (p : ℕ) (values : List ℕ) → AreTrue q s path → Leads s (value_clauses q path p values) (λ t. (u : ℕ) → is_among u values ≡ true → t (variable q p u) ≡ Some false)
  values_lead s path p [] h = inr (λ u among. absurd cc)
  values_lead s path p (w ∷ ws) h = by (λ k. values_lead (after s (pairs_clause q (path ++ (p, w) ∷ []))) path p ws k) (clause_forces q s p w (path ++ (p, w) ∷ []) (path_set s path p w h))
    where
      or_true : (b c : Bool) → c ≡ true → (b || c) ≡ true
      or_true true c e = refl
      or_true false c e = e

      by : (AreTrue q (after s (pairs_clause q (path ++ (p, w) ∷ []))) path → Leads (after s (pairs_clause q (path ++ (p, w) ∷ []))) (value_clauses q path p ws) (λ t. (u : ℕ) → is_among u ws ≡ true → t (variable q p u) ≡ Some false))
          → (conflict s (pairs_clause q (path ++ (p, w) ∷ [])) ≡ true) ⊎ (after s (pairs_clause q (path ++ (p, w) ∷ [])) (variable q p w) ≡ Some false)
          → Leads s (value_clauses q path p (w ∷ ws)) (λ t. (u : ℕ) → is_among u (w ∷ ws) ≡ true → t (variable q p u) ≡ Some false)
      by later (inl c) = inl (ap (λ (b : Bool). b || refutes (after s (pairs_clause q (path ++ (p, w) ∷ []))) (value_clauses q path p ws)) c)
      by later (inr is) = rest (later (true_within_setting s (after s (pairs_clause q (path ++ (p, w) ∷ []))) path (after_keeps s (pairs_clause q (path ++ (p, w) ∷ []))) h))
        where
          rest : Leads (after s (pairs_clause q (path ++ (p, w) ∷ []))) (value_clauses q path p ws) (λ t. (u : ℕ) → is_among u ws ≡ true → t (variable q p u) ≡ Some false)
              → Leads s (value_clauses q path p (w ∷ ws)) (λ t. (u : ℕ) → is_among u (w ∷ ws) ≡ true → t (variable q p u) ≡ Some false)
          rest (inl refuted) = inl (or_true (conflict s (pairs_clause q (path ++ (p, w) ∷ []))) (refutes (after s (pairs_clause q (path ++ (p, w) ∷ []))) (value_clauses q path p ws)) refuted)
          rest (inr gone) = inr (λ u among. at u (or_cases (w == u) (is_among u ws) among))
            where
              at : (u : ℕ) → ((w == u) ≡ true) ⊎ (is_among u ws ≡ true) → run (after s (pairs_clause q (path ++ (p, w) ∷ []))) (value_clauses q path p ws) (variable q p u) ≡ Some false
              at u (inl e) =
                  let same : w ≡ u = eqb-true w u e in
                  subst (λ (v : ℕ). run (after s (pairs_clause q (path ++ (p, w) ∷ []))) (value_clauses q path p ws) (variable q p v) ≡ Some false) same
                  (run_keeps (after s (pairs_clause q (path ++ (p, w) ∷ []))) (value_clauses q path p ws) (variable q p w) false is)
              at u (inr later_) = gone u later_

  refuted : (base : Setting) (d : Domains) (p : ℕ) (path : List (ℕ × ℕ)) (values : List ℕ) → AreTrue q base path → ((u : ℕ) → u < size q.target → d p u ≡ true → is_among u values ≡ true)
      → EndsAt (variable q) (size q.target) base d (λ r. r == p) (value_clauses q path p values ++ at_least q p ∷ [])
  refuted base d p path values path_true only s above out =
      leads_to_end s (value_clauses q path p values) (at_least q p ∷ []) (λ t. (u : ℕ) → is_among u values ≡ true → t (variable q p u) ≡ Some false)
      (values_lead s path p values (true_within_setting base s path above path_true))
      (λ gone. conflict_refutes (run s (value_clauses q path p values)) (at_least q p) (at_least_fails q (run s (value_clauses q path p values)) p (λ u u_in. by gone u u_in (d p u) refl)))
    where
      by : ((u : ℕ) → is_among u values ≡ true → run s (value_clauses q path p values) (variable q p u) ≡ Some false) → (u : ℕ) → u < size q.target → (b : Bool) → d p u ≡ b
          → run s (value_clauses q path p values) (variable q p u) ≡ Some false
      by gone u u_in true there = gone u (only u u_in there)
      by gone u u_in false was = run_keeps s (value_clauses q path p values) (variable q p u) false (out p (eq-eqb p p refl) u u_in was)

  pub change_laws : ChangeLaws q
  change_laws = record { first = first; guess = guess; vertex = vertex; nogood = nogood; edge = edge; counted = counted; over = over }

  pub end_laws : EndLaws q
  end_laws = record { empty = empty; whole = whole; short = short; refuted = refuted }
