-- The lines of a crowd: the sum of its constraints, and the clause that follows.
use Rattle.std.proofs.Common.{◌≡◌, ℕ, zero, suc, ◌+◌, ◌^◌, ◌<◌, ◌≤◌, Bool, true, false, ◌||◌, cond, List, [], ◌∷◌, ◌++◌, length, map, ℤ, pos, negsuc, unsigned_abs, refl, sym, ap, ◌∙◌, arith, Option, Some, None, Result, Ok, Err, inl, inr, ◌⊎◌}
use Rattle.std.proofs.lemmas.Bool.{eq-eqb}
use Rattle.graph_theory.specs.Graph.{size}
use Rattle.graph_theory.specs.Embedding.{Problem}
use Rattle.graph_theory.specs.Blocks.{in_block}
use Rattle.proof_theory.specs.Forms.{Form, Holds, Rises, size as size_of_terms}
use Rattle.proof_theory.specs.Slack.{Setting, conflict, after, refutes, negations}
use Rattle.proof_theory.proofs.Sorting.{Rises-sorted}
use Rattle.pb_terms.proofs.Ruled.{size-sorted}
use Rattle.log_theory.specs.declared.step.Name.{Name}
use Rattle.log_theory.specs.declared.step.Ref.{Ref}
use Rattle.log_theory.specs.declared.step.Step.TheVariants.{P, U}
use Rattle.log_theory.specs.declared.step.Cause.{Cause}
use Rattle.log_theory.specs.declared.step.Cause.TheVariants.{NoSuchName, NoConflict}
use Rattle.log_theory.specs.Steps.{◌>>=◌, unless, or_fault}
use Rattle.log_theory.specs.Lookups.{Lookup, find_all, makes}
use Rattle.encoding_theory.specs.Variables.{variable, when}
use Rattle.encoding_theory.specs.Pairs.{is_compatible}
use Rattle.encoding_theory.specs.Encoding.{terms_where, at_most_in, refusal, pair_form}
use Rattle.encoding_theory.proofs.FormMeanings.{refused_false}
use Rattle.forcing_theory.specs.Sums.{IsSmall, AreSmall}
use Rattle.forcing_theory.specs.Chains.{run}
use Rattle.forcing_theory.proofs.Uniting.{unit}
use Rattle.forcing_theory.proofs.Chaining.{run_keeps}
use Rattle.forcing_theory.proofs.Summing.{sums}
use Rattle.explanation_theory.specs.Reasons.{not_there}
use Rattle.explanation_theory.proofs.Giving.{Leads, leads_to_end, no_solution}
use Rattle.explanation_theory.proofs.Explaining.{conflict_refutes}
use Rattle.explanation_theory.proofs.SetCounting.{sum_rises}
use Rattle.domain_line_theory.specs.Sums.{summed, summing_all}
use Rattle.domain_line_theory.specs.Crowds.{refused_pairs, crowd_forms, IsOneOf, IsCrowded}
use Rattle.domain_line_theory.specs.Laws.{ValueLaws}
use Rattle.domain_line_theory.proofs.CrowdCounting.{no_room}

-- ---- sizes

size-append : (xs ys : List (ℕ × ℤ)) → size_of_terms (xs ++ ys) ≡ size_of_terms xs + size_of_terms ys
size-append [] ys = omega arith
size-append (x ∷ xs) ys = let h = size-append xs ys in omega (arith, h)

size-when : (b : Bool) (v : ℕ) (c : ℤ) → unsigned_abs c ≤ 1 → size_of_terms (when b ((v, c) ∷ [])) ≤ 1
size-when true v c small = omega (arith, small)
size-when false v c small = omega arith

terms_few : (c : ℤ) (test : ℕ → Bool) (number : ℕ → ℕ) (n : ℕ) → unsigned_abs c ≤ 1 → size_of_terms (terms_where c test number n) ≤ n
terms_few c test number zero small = omega arith
terms_few c test number (suc n) small =
    let h = terms_few c test number n small in
    let e = size-append (terms_where c test number n) (when (test n) ((number n, c) ∷ [])) in
    let w = size-when (test n) (number n) c small in
    omega (arith, h, e, w)

pair_small : (q : Problem) (p r u : ℕ) → size q.target ≤ 8192 → IsSmall (2 ^ 14) (pair_form q p r u)
pair_small q p r u few = record {
  bound_fits = omega arith;
  sum_fits =
      let l = size-sorted ((variable q p u, negsuc 0) ∷ terms_where (pos 1) (is_compatible q p u r) (variable q r) (size q.target)) in
      let f = terms_few (pos 1) (is_compatible q p u r) (variable q r) (size q.target) (omega arith) in
      omega (arith, l, f, few);
}

block_small : (q : Problem) (b : Option ℕ) (u : ℕ) → size q.pattern ≤ 1024 → IsSmall (2 ^ 14) (at_most_in q b u)
block_small q b u few = record {
  bound_fits = omega arith;
  sum_fits =
      let l = size-sorted (terms_where (negsuc 0) (in_block q b) (λ p. variable q p u) (size q.pattern)) in
      let f = terms_few (negsuc 0) (in_block q b) (λ p. variable q p u) (size q.pattern) (omega arith) in
      omega (arith, l, f, few);
}

pub crowd_small : (q : Problem) (b : Option ℕ) (p u : ℕ) (vertices values : List ℕ) → size q.pattern ≤ 1024 → size q.target ≤ 8192 → AreSmall (2 ^ 14) (crowd_forms q b p u vertices values)
crowd_small q b p u [] [] few many = tt
crowd_small q b p u [] (w ∷ ws) few many = (block_small q b w few, crowd_small q b p u [] ws few many)
crowd_small q b p u (r ∷ rs) values few many = (pair_small q p r u many, crowd_small q b p u rs values few many)

-- ---- a sum over all references

-- As many references as forms.
found_long : (look : Lookup) (refs : List Ref) (fs : List Form) → find_all look refs ≡ Ok fs → length fs ≡ length refs
found_long look [] [] e = refl
found_long look [] (f ∷ fs) e = absurd cc
found_long look (r ∷ rs) fs e = by (look r) (find_all look rs) refl (found_long look rs) e
  where
    by : (o : Option Form) (x : Result (List Form) Cause) → find_all look rs ≡ x → ((gs : List Form) → find_all look rs ≡ Ok gs → length gs ≡ length rs)
        → (or_fault o NoSuchName >>= λ f. x >>= λ gs. Ok (f ∷ gs)) ≡ Ok fs → length fs ≡ length (r ∷ rs)
    by (Some g) (Ok gs) are later h = let same : g ∷ gs ≡ fs = cc in let l = later gs are in sym (ap length same) ∙ ap suc l
    by None x are later h = absurd cc
    by (Some g) (Err c) are later h = absurd cc

-- The sum of forms that are not large is made.
pub sum_made : (look : Lookup) (name : Name) (refs : List Ref) (fs : List Form) → length refs < 2 ^ 64 → 0 < length fs → AreSmall (2 ^ 14) fs → find_all look refs ≡ Ok fs
    → makes look (P name (summing_all refs)) ≡ Ok (summed fs)
sum_made look name refs [] short some small found = absurd (omega (arith, some))
sum_made look name [] (f ∷ fs) short some small found = absurd cc
sum_made look name (r ∷ rs) (f ∷ fs) short some small found =
    let long = found_long look (r ∷ rs) (f ∷ fs) found in
    sums.made look name r rs f fs (2 ^ 14) found small (omega (arith, long, short))

-- ---- refused pairs

pub refusal_forces : (q : Problem) (s : Setting) (p u : ℕ) → (conflict s (refusal q p u) ≡ true) ⊎ (after s (refusal q p u) (variable q p u) ≡ Some false)
refusal_forces q s p u = unit s (refusal q p u) (variable q p u) false (record {
  rises = Rises-sorted ((variable q p u, negsuc 0) ∷ []);
  there = λ a follows holds. by a holds (a (variable q p u)) refl;
})
  where
    by : (a : ℕ → Bool) → Holds (refusal q p u) a → (b : Bool) → a (variable q p u) ≡ b → a (variable q p u) ≡ false
    by a holds true is = absurd (refused_false a (variable q p u) holds is)
    by a holds false is = is

-- Clauses of refused pairs lead to a setting where each is false.
pairs_lead : (q : Problem) (s : Setting) (pairs : List (ℕ × ℕ)) → Leads s (refused_pairs q pairs) (λ t. (r w : ℕ) → IsOneOf r w pairs → t (variable q r w) ≡ Some false)
pairs_lead q s [] = inr (λ r w one. absurd one)
pairs_lead q s (x ∷ xs) = by (pairs_lead q (after s (refusal q x.0 x.1)) xs) (refusal_forces q s x.0 x.1)
  where
    or_right : (b c : Bool) → c ≡ true → (b || c) ≡ true
    or_right true c e = refl
    or_right false c e = e

    by : Leads (after s (refusal q x.0 x.1)) (refused_pairs q xs) (λ t. (r w : ℕ) → IsOneOf r w xs → t (variable q r w) ≡ Some false)
        → (conflict s (refusal q x.0 x.1) ≡ true) ⊎ (after s (refusal q x.0 x.1) (variable q x.0 x.1) ≡ Some false)
        → Leads s (refused_pairs q (x ∷ xs)) (λ t. (r w : ℕ) → IsOneOf r w (x ∷ xs) → t (variable q r w) ≡ Some false)
    by later (inl c) = inl (ap (λ (b : Bool). b || refutes (after s (refusal q x.0 x.1)) (refused_pairs q xs)) c)
    by (inl refuted) (inr is) = inl (or_right (conflict s (refusal q x.0 x.1)) (refutes (after s (refusal q x.0 x.1)) (refused_pairs q xs)) refuted)
    by (inr gone) (inr is) = inr (λ r w one. at r w one)
      where
        at : (r w : ℕ) → ((x.0 ≡ r) × (x.1 ≡ w)) ⊎ IsOneOf r w xs → run (after s (refusal q x.0 x.1)) (refused_pairs q xs) (variable q r w) ≡ Some false
        at r w (inl same) =
            ap (λ (v : ℕ). run (after s (refusal q x.0 x.1)) (refused_pairs q xs) (variable q v w)) (sym same.0)
            ∙ ap (λ (v : ℕ). run (after s (refusal q x.0 x.1)) (refused_pairs q xs) (variable q x.0 v)) (sym same.1)
            ∙ run_keeps (after s (refusal q x.0 x.1)) (refused_pairs q xs) (variable q x.0 x.1) false is
        at r w (inr later_) = gone r w later_

-- ---- the clause

module _ (q : Problem) (b : Option ℕ) (p u : ℕ) (vertices values : List ℕ) (refused : List (ℕ × ℕ)) (crowd : IsCrowded q b p u vertices values refused) where
  -- The setting in which p is at u.
  there : Setting
  there = negations (not_there q (p, u) ∷ [])

  set_there : there (variable q p u) ≡ Some true
  unfolding there
  set_there = ap (λ (b : Bool). let o : Option Bool = cond b (Some true) None in o) (eq-eqb (variable q p u) (variable q p u) refl)

  refuted : refutes there (refused_pairs q refused ++ summed (crowd_forms q b p u vertices values) ∷ []) ≡ true
  refuted =
      leads_to_end there (refused_pairs q refused) (summed (crowd_forms q b p u vertices values) ∷ []) (λ t. (r w : ℕ) → IsOneOf r w refused → t (variable q r w) ≡ Some false)
      (pairs_lead q there refused)
      (λ gone. conflict_refutes (run there (refused_pairs q refused)) (summed (crowd_forms q b p u vertices values))
      (no_solution (run there (refused_pairs q refused)) (summed (crowd_forms q b p u vertices values)) (crowd_rises vertices)
      (λ a follows holds. no_room q b a p u vertices values refused crowd
      (λ r w one. follows.same (variable q r w) false (gone r w one))
      (follows.same (variable q p u) true (run_keeps there (refused_pairs q refused) (variable q p u) true set_there)) holds)))
    where
      crowd_rises : (rs : List ℕ) → Rises 0 (summed (crowd_forms q b p u rs values)).terms
      crowd_rises (r ∷ rs) =
          sum_rises (pair_form q p r u) (crowd_forms q b p u rs values) (Rises-sorted ((variable q p u, negsuc 0) ∷ terms_where (pos 1) (is_compatible q p u r) (variable q r) (size q.target)))
      crowd_rises [] = by values
        where
          by : (ws : List ℕ) → Rises 0 (summed (map (at_most_in q b) ws)).terms
          by [] = tt
          by (w ∷ ws) = sum_rises (at_most_in q b w) (map (at_most_in q b) ws) (Rises-sorted (terms_where (negsuc 0) (in_block q b) (λ v. variable q v w) (size q.pattern)))

  pub value_refuted : refutes (negations (not_there q (p, u) ∷ [])) (refused_pairs q refused ++ summed (crowd_forms q b p u vertices values) ∷ []) ≡ true
  unfolding there
  value_refuted = refuted

  pub clause_made : (look : Lookup) (name : Name) (refs : List Ref) → find_all look refs ≡ Ok (refused_pairs q refused ++ summed (crowd_forms q b p u vertices values) ∷ [])
      → makes look (U name (not_there q (p, u) ∷ []) refs) ≡ Ok (refusal q p u)
  clause_made look name refs found =
      ap (λ (x : Result (List Form) Cause). x >>= λ fs. unless (refutes (negations (not_there q (p, u) ∷ [])) fs) NoConflict >>= λ _. Ok (refusal q p u)) found
      ∙ ap (λ (b : Bool). unless b NoConflict >>= λ _. Ok (refusal q p u)) value_refuted

pub value_laws : (q : Problem) → ValueLaws q
value_laws q = record {
  sum = λ look name refs b p u vertices values few many short some found. sum_made look name refs (crowd_forms q b p u vertices values) short (nonempty q b p u values vertices some) (crowd_small q b p u vertices values few many) found;
  clause = λ look name refs b p u vertices values refused crowd found. clause_made q b p u vertices values refused crowd look name refs found;
}
  where
    nonempty : (q : Problem) (b : Option ℕ) (p u : ℕ) (values vertices : List ℕ) → 0 < length vertices → 0 < length (crowd_forms q b p u vertices values)
    nonempty q b p u values [] some = absurd (omega (arith, some))
    nonempty q b p u values (r ∷ rs) some = omega arith
