-- Two vertices that are not both at a place: the clause follows from the place's own line, and where they are all that is shared it is the line of a few.
use Rattle.std.proofs.Common.{◌≡◌, ℕ, suc, ◌+◌, ◌<◌, ◌≤◌, ◌==◌, Bool, true, false, ◌&&◌, ◌||◌, not, cond, List, [], ◌∷◌, map, ℤ, pos, negsuc, ◌+ℤ◌, ◌*ℤ◌, refl, sym, ap, ◌∙◌, arith, Option, Some, None, Result, Ok}
use Rattle.std.proofs.lemmas.Int.{ints}
use Rattle.std.proofs.lemmas.Bool.{eq-eqb, ne_eqb}
use native.Mathlib.Nat.{suc-mul, mul-le-mul_right}
use Rattle.graph_theory.specs.Graph.{size}
use Rattle.graph_theory.specs.Embedding.{Problem}
use Rattle.proof_theory.specs.Forms.{Form, Holds, value}
use Rattle.proof_theory.specs.Rules.{times_of, divide_of}
use Rattle.proof_theory.specs.Slack.{Setting, refutes, negations, axiom_form}
use Rattle.proof_theory.proofs.Sorting.{Rises-sorted, coefficient-value, same_terms, value-sorted}
use Rattle.pb_terms.proofs.Ruled.{same_form}
use Rattle.log_theory.specs.declared.step.Name.{Name}
use Rattle.log_theory.specs.declared.step.Step.TheVariants.{U}
use Rattle.log_theory.specs.declared.step.Cause.{Cause}
use Rattle.log_theory.specs.declared.step.Cause.TheVariants.{Twice, NoSuchName, NoConflict}
use Rattle.log_theory.specs.Steps.{◌>>=◌, unless, or_fault}
use Rattle.log_theory.specs.Lookups.{Lookup, are_distinct, variables_of, find_all, makes}
use Rattle.encoding_theory.specs.Variables.{variable}
use Rattle.encoding_theory.specs.Encoding.{every, terms_where, at_most_target, pair_form}
use Rattle.encoding_theory.proofs.Counting.{count_one}
use Rattle.explanation_theory.proofs.Giving.{no_solution}
use Rattle.explanation_theory.proofs.Explaining.{conflict_refutes}
use Rattle.pair_line_theory.specs.Operations.{sum_where}
use Rattle.pair_line_theory.specs.Rows.{target_line, is_shared, spread_form, there, not_both, not_both_form}
use Rattle.pair_line_theory.specs.Laws.{IsPlace, AreTwoShared}
use Rattle.pair_line_theory.proofs.Totals.{one_if, only_two}
use Rattle.pair_line_theory.proofs.Values.{one_less, scaled, held_at, worth_target, bound_where, rises_where}
use Rattle.pair_line_theory.proofs.Spreading.{few_form, worth_held, spread_exact}

-- ---- the clause

module _ (q : Problem) (m n w : ℕ) (order : m < n) (w_in : w < size q.target) where
  apart : variable q m w ≡ variable q n w → ⊥
  apart e =
      let row = mul-le-mul_right {m = suc m} {n = n} (size q.target) (omega (arith, order)) in
      let next = suc-mul m (size q.target) in
      omega (arith, e, row, next, w_in)

  pub distinct : are_distinct (variables_of (not_both q m n w)) ≡ true
  distinct = ap (λ (b : Bool). not (b || false) && true) (ne_eqb (variable q n w) (variable q m w) (λ (e : variable q n w ≡ variable q m w). apart (sym e)))

  -- The setting in which both are there.
  both : Setting
  both = negations (not_both q m n w)

  first_set : both (variable q m w) ≡ Some true
  unfolding both
  first_set =
      ap (λ (b : Bool). let o : Option Bool = cond b (Some true) (cond (variable q n w == variable q m w) (Some true) None) in o) (eq-eqb (variable q m w) (variable q m w) refl)

  second_set : both (variable q n w) ≡ Some true
  unfolding both
  second_set =
      ap (λ (b : Bool). let o : Option Bool = cond b (Some true) (cond (variable q n w == variable q n w) (Some true) None) in o) (ne_eqb (variable q m w) (variable q n w) apart)
      ∙ ap (λ (b : Bool). let o : Option Bool = cond b (Some true) None in o) (eq-eqb (variable q n w) (variable q n w) refl)

  module _ (n_in : n < size q.pattern) where
    never : (a : ℕ → Bool) → a (variable q m w) ≡ true → a (variable q n w) ≡ true → Holds (at_most_target q w) a → ⊥
    never a first second holds =
        let h = (worth_target q a w).worth in
        let reached = holds.reached in
        let few : held_at q a w ≤ 1 = omega (arith, ints) in
        let same = count_one (λ v. every v && a (variable q v w)) (size q.pattern) m n few (omega (arith, order, n_in)) n_in first second in
        omega (arith, same, order)

    both_refuted : refutes both (at_most_target q w ∷ []) ≡ true
    both_refuted = conflict_refutes both (at_most_target q w)
        (no_solution both (at_most_target q w) (Rises-sorted (terms_where (negsuc 0) every (λ v. variable q v w) (size q.pattern)))
        (λ a follows holds. never a (follows.same (variable q m w) true first_set) (follows.same (variable q n w) true second_set) holds))

    refuted : refutes (negations (not_both q m n w)) (at_most_target q w ∷ []) ≡ true
    unfolding both
    refuted = both_refuted

    pub not_both_made : (look : Lookup) (name : Name) → look (target_line q w) ≡ Some (at_most_target q w) → makes look (U name (not_both q m n w) (target_line q w ∷ [])) ≡ Ok (not_both_form q m n w)
    not_both_made look name found =
        ap (λ (b : Bool). unless b Twice >>= λ _. find_all look (target_line q w ∷ []) >>= λ fs. unless (refutes (negations (not_both q m n w)) fs) NoConflict >>= λ _. let x : Result Form Cause = Ok (not_both_form q m n w) in x) distinct
        ∙ ap (λ (x : Result (List Form) Cause). x >>= λ fs. unless (refutes (negations (not_both q m n w)) fs) NoConflict >>= λ _. let y : Result Form Cause = Ok (not_both_form q m n w) in y) found_all
        ∙ ap (λ (b : Bool). unless b NoConflict >>= λ _. let x : Result Form Cause = Ok (not_both_form q m n w) in x) refuted
      where
        found_all : find_all look (target_line q w ∷ []) ≡ Ok (at_most_target q w ∷ [])
        found_all = ap (λ (o : Option Form). or_fault o NoSuchName >>= λ f. let x : Result (List Form) Cause = Ok (f ∷ []) in x) found

-- ---- all that is shared

value_not_both : (q : Problem) (a : ℕ → Bool) (m n w : ℕ) → value a (not_both_form q m n w).terms +ℤ pos (one_if (a (variable q m w)) + one_if (a (variable q n w))) ≡ pos 0
value_not_both q a m n w =
    let e = value-sorted a ((variable q m w, negsuc 0) ∷ (variable q n w, negsuc 0) ∷ []) in
    let f = one_less (a (variable q m w)) in
    let s = one_less (a (variable q n w)) in
    omega (arith, ints)

pub few_two : (q : Problem) (p r m n w : ℕ) → AreTwoShared q.pattern p r m n → few_form q p r w ≡ not_both_form q m n w
few_two q p r m n w two =
    same_form (few_form q p r w).terms (not_both_form q m n w).terms (few_form q p r w).bound (not_both_form q m n w).bound
    (same_terms 0 (few_form q p r w).terms (not_both_form q m n w).terms
    (rises_where (λ v. not (is_shared q.pattern p r v)) (λ v. axiom_form (there q w v)) (at_most_target q w) (size q.pattern) (Rises-sorted _)) (Rises-sorted _)
    (λ v. coefficient-value (few_form q p r w).terms v ∙ same_value (λ u. u == v) ∙ sym (coefficient-value (not_both_form q m n w).terms v)))
    (bound_where (λ v. not (is_shared q.pattern p r v)) (λ v. axiom_form (there q w v)) (at_most_target q w) (size q.pattern) (λ v. refl))
  where
    same_value : (a : ℕ → Bool) → value a (few_form q p r w).terms ≡ value a (not_both_form q m n w).terms
    same_value a =
        let h = (worth_held q p r w 1 a).worth in
        let k = value_not_both q a m n w in
        let e = only_two (is_shared q.pattern p r) (λ v. a (variable q v w)) (size q.pattern) m n two.order two.below two.first two.second two.counted in
        omega (arith, ints)

-- ---- once is the same

once : (c : ℤ) → c *ℤ pos 1 ≡ c
once (pos x) = let h = scaled (pos x) 0 x 1 (let z : pos x +ℤ pos 0 ≡ pos x = omega (arith, ints) in z) in omega (arith, ints)
once (negsuc x) = let h = scaled (negsuc x) (suc x) 0 1 (let z : negsuc x +ℤ pos (suc x) ≡ pos 0 = omega (arith, ints) in z) in omega (arith, ints)

terms_once : (ts : List (ℕ × ℤ)) → map (λ (t : ℕ × ℤ). (t.0, t.1 *ℤ pos 1)) ts ≡ ts
terms_once [] = refl
terms_once (t ∷ ts) =
    ap (λ (c : ℤ). let u : ℕ × ℤ = (t.0, c) in u ∷ map (λ (x : ℕ × ℤ). (x.0, x.1 *ℤ pos 1)) ts) (once t.1) ∙ ap (λ (us : List (ℕ × ℤ)). t ∷ us) (terms_once ts)

times_once : (f : Form) → times_of 1 f ≡ f
times_once f = same_form (times_of 1 f).terms f.terms (times_of 1 f).bound f.bound (terms_once f.terms) (once f.bound)

-- What two shared neighbours sum up to is divided without a remainder.
pub two_exact : (q : Problem) (p r m n w : ℕ) → IsPlace q p w r → AreTwoShared q.pattern p r m n
    → divide_of 2 (sum_where (is_shared q.pattern p r) (λ m. pair_form q m r w) (few_form q p r w) (size q.pattern)) ≡ spread_form q p r w
two_exact q p r m n w place two =
    ap (λ (f : Form). divide_of 2 (sum_where (is_shared q.pattern p r) (λ m. pair_form q m r w) f (size q.pattern))) (sym (times_once (few_form q p r w)))
    ∙ spread_exact q p r w 1 place two.counted (omega arith)
