-- How the calls that give the lines of single values fit together.
use Rattle.std.proofs.Common.{◌≡◌, ℕ, suc, ◌+◌, ◌*◌, ◌^◌, ◌<◌, ◌≤◌, ◌==◌, nat_lt, nat_le, Bool, true, false, ◌&&◌, ◌||◌, not, is_some, List, [], ◌∷◌, ◌++◌, length, refl, sym, ap, subst, ◌∙◌, arith, Option, Some, None, Result, Ok, Err, inl, inr, ◌⊎◌}
use Rattle.std.proofs.lemmas.Bool.{cases_eq, lt-ltb, le-leb, and_from, eq-eqb}
use Rattle.std.specs.declared.alloc.AllocError.{AllocError}
use Rattle.std.specs.Prelude.{IfNone}
use Rattle.std.specs.Result.{IsErr}
use native.Mathlib.Nat.{mul-le-mul_right, suc-mul}
use Rattle.graph_theory.specs.Graph.{size}
use Rattle.graph_theory.specs.Embedding.{Problem}
use Rattle.search_theory.specs.Consistency.{IsFirstValue}
use Rattle.graph_theory.specs.Reversed.{reversed_problem, turned_problem, AreMutual}
use Rattle.graph_theory.specs.declared.direction.Direction.{Direction}
use Rattle.graph_theory.proofs.ReversedGraphs.{sequence-mutual}
use Rattle.graph_theory.proofs.AskedMutual.{asked_degree-mutual, room-mutual, asked_sequence-mutual}
use Rattle.encoding_theory.specs.Pairs.{is_allowed}
use Rattle.encoding_theory.proofs.PairTests.{allowed_from}
use Rattle.domain_line_theory.proofs.FirstValues.{refusals_small, forces_first}
use Rattle.proof_theory.specs.Forms.{Form}
use Rattle.proof_theory.specs.Slack.{refutes, negations}
use Rattle.log_theory.specs.declared.step.Name.{Name}
use Rattle.log_theory.specs.declared.step.Ref.{Ref}
use Rattle.log_theory.specs.declared.step.Ref.TheVariants.{Made}
use Rattle.log_theory.specs.declared.step.Step.{Step}
use Rattle.log_theory.specs.LogText.{AreRefs, IsRef}
use Rattle.log_theory.specs.Lookups.{is_among}
use Rattle.log_theory.specs.Verdicts.{in_range}
use Rattle.encoding_theory.specs.Variables.{variable, variables}
use Rattle.encoding_theory.specs.Encoding.{refusal, is_refused}
use Rattle.forcing_theory.specs.Sums.{sum_from}
use Rattle.explanation_theory.specs.Reasons.{not_there}
use Rattle.log_growth.specs.Frames.{Frame, IsFrameOf, IsNamed, AreNamed, Goes, Lasts, AnyForms, Named, IsKept, IsAddable}
use Rattle.log_growth.proofs.Going.{goes_stay, goes_then, goes_beside, goes_as}
use Rattle.log_growth.proofs.Naming.{named_later, are_named_later, named_pushed, named_count}
use Rattle.domain_line_theory.specs.Sums.{summed}
use Rattle.domain_line_theory.specs.Crowds.{refused_pairs, refused_values, crowd_forms, is_high, high_neighbours, high_count, high_places, place_count, crowd_block, HasAllLower}
use Rattle.domain_line_theory.proofs.Crowding.{value_refuted}
use Rattle.domain_line_theory.proofs.HighNeighbours.{members_count, crowded}
use Rattle.domain_lines.proofs.Turning.{frame_turned}
use Rattle.domain_lines.proofs.Crowds.{crowd_long, pairs_none}
use Rattle.domain_lines.specs.declared.value_clauses.Lack.{Lack}
use Rattle.domain_lines.specs.Named.{AreUnits}
use Rattle.domain_lines.specs.Given.{IsFrameFor, IsGiven, IsMade, HasPairs, ArePushed, IsSeen, IsLarge, HasValues, AreCollected, IsFirstLine, IsCrowd}

-- ---- ranges

-- A variable of the problem is in range.
pub variable_in : (q r : Problem) (p u : ℕ) → variables r ≡ variables q → p < size q.pattern → u < size q.target → in_range (variables r) (variable q p u ∷ []) ≡ true
variable_in q r p u same p_in u_in =
    let m : suc p * size q.target ≤ size q.pattern * size q.target = mul-le-mul_right (size q.target) (let e : suc p ≤ size q.pattern = omega (arith, p_in) in e) in
    let s = suc-mul p (size q.target) in
    ap (λ (n : ℕ). in_range n (variable q p u ∷ [])) same
    ∙ and_from (nat_lt 0 (variable q p u) && nat_le (variable q p u) (variables q)) true
    (and_from (nat_lt 0 (variable q p u)) (nat_le (variable q p u) (variables q)) (lt-ltb 0 (variable q p u) (omega arith)) (le-leb (variable q p u) (variables q) (omega (arith, m, s, u_in)))) refl

pub refs_pushed : (rs : List Ref) (r : Ref) → AreRefs rs → IsRef r → AreRefs (rs ++ r ∷ [])
refs_pushed [] r fits one = (one, tt)
refs_pushed (x ∷ xs) r fits one = (fits.0, refs_pushed xs r fits.1 one)

-- ---- what lasts

pub units_last : (w : Frame) (named : List (ℕ × Name)) → Lasts (AreUnits w named)
units_last w named forms more units = λ v n at. named_later w forms more (Made n) _ (units v n at)

pub named_last : (w : Frame) (rs : List Ref) (fs : List Form) → Lasts (Named w rs fs)
named_last w rs fs forms more named = are_named_later w forms more rs fs named

pub kept_err : (w : Frame) (result : Result Name AllocError) (f : Form) (forms : List Form) → IsErr result → IsKept w result f forms
kept_err w (Err e) f forms h = tt
kept_err w (Ok n) f forms h = absurd cc

pub given_err : (w : Frame) (result : Result Ref AllocError) (f : Form) (named : List (ℕ × Name)) (forms : List Form) → IsErr result → IsGiven w result f named forms
given_err w (Err e) f named forms h = tt
given_err w (Ok n) f named forms h = absurd cc

pub made_err : (w : Frame) (result : Result Name AllocError) (f : Form) (named : List (ℕ × Name)) (forms : List Form) → IsErr result → IsMade w result f named forms
made_err w (Err e) f named forms h = tt
made_err w (Ok n) f named forms h = absurd cc

pub pushed_err : {T : Type 0} (w : Frame) (q : Problem) (result : Result T AllocError) (refs : List Ref) (pairs : List (ℕ × ℕ)) (named : List (ℕ × Name)) (forms : List Form) → IsErr result → ArePushed w q result refs pairs named forms
pushed_err w q (Err e) refs pairs named forms h = tt
pushed_err w q (Ok n) refs pairs named forms h = absurd cc

pub seen_err : (w : Frame) (q : Problem) (p u : ℕ) (result : Result (Option Ref) AllocError) (named : List (ℕ × Name)) (forms : List Form) → IsErr result → IsSeen w q p u result named forms
seen_err w q p u (Err e) named forms h = tt
seen_err w q p u (Ok n) named forms h = absurd cc

pub collected_err : {T : Type 0} (w : Frame) (q : Problem) (p : ℕ) (result : Result T AllocError) (refs : List Ref) (n : ℕ) (named : List (ℕ × Name)) (forms : List Form) → IsErr result → AreCollected w q p result refs n named forms
collected_err w q p (Err e) refs n named forms h = tt
collected_err w q p (Ok x) refs n named forms h = absurd cc

pub line_err : (w : Frame) (q : Problem) (p : ℕ) (result : Result (Option Name) AllocError) (named : List (ℕ × Name)) (forms : List Form) → IsErr result → IsFirstLine w q p result named forms
line_err w q p (Err e) named forms h = tt
line_err w q p (Ok n) named forms h = absurd cc

-- ---- a sum and its clause

module _ (w : Frame) (a b : Option (List Step)) (crowd clauses : List Ref) (before fs : List Form) (addable : IsAddable fs) (some : 0 < length fs) (named : (forms : List Form) → AreNamed w forms crowd fs) where
  -- Whatever the sum's answer, behind the clauses.
  pub sum_beside : (result : Result Name AllocError) → ((f : Form) (gs : List Form) → IsAddable (f ∷ gs) → Goes w a b (Named w crowd (f ∷ gs)) (IsKept w result (sum_from f gs)))
      → Goes w a b (Named w clauses before) (λ forms. IsKept w result (summed fs) forms × Named w clauses before forms)
  sum_beside result goes = by fs addable some named
    where
      by : (gs : List Form) → IsAddable gs → 0 < length gs → ((forms : List Form) → AreNamed w forms crowd gs)
          → Goes w a b (Named w clauses before) (λ forms. IsKept w result (summed gs) forms × Named w clauses before forms)
      by [] add more all = absurd (omega (arith, more))
      by (g ∷ gs) add more all =
          goes_as w a b (λ forms. Named w crowd (g ∷ gs) forms × Named w clauses before forms) (λ forms. IsKept w result (sum_from g gs) forms × Named w clauses before forms) (Named w clauses before)
          (λ forms. IsKept w result (sum_from g gs) forms × Named w clauses before forms)
          (λ forms are. (all forms, are)) (λ forms both. both)
          (goes_beside w a b (Named w crowd (g ∷ gs)) (IsKept w result (sum_from g gs)) (Named w clauses before) (named_last w clauses before) (goes g gs add))

  pub sum_fails : (result answer : Result Name AllocError) (f : Form) → IsErr answer → ((f : Form) (gs : List Form) → IsAddable (f ∷ gs) → Goes w a b (Named w crowd (f ∷ gs)) (IsKept w result (sum_from f gs)))
      → Goes w a b (Named w clauses before) (IsKept w answer f)
  sum_fails result answer f err goes =
      goes_as w a b (Named w clauses before) (λ forms. IsKept w result (summed fs) forms × Named w clauses before forms) (Named w clauses before) (IsKept w answer f)
      (λ forms are. are) (λ forms both. kept_err w answer f forms err) (sum_beside result goes)

  pub sum_then_clause : (c : Option (List Step)) (sum : Name) (refs : List Ref) (answer : Result Name AllocError) (f : Form) → refs ≡ clauses ++ Made sum ∷ []
      → ((f : Form) (gs : List Form) → IsAddable (f ∷ gs) → Goes w a b (Named w crowd (f ∷ gs)) (IsKept w (Ok sum) (sum_from f gs)))
      → Goes w b c (Named w refs (before ++ summed fs ∷ [])) (IsKept w answer f) → Goes w a c (Named w clauses before) (IsKept w answer f)
  sum_then_clause c sum refs answer f is goes next =
      goes_then w a b c (Named w clauses before) (Named w refs (before ++ summed fs ∷ [])) (IsKept w answer f)
      (goes_as w a b (Named w clauses before) (λ forms. IsKept w (Ok sum) (summed fs) forms × Named w clauses before forms) (Named w clauses before) (Named w refs (before ++ summed fs ∷ []))
      (λ forms are. are)
      (λ forms both. subst (λ (rs : List Ref). AreNamed w forms rs (before ++ summed fs ∷ [])) (sym is) (named_pushed w forms clauses before (Made sum) (summed fs) both.1 both.0))
      (sum_beside (Ok sum) goes))
      next

-- ---- clauses of pairs

append-map : (q : Problem) (xs ys : List (ℕ × ℕ)) → refused_pairs q (xs ++ ys) ≡ refused_pairs q xs ++ refused_pairs q ys
append-map q [] ys = refl
append-map q (x ∷ xs) ys = ap (λ (fs : List Form). refusal q x.0 x.1 ∷ fs) (append-map q xs ys)

-- One reference more.
pub pair_pushed : (w : Frame) (q : Problem) (a b : Option (List Step)) (r u : ℕ) (clause : Ref) (refs new : List Ref) (pairs : List (ℕ × ℕ)) (old now : List (ℕ × Name)) → new ≡ refs ++ clause ∷ []
    → Goes w a b (AreUnits w old) (IsGiven w (Ok clause) (refusal q r u) now) → Goes w a b (HasPairs w q refs pairs old) (HasPairs w q new (pairs ++ (r, u) ∷ []) now)
pair_pushed w q a b r u clause refs new pairs old now is goes =
    goes_as w a b (λ forms. AreUnits w old forms × Named w refs (refused_pairs q pairs) forms) (λ forms. IsGiven w (Ok clause) (refusal q r u) now forms × Named w refs (refused_pairs q pairs) forms)
    (HasPairs w q refs pairs old) (HasPairs w q new (pairs ++ (r, u) ∷ []) now)
    (λ forms has. (has.1, has.0))
    (λ forms both. (
      subst (λ (rs : List Ref). AreNamed w forms rs (refused_pairs q (pairs ++ (r, u) ∷ []))) (sym is)
          (subst (λ (fs : List Form). AreNamed w forms (refs ++ clause ∷ []) fs) (sym (append-map q pairs ((r, u) ∷ [])))
          (named_pushed w forms refs (refused_pairs q pairs) clause (refusal q r u) both.1 both.0.0)),
      both.0.1,
    ))
    (goes_beside w a b (AreUnits w old) (IsGiven w (Ok clause) (refusal q r u) now) (Named w refs (refused_pairs q pairs)) (named_last w refs (refused_pairs q pairs)) goes)

pub pair_fails : {T : Type 0} (w : Frame) (q : Problem) (a b : Option (List Step)) (f : Form) (given : Result Ref AllocError) (answer : Result T AllocError) (refs new : List Ref) (pairs more : List (ℕ × ℕ)) (old now : List (ℕ × Name)) → IsErr answer
    → Goes w a b (AreUnits w old) (IsGiven w given f now) → Goes w a b (HasPairs w q refs pairs old) (ArePushed w q answer new more now)
pair_fails w q a b f given answer refs new pairs more old now err goes =
    goes_as w a b (AreUnits w old) (IsGiven w given f now) (HasPairs w q refs pairs old) (ArePushed w q answer new more now) (λ forms has. has.1) (λ forms has. pushed_err w q answer new more now forms err) goes

-- ---- first domains

none_more : (w : Frame) (q : Problem) (p u : ℕ) (refs : List Ref) (now : List (ℕ × Name)) (forms : List Form) (old : List (ℕ × Name)) → HasValues w q p refs u old forms → IsFirstValue q p u → AreUnits w now forms
    → HasValues w q p refs (u + 1) now forms
none_more w q p u refs now forms old has is_first units = record {
  values = has.values;
  are_named = has.are_named;
  all = λ v v_in other. by v v_in other (cases_eq v u);
  units = units;
}
  where
    by : (v : ℕ) → v < u + 1 → (IsFirstValue q p v → ⊥) → (v ≡ u) ⊎ (v ≡ u → ⊥) → is_among v has.values ≡ true
    by v v_in other (inl same) = absurd (other (subst (λ (x : ℕ). IsFirstValue q p x) (sym same) is_first))
    by v v_in other (inr apart) = has.all v (omega (arith, v_in, apart)) other

among_more : (v : ℕ) (xs : List ℕ) (u : ℕ) → (is_among v xs ≡ true) ⊎ (u ≡ v) → is_among v (xs ++ u ∷ []) ≡ true
among_more v [] u (inl among) = absurd cc
among_more v [] u (inr same) = ap (λ (b : Bool). b || false) (eq-eqb u v same)
among_more v (x ∷ xs) u given = by (among_more v xs u) (x == v) given
  where
    by : ((is_among v xs ≡ true) ⊎ (u ≡ v) → is_among v (xs ++ u ∷ []) ≡ true) → (b : Bool) → ((b || is_among v xs) ≡ true) ⊎ (u ≡ v) → (b || is_among v (xs ++ u ∷ [])) ≡ true
    by later true h = refl
    by later false (inl among) = later (inl among)
    by later false (inr same) = later (inr same)

values-append : (q : Problem) (p : ℕ) (xs : List ℕ) (u : ℕ) → refused_values q p (xs ++ u ∷ []) ≡ refused_values q p xs ++ refusal q p u ∷ []
values-append q p [] u = refl
values-append q p (x ∷ xs) u = ap (λ (fs : List Form). refusal q p x ∷ fs) (values-append q p xs u)

one_more : (w : Frame) (q : Problem) (p u : ℕ) (refs new : List Ref) (r : Ref) (now : List (ℕ × Name)) (forms : List Form) (old : List (ℕ × Name)) → new ≡ refs ++ r ∷ [] → HasValues w q p refs u old forms → IsNamed w forms r (refusal q p u)
    → AreUnits w now forms → HasValues w q p new (u + 1) now forms
one_more w q p u refs new r now forms old is has named units = record {
  values = has.values ++ u ∷ [];
  are_named = subst (λ (rs : List Ref). AreNamed w forms rs (refused_values q p (has.values ++ u ∷ []))) (sym is)
      (subst (λ (fs : List Form). AreNamed w forms (refs ++ r ∷ []) fs) (sym (values-append q p has.values u)) (named_pushed w forms refs (refused_values q p has.values) r (refusal q p u) has.are_named named));
  all = λ v v_in other. among_more v has.values u (by v v_in other (cases_eq u v));
  units = units;
}
  where
    by : (v : ℕ) → v < u + 1 → (IsFirstValue q p v → ⊥) → (u ≡ v) ⊎ (u ≡ v → ⊥) → (is_among v has.values ≡ true) ⊎ (u ≡ v)
    by v v_in other (inl same) = inr same
    by v v_in other (inr apart) = inl (has.all v (omega (arith, v_in, apart)) other)

pub values_last : (w : Frame) (q : Problem) (p : ℕ) (refs : List Ref) (n : ℕ) (named : List (ℕ × Name)) → Lasts (HasValues w q p refs n named)
values_last w q p refs n named forms more has = record {
  values = has.values;
  are_named = are_named_later w forms more refs (refused_values q p has.values) has.are_named;
  all = has.all;
  units = units_last w named forms more has.units;
}

module _ (w : Frame) (q : Problem) (a b : Option (List Step)) (p u : ℕ) (refs : List Ref) (old now : List (ℕ × Name)) where
  -- The value's clause beside what was collected.
  beside : (result : Result (Option Ref) AllocError) → Goes w a b (AreUnits w old) (IsSeen w q p u result now)
      → Goes w a b (HasValues w q p refs u old) (λ forms. IsSeen w q p u result now forms × HasValues w q p refs u old forms)
  beside result goes =
      goes_as w a b (λ forms. AreUnits w old forms × HasValues w q p refs u old forms) (λ forms. IsSeen w q p u result now forms × HasValues w q p refs u old forms) (HasValues w q p refs u old)
      (λ forms. IsSeen w q p u result now forms × HasValues w q p refs u old forms) (λ forms has. (has.units, has)) (λ forms both. both)
      (goes_beside w a b (AreUnits w old) (IsSeen w q p u result now) (HasValues w q p refs u old) (values_last w q p refs u old) goes)

  pub value_passed : IsFirstValue q p u → Goes w a b (AreUnits w old) (IsSeen w q p u (Ok None) now) → Goes w a b (HasValues w q p refs u old) (HasValues w q p refs (u + 1) now)
  value_passed is_first goes =
      goes_as w a b (HasValues w q p refs u old) (λ forms. IsSeen w q p u (Ok None) now forms × HasValues w q p refs u old forms) (HasValues w q p refs u old) (HasValues w q p refs (u + 1) now)
      (λ forms has. has) (λ forms both. none_more w q p u refs now forms old both.1 is_first both.0) (beside (Ok None) goes)

  pub value_pushed : (r : Ref) (new : List Ref) → new ≡ refs ++ r ∷ [] → Goes w a b (AreUnits w old) (IsSeen w q p u (Ok (Some r)) now)
      → Goes w a b (HasValues w q p refs u old) (HasValues w q p new (u + 1) now)
  value_pushed r new is goes =
      goes_as w a b (HasValues w q p refs u old) (λ forms. IsSeen w q p u (Ok (Some r)) now forms × HasValues w q p refs u old forms) (HasValues w q p refs u old) (HasValues w q p new (u + 1) now)
      (λ forms has. has) (λ forms both. one_more w q p u refs new r now forms old is both.1 both.0.0 both.0.1) (beside (Ok (Some r)) goes)

  pub value_fails : {T : Type 0} (result : Result (Option Ref) AllocError) (answer : Result T AllocError) (new : List Ref) (n : ℕ) → IsErr answer → Goes w a b (AreUnits w old) (IsSeen w q p u result now)
      → Goes w a b (HasValues w q p refs u old) (AreCollected w q p answer new n now)
  value_fails result answer new n err goes =
      goes_as w a b (HasValues w q p refs u old) (λ forms. IsSeen w q p u result now forms × HasValues w q p refs u old forms) (HasValues w q p refs u old) (AreCollected w q p answer new n now)
      (λ forms has. has) (λ forms both. collected_err w q p answer new n now forms err) (beside result goes)

-- ---- the clause of a value

pub made_beside : (w : Frame) (a b c : Option (List Step)) (A B : List Form → Type 0) (answer : Result Name AllocError) (f : Form) (now : List (ℕ × Name)) → Goes w a b A (λ forms. B forms × AreUnits w now forms) → Goes w b c B (IsKept w answer f)
    → Goes w a c A (IsMade w answer f now)
made_beside w a b c A B answer f now first next =
    goes_then w a b c A (λ forms. B forms × AreUnits w now forms) (IsMade w answer f now) first
    (goes_as w b c (λ forms. B forms × AreUnits w now forms) (λ forms. IsKept w answer f forms × AreUnits w now forms) (λ forms. B forms × AreUnits w now forms) (IsMade w answer f now) (λ forms both. both)
    (λ forms both. by answer forms both) (goes_beside w b c B (IsKept w answer f) (AreUnits w now) (units_last w now) next))
  where
    by : (r : Result Name AllocError) (forms : List Form) → IsKept w r f forms × AreUnits w now forms → IsMade w r f now forms
    by (Ok n) forms both = both
    by (Err e) forms both = tt

pub remembered : (w : Frame) (a b : Option (List Step)) (n : Name) (given : Result Ref AllocError) (f : Form) (old now : List (ℕ × Name)) → Goes w a b AnyForms (IsKept w (Ok n) f)
    → ((forms : List Form) → AreUnits w old forms → IsNamed w forms (Made n) f → IsGiven w given f now forms) → Goes w a b (AreUnits w old) (IsGiven w given f now)
remembered w a b n given f old now goes keeps =
    goes_as w a b (λ forms. AnyForms forms × AreUnits w old forms) (λ forms. IsKept w (Ok n) f forms × AreUnits w old forms) (AreUnits w old) (IsGiven w given f now) (λ forms units. (tt, units))
    (λ forms both. keeps forms both.1 both.0) (goes_beside w a b AnyForms (IsKept w (Ok n) f) (AreUnits w old) (units_last w old) goes)

-- ---- the forms of a crowd

pub crowd_forms_some : (q : Problem) (p u d : ℕ) → place_count q u d < high_count q.pattern p d → 0 < length (crowd_forms q (crowd_block q p) p u (high_neighbours q.pattern p d) (high_places q u d))
crowd_forms_some q p u d fewer =
    let a = members_count (is_high q.pattern p d) (size q.pattern) in
    let l = crowd_long q (crowd_block q p) p u (high_neighbours q.pattern p d) (high_places q u d) in
    omega (arith, a, l, fewer)

-- Behind the clauses of the pairs that they need they refute the value.
pub crowd_refutes : (q : Problem) (p u d : ℕ) (pairs : List (ℕ × ℕ)) → place_count q u d < high_count q.pattern p d → HasAllLower q p u d pairs
    → refutes (negations (not_there q (p, u) ∷ [])) (refused_pairs q pairs ++ summed (crowd_forms q (crowd_block q p) p u (high_neighbours q.pattern p d) (high_places q u d)) ∷ []) ≡ true
crowd_refutes q p u d pairs fewer lower =
    value_refuted q (crowd_block q p) p u (high_neighbours q.pattern p d) (high_places q u d) pairs (crowded q p u d pairs fewer lower)

pub crowd_named : (q : Problem) (p u d : ℕ) (made refs : List Ref) (w : Frame) (owner : ℕ) (forms : List Form) → refs ≡ made → IsCrowd q p u d made → IsFrameFor q owner w
    → AreNamed w forms refs (crowd_forms q (crowd_block q p) p u (high_neighbours q.pattern p d) (high_places q u d))
crowd_named q p u d made refs w owner forms is crowd frame =
    subst (λ (rs : List Ref). AreNamed w forms rs (crowd_forms q (crowd_block q p) p u (high_neighbours q.pattern p d) (high_places q u d))) (sym is) (crowd.named w owner forms frame)

-- The owner stays.
pub frame_moved : (q : Problem) (old new : ℕ) (w : Frame) → new ≡ old → IsFrameOf q old w → IsFrameOf q new w
frame_moved q old new w same frame = record { problem_is = frame.problem_is; owner_is = frame.owner_is ∙ sym same; model = frame.model }

pub frame_for_moved : (q : Problem) (old new : ℕ) (w : Frame) → new ≡ old → IsFrameFor q old w → IsFrameFor q new w
frame_for_moved q old new w same frame = record { variables_are = frame.variables_are; owner_is = frame.owner_is ∙ sym same; model = frame.model }

pub refused_err : (w : Frame) (a b : Option (List Step)) (made : Result Name AllocError) (answer : Result Ref AllocError) (f : Form) (old now : List (ℕ × Name)) → IsErr answer → Goes w a b AnyForms (IsKept w made f) → Goes w a b (AreUnits w old) (IsGiven w answer f now)
refused_err w a b made answer f old now err goes =
    goes_as w a b AnyForms (IsKept w made f) (AreUnits w old) (IsGiven w answer f now) (λ forms units. tt) (λ forms kept. given_err w answer f now forms err) goes

-- No pair more.
pub pairs_stay : (w : Frame) (q : Problem) (a : Option (List Step)) (refs : List Ref) (pairs : List (ℕ × ℕ)) (named : List (ℕ × Name)) → Goes w a a (HasPairs w q refs pairs named) (HasPairs w q refs (pairs ++ []) named)
pairs_stay w q a refs pairs named =
    goes_stay w a a (HasPairs w q refs pairs named) (HasPairs w q refs (pairs ++ []) named) refl (λ forms has. subst (λ (ps : List (ℕ × ℕ)). HasPairs w q refs ps named forms) (sym (pairs_none pairs)) has)

-- A value that passes all tests, in both directions, is in the first domain.
pub first_value : (q : Problem) (p u : ℕ) → is_refused q p u ≡ false → IsLarge q p u → IsLarge (reversed_problem q) p u → IsFirstValue q p u
first_value q p u allowed along against = record {
  alone = allowed_from q p u (is_true (is_allowed q p u) allowed);
  in_degree = against.degree;
  degree = along.degree;
  in_sequence = against.sequence;
  sequence = along.sequence;
}
  where
    is_true : (b : Bool) → not b ≡ false → b ≡ true
    is_true true h = refl
    is_true false h = absurd cc

-- Where edges stand both ways, what passes the tests along them passes those against them.
pub large_mutual : (q : Problem) (p u : ℕ) → AreMutual q → p < size q.pattern → u < size q.target → IsLarge q p u → IsLarge (reversed_problem q) p u
large_mutual q p u ways p_in u_in large = record {
  degree = rw (asked_degree-mutual q p ways.pattern_mutual p_in, room-mutual q u ways.target_mutual u_in) large.degree;
  sequence = rw (asked_sequence-mutual q p ways.pattern_mutual p_in, sequence-mutual q.target u ways.target_mutual u_in) large.sequence;
}

-- A clause that was made in a direction, for the problem.
pub made_turned : (direction : Direction) (w : Frame) (a b : Option (List Step)) (owner : ℕ) (q made : Problem) (p u : ℕ) (given : Result Ref AllocError) (seen : Result (Option Ref) AllocError) (old now : List (ℕ × Name))
    → made ≡ turned_problem direction q → IsFrameOf q owner w → ((forms : List Form) → IsGiven w given (refusal q p u) now forms → IsSeen w q p u seen now forms)
    → (IsFrameFor made owner w → Goes w a b (AreUnits w old) (IsGiven w given (refusal made p u) now)) → Goes w a b (AreUnits w old) (IsSeen w q p u seen now)
made_turned direction w a b owner q made p u given seen old now is frame see goes =
    goes_as w a b (AreUnits w old) (IsGiven w given (refusal made p u) now) (AreUnits w old) (IsSeen w q p u seen now) (λ forms units. units)
    (λ forms has. see forms (subst (λ (x : Problem). IsGiven w given (refusal x p u) now forms) is has))
    (goes (subst (λ (x : Problem). IsFrameFor x owner w) (sym is) (frame_turned direction q owner w frame)))

-- A value that lacks nothing.
pub none_lacks : (q made : Problem) (p u : ℕ) (lack : Option Lack) → made ≡ q → lack ≡ None → IfNone lack (IsLarge made p u) → IsLarge q p u
none_lacks q made p u None is none large = subst (λ (x : Problem). IsLarge x p u) is large
none_lacks q made p u (Some l) is none large = absurd cc

-- ---- the line of a first domain

pub nothing_kept : (w : Frame) (kept : Option (List Step)) (A B : List Form → Type 0) → is_some kept ≡ false → Goes w kept kept A B
nothing_kept w None A B off = tt
nothing_kept w (Some steps) A B off = absurd cc

-- What goes from each of many goes from some of them.
from_some : {X : Type 0} (x : X) (w : Frame) (a b : Option (List Step)) (P : X → List Form → Type 0) (B : List Form → Type 0) → ((y : X) → Goes w a b (P y) B) → Goes w a b (λ forms. (y : X) × P y forms) B
from_some x w None None P B goes = tt
from_some x w None (Some new) P B goes = goes x
from_some x w (Some old) None P B goes = goes x
from_some x w (Some old) (Some new) P B goes = λ forms stands has. goes has.0 forms stands has.1

refusals_addable : (q : Problem) (p : ℕ) (values : List ℕ) (n : ℕ) → length (refused_values q p values) ≡ n → n ≤ 8192 → IsAddable (refused_values q p values)
refusals_addable q p values n is short = record { most = 2 ^ 14; small = refusals_small q p values; fits = omega (arith, is, short) }

abbrev Chosen : Frame → Problem → ℕ → List Ref → ℕ → List (ℕ × Name) → List ℕ → List Form → Type 0
Chosen w q p refs n named values forms = AreNamed w forms refs (refused_values q p values) × (((u : ℕ) → u < n → (IsFirstValue q p u → ⊥) → is_among u values ≡ true) × AreUnits w named forms)

chosen_last : (w : Frame) (q : Problem) (p : ℕ) (refs : List Ref) (n : ℕ) (named : List (ℕ × Name)) (values : List ℕ) → Lasts (Chosen w q p refs n named values)
chosen_last w q p refs n named values forms more has = (are_named_later w forms more refs (refused_values q p values) has.0, (has.1.0, units_last w named forms more has.1.1))

-- Nothing goes from what cannot be.
from_nothing : (w : Frame) (a b : Option (List Step)) (X Y A B : List Form → Type 0) → Goes w a b X Y → ((forms : List Form) → A forms → ⊥) → Goes w a b A B
from_nothing w None None X Y A B goes none = tt
from_nothing w None (Some new) X Y A B goes none = goes
from_nothing w (Some old) None X Y A B goes none = goes
from_nothing w (Some old) (Some new) X Y A B goes none = λ forms stands has. absurd (none forms has)

values_long : (q : Problem) (p : ℕ) (values : List ℕ) → length (refused_values q p values) ≡ length values
values_long q p [] = refl
values_long q p (v ∷ vs) = ap (λ (k : ℕ). suc k) (values_long q p vs)

-- The sum of what was collected.
pub first_summed : (w : Frame) (q : Problem) (a b : Option (List Step)) (p n : ℕ) (refs sums : List Ref) (named : List (ℕ × Name)) (name : Name) → sums ≡ refs → length refs ≤ 8192 → 0 < length refs → size q.target ≤ n
    → ((f : Form) (gs : List Form) → IsAddable (f ∷ gs) → Goes w a b (Named w sums (f ∷ gs)) (IsKept w (Ok name) (sum_from f gs)))
    → Goes w a b (HasValues w q p refs n named) (IsFirstLine w q p (Ok (Some name)) named)
first_summed w q a b p n refs sums named name same short some all goes =
    goes_as w a b (λ forms. (values : List ℕ) × Chosen w q p refs n named values forms) (IsFirstLine w q p (Ok (Some name)) named) (HasValues w q p refs n named) (IsFirstLine w q p (Ok (Some name)) named)
    (λ forms has. (has.values, (has.are_named, (has.all, has.units)))) (λ forms line. line)
    (from_some [] w a b (Chosen w q p refs n named) (IsFirstLine w q p (Ok (Some name)) named) (λ values. by values (cases_eq (length refs) (length values))))
  where
    by : (values : List ℕ) → (length refs ≡ length values) ⊎ (length refs ≡ length values → ⊥) → Goes w a b (Chosen w q p refs n named values) (IsFirstLine w q p (Ok (Some name)) named)
    by values (inr other) =
        from_nothing w a b (Named w sums (refused_values q p (0 ∷ []))) (IsKept w (Ok name) (refusal q p 0)) (Chosen w q p refs n named values) (IsFirstLine w q p (Ok (Some name)) named)
        (goes (refusal q p 0) [] (refusals_addable q p (0 ∷ []) 1 refl (omega arith)))
        (λ forms has. other (named_count w forms refs (refused_values q p values) has.0 ∙ values_long q p values))
    by [] (inl long) = absurd (omega (arith, long, some))
    by (v ∷ vs) (inl long) =
        let count = values_long q p (v ∷ vs) in
        goes_as w a b (λ forms. Named w sums (refused_values q p (v ∷ vs)) forms × Chosen w q p refs n named (v ∷ vs) forms)
        (λ forms. IsKept w (Ok name) (summed (refused_values q p (v ∷ vs))) forms × Chosen w q p refs n named (v ∷ vs) forms)
        (Chosen w q p refs n named (v ∷ vs)) (IsFirstLine w q p (Ok (Some name)) named)
        (λ forms has. (subst (λ (rs : List Ref). AreNamed w forms rs (refused_values q p (v ∷ vs))) (sym same) has.0, has))
        (λ forms both. ((summed (refused_values q p (v ∷ vs)), both.0, forces_first q p (v ∷ vs) (λ u u_in other. both.1.1.0 u (omega (arith, u_in, all)) other)), both.1.1.1))
        (goes_beside w a b (Named w sums (refused_values q p (v ∷ vs))) (IsKept w (Ok name) (summed (refused_values q p (v ∷ vs)))) (Chosen w q p refs n named (v ∷ vs)) (chosen_last w q p refs n named (v ∷ vs))
        (goes (refusal q p v) (refused_values q p vs) (refusals_addable q p (v ∷ vs) (length refs) (count ∙ sym long) short)))

pub first_none : (w : Frame) (q : Problem) (p n : ℕ) (refs : List Ref) (named : List (ℕ × Name)) (forms : List Form) → length refs ≡ 0 → size q.target ≤ n → HasValues w q p refs n named forms → IsFirstLine w q p (Ok None) named forms
first_none w q p n refs named forms none all has =
    ((λ u u_in other. no_member u has.values (named_count w forms refs (refused_values q p has.values) has.are_named) (has.all u (omega (arith, u_in, all)) other)), has.units)
  where
    no_member : (u : ℕ) (values : List ℕ) → length refs ≡ length (refused_values q p values) → is_among u values ≡ true → ⊥
    no_member u [] long among = absurd cc
    no_member u (v ∷ vs) long among = omega (arith, long, none)

-- Before the first value.
pub none_seen : (w : Frame) (q : Problem) (a : Option (List Step)) (p : ℕ) (refs : List Ref) (named : List (ℕ × Name)) → refs ≡ [] → Goes w a a (AreUnits w named) (HasValues w q p refs 0 named)
none_seen w q a p refs named none = goes_stay w a a (AreUnits w named) (HasValues w q p refs 0 named) refl (λ forms units. record {
  values = [];
  are_named = subst (λ (rs : List Ref). AreNamed w forms rs []) (sym none) tt;
  all = λ u u_in other. absurd (omega (arith, u_in));
  units = units;
})

-- A sum that is refused memory.
pub first_fails : (w : Frame) (q : Problem) (a b : Option (List Step)) (p n : ℕ) (refs sums : List Ref) (named : List (ℕ × Name)) (made : Result Name AllocError) (answer : Result (Option Name) AllocError) → IsErr answer
    → sums ≡ refs → length refs ≤ 8192 → 0 < length refs
    → ((f : Form) (gs : List Form) → IsAddable (f ∷ gs) → Goes w a b (Named w sums (f ∷ gs)) (IsKept w made (sum_from f gs)))
    → Goes w a b (HasValues w q p refs n named) (IsFirstLine w q p answer named)
first_fails w q a b p n refs sums named made answer err same short some goes =
    goes_as w a b (λ forms. (values : List ℕ) × Chosen w q p refs n named values forms) (IsFirstLine w q p answer named) (HasValues w q p refs n named) (IsFirstLine w q p answer named)
    (λ forms has. (has.values, (has.are_named, (has.all, has.units)))) (λ forms line. line)
    (from_some [] w a b (Chosen w q p refs n named) (IsFirstLine w q p answer named) (λ values. by values (cases_eq (length refs) (length values))))
  where
    by : (values : List ℕ) → (length refs ≡ length values) ⊎ (length refs ≡ length values → ⊥) → Goes w a b (Chosen w q p refs n named values) (IsFirstLine w q p answer named)
    by values (inr other) =
        from_nothing w a b (Named w sums (refused_values q p (0 ∷ []))) (IsKept w made (refusal q p 0)) (Chosen w q p refs n named values) (IsFirstLine w q p answer named)
        (goes (refusal q p 0) [] (refusals_addable q p (0 ∷ []) 1 refl (omega arith)))
        (λ forms has. other (named_count w forms refs (refused_values q p values) has.0 ∙ values_long q p values))
    by [] (inl long) = absurd (omega (arith, long, some))
    by (v ∷ vs) (inl long) =
        goes_as w a b (Named w sums (refused_values q p (v ∷ vs))) (IsKept w made (summed (refused_values q p (v ∷ vs)))) (Chosen w q p refs n named (v ∷ vs)) (IsFirstLine w q p answer named)
        (λ forms has. subst (λ (rs : List Ref). AreNamed w forms rs (refused_values q p (v ∷ vs))) (sym same) has.0)
        (λ forms kept. line_err w q p answer named forms err)
        (goes (refusal q p v) (refused_values q p vs) (refusals_addable q p (v ∷ vs) (length refs) (values_long q p (v ∷ vs) ∙ sym long) short))
