-- Edges that agree, and values that are consistent.
use Rattle.std.proofs.Common.{◌≡◌, ℕ, ◌<◌, ◌≤◌, ◌==◌, nat_lt, ◌&&◌, not, Bool, true, false, is_some, List, Option, Some, None, Result, Ok, Err, slice_index, ◌+◌, ◌*◌, refl, sym, ap, subst, ◌∙◌, arith, inl, inr, ◌⊎◌}
use mir.Syntax.{w16, w64}
use mir.Val.{Fits}
use Rattle.std.specs.Prelude.{IfOk}
use Rattle.std.specs.declared.alloc.AllocError.{AllocError}
use Rattle.std.proofs.lemmas.Bool.{true≢false, eq-eqb, ne_eqb, eqb-true, eqb-false, cases_eq, cases_lt, ltb-true, ltb-false, or_parts}
use Rattle.graph_theory.specs.Graph.{Graph, size, edge}
use Rattle.graph_theory.specs.Embedding.{Problem, is_injective, differ_in, differ, Matches, Compatible}
use Rattle.graph_theory.specs.Asked.{asked_shared_in, asked_shared}
use Rattle.graph_theory.specs.declared.direction.Direction.{Direction}
use Rattle.graph_theory.specs.declared.embedding.Maps.{Maps}
use Rattle.graph_theory.specs.declared.embedding.Maps.TheVariants.{Injective, Local, Any}
use Rattle.graph_theory.specs.Neighbours.{common}
use Rattle.graph_theory.specs.Reversed.{reversed, reversed_problem, turned, turned_problem, AreMutual}
use Rattle.graph_theory.proofs.ReversedGraphs.{edge-reversed}
use Rattle.search_theory.specs.Consistency.{AreConsistent}
use Rattle.search_theory.proofs.Pairs.{mutual_consistent}
use Rattle.bit_rows.specs.BitRows.{has, words_for}
use Rattle.needed_values.specs.Consistent.{agree, edges_agree, are_joined, HaveZeroLabels, Goes, AllGo, Leaves, AllConsistent, Shares, AllShare}

agreed : (induced : Bool) (e f : Option ℕ) → Matches induced e f → agree (is_some e) induced (is_some f) ≡ true
agreed false None f m = refl
agreed false (Some l) f m = ap is_some m
agreed true None None m = refl
agreed true None (Some k) m = absurd cc
agreed true (Some l) f m = ap is_some m.0

-- Where there is no pattern edge, that is all.
unasked : (induced : Bool) (e f : Option ℕ) → is_some e ≡ false → agree (is_some e) induced (is_some f) ≡ true → Matches induced e f
unasked false None f none h = tt
unasked true None None none h = (tt, tt)
unasked true None (Some k) none h = absurd cc
unasked induced (Some l) f none h = absurd cc

-- Where all labels are 0 either.
zeros_match : (induced : Bool) (e f : Option ℕ) → ((l : ℕ) → e ≡ Some l → l ≡ 0) → ((l : ℕ) → f ≡ Some l → l ≡ 0) → agree (is_some e) induced (is_some f) ≡ true → Matches induced e f
zeros_match false None f one two h = tt
zeros_match false (Some l) None one two h = absurd cc
zeros_match false (Some l) (Some k) one two h = ap Some (two k refl ∙ sym (one l refl))
zeros_match true None None one two h = (tt, tt)
zeros_match true None (Some k) one two h = absurd cc
zeros_match true (Some l) None one two h = absurd cc
zeros_match true (Some l) (Some k) one two h = (ap Some (two k refl ∙ sym (one l refl)), ap Some (one l refl ∙ sym (two k refl)))

and_true : (a b : Bool) → (a && b) ≡ true → (a ≡ true) × (b ≡ true)
and_true true b h = (refl, h)
and_true false b h = absurd cc

not_true : (b : Bool) → not b ≡ true → b ≡ false
not_true false h = refl
not_true true h = absurd cc

-- Two that are two where they have to be pass the test.
pub apart_test : (b : Bool) (t u : ℕ) → (b ≡ true → t ≡ u → ⊥) → not (b && (t == u)) ≡ true
apart_test true t u apart = ap not (ne_eqb t u (apart refl))
apart_test false t u apart = refl

-- Shared neighbours are asked for where images differ.
asked_by : (k : Maps) (g h : Graph) (p r : ℕ) → 0 < asked_shared_in k h p r → differ_in k g p r ≡ true
asked_by Injective g h p r some = refl
asked_by Local g h p r some = absurd (omega (arith, some))
asked_by Any g h p r some = absurd (omega (arith, some))

pub asked_differs : (q : Problem) (p r : ℕ) → 0 < asked_shared q p r → differ q p r ≡ true
asked_differs q p r some = asked_by q.maps q.pattern q.pattern p r some

pub asked_differs_back : (q : Problem) (p r : ℕ) → 0 < asked_shared (reversed_problem q) p r → differ q p r ≡ true
asked_differs_back q p r some = asked_by q.maps q.pattern (reversed q.pattern) p r some

asked_counted : (k : Maps) (g : Graph) (p r : ℕ) → is_injective k ≡ true → asked_shared_in k g p r ≡ common g p r
asked_counted Injective g p r is = refl
asked_counted Local g p r is = absurd cc
asked_counted Any g p r is = absurd cc

pub asked_injective : (q : Problem) (p r : ℕ) → is_injective q.maps ≡ true → asked_shared q p r ≡ common q.pattern p r
asked_injective q p r is = asked_counted q.maps q.pattern p r is

-- In a direction.
asked_turned : (direction : Direction) (q : Problem) (p r : ℕ) → Injective ≡ q.maps → asked_shared (turned_problem direction q) p r ≡ common (turned direction q.pattern) p r
asked_turned direction q p r is = asked_counted q.maps (turned direction q.pattern) p r (sym (ap is_injective is))

pub asked_as : (direction : Direction) (q : Problem) (p r : ℕ) (g : Graph) → g ≡ q.pattern → Injective ≡ q.maps → (result : Result ℕ AllocError) → IfOk result (λ n. n ≡ common (turned direction g) p r)
    → IfOk result (λ n. n ≡ asked_shared (turned_problem direction q) p r)
asked_as direction q p r g g_is is (Ok n) h = h ∙ (ap (λ (x : Graph). common (turned direction x) p r) g_is ∙ sym (asked_turned direction q p r is))
asked_as direction q p r g g_is is (Err e) h = tt

pub asked_local : (direction : Direction) (q : Problem) (p r : ℕ) → Local ≡ q.maps → asked_shared (turned_problem direction q) p r ≡ 0
asked_local direction q p r is = subst (λ (k : Maps). asked_shared_in k (turned direction q.pattern) p r ≡ 0) is refl

pub asked_any : (direction : Direction) (q : Problem) (p r : ℕ) → Any ≡ q.maps → asked_shared (turned_problem direction q) p r ≡ 0
asked_any direction q p r is = subst (λ (k : Maps). asked_shared_in k (turned direction q.pattern) p r ≡ 0) is refl

at_either : (b : Bool) → (b ≡ true → ⊥) → b ≡ false
at_either true h = absurd (h refl)
at_either false h = refl

-- ---- edges

module _ (q : Problem) (p t r u : ℕ) (p_in : p < size q.pattern) (r_in : r < size q.pattern) (t_in : t < size q.target) (u_in : u < size q.target) where
  back_is : edges_agree (reversed_problem q) p t r u ≡ agree (is_some (edge q.pattern r p)) q.induced (is_some (edge q.target u t))
  back_is =
      ap (λ (e : Option ℕ). agree (is_some e) q.induced (is_some (edge (reversed q.target) t u))) (edge-reversed q.pattern p r p_in r_in)
      ∙ ap (λ (f : Option ℕ). agree (is_some (edge q.pattern r p)) q.induced (is_some f)) (edge-reversed q.target t u t_in u_in)

  both_agree : Compatible q p t r u → (edges_agree q p t r u ≡ true) × (edges_agree (reversed_problem q) p t r u ≡ true)
  both_agree c = (agreed q.induced (edge q.pattern p r) (edge q.target t u) c.out, back_is ∙ agreed q.induced (edge q.pattern r p) (edge q.target u t) c.back)

  -- Where edges stand both ways, what is right along them is right against them.
  mutual_back : AreMutual q → edges_agree (reversed_problem q) p t r u ≡ edges_agree q p t r u
  mutual_back ways =
      back_is ∙ ap (λ (b : Bool). agree b q.induced (is_some (edge q.target u t))) (ways.pattern_mutual.both r p r_in p_in)
      ∙ ap (λ (b : Bool). agree (is_some (edge q.pattern p r)) q.induced b) (ways.target_mutual.both u t u_in t_in)

  -- Without an edge between p and r nothing more is asked.
  free : are_joined q p r ≡ false → (differ q p r ≡ true → t ≡ u → ⊥) → edges_agree q p t r u ≡ true → edges_agree (reversed_problem q) p t r u ≡ true → Compatible q p t r u
  free apart other along against =
      let none = or_parts (is_some (edge q.pattern p r)) (is_some (edge q.pattern r p)) apart in
      record {
        apart = other;
        out = unasked q.induced (edge q.pattern p r) (edge q.target t u) none.0 along;
        back = unasked q.induced (edge q.pattern r p) (edge q.target u t) none.1 (sym back_is ∙ against);
      }

  -- Nor where all labels are 0.
  free_zeros : HaveZeroLabels q → (differ q p r ≡ true → t ≡ u → ⊥) → edges_agree q p t r u ≡ true → edges_agree (reversed_problem q) p t r u ≡ true → Compatible q p t r u
  free_zeros zero other along against = record {
    apart = other;
    out = zeros_match q.induced (edge q.pattern p r) (edge q.target t u) (λ l. zero.pattern_zeros.zeros p r l p_in r_in) (λ l. zero.target_zeros.zeros t u l t_in u_in) along;
    back = zeros_match q.induced (edge q.pattern r p) (edge q.target u t) (λ l. zero.pattern_zeros.zeros r p l r_in p_in) (λ l. zero.target_zeros.zeros u t l u_in t_in) (sym back_is ∙ against);
  }

-- So where all that a row holds is right along edges, nothing is lost against them.
pub stays_back : (q : Problem) (p t r u : ℕ) → p < size q.pattern → r < size q.pattern → t < size q.target → (row : List ℕ) → ((v : ℕ) → has row v ≡ true → v < size q.target) → ((v : ℕ) → has row v ≡ true → edges_agree q p t r v ≡ true)
    → AreMutual q → has row u ≡ (has row u && edges_agree (reversed_problem q) p t r u)
stays_back q p t r u p_in r_in t_in row within along ways = by (has row u) refl
  where
    back : Bool
    back = edges_agree (reversed_problem q) p t r u

    by : (b : Bool) → has row u ≡ b → has row u ≡ (has row u && back)
    by true h = h ∙ sym (ap (λ (b : Bool). b && back) h ∙ mutual_back q p t r u p_in r_in t_in (within u h) ways ∙ along u h)
    by false h = h ∙ sym (ap (λ (b : Bool). b && back) h)

-- What passed two tests passed each.
pub kept_both : (a b c : Bool) → c ≡ (a && b) → c ≡ true → (a ≡ true) × (b ≡ true)
kept_both a b c is h = and_true a b (sym is ∙ h)

-- What is left after the edges of each direction, then without t.
module _ (q : Problem) (p t r : ℕ) (old out near mid : List ℕ) (p_in : p < size q.pattern) (r_in : r < size q.pattern) (t_in : t < size q.target) (within : (u : ℕ) → has old u ≡ true → u < size q.target)
    (out_is : (u : ℕ) → has out u ≡ (has old u && edges_agree q p t r u)) (near_is : (u : ℕ) → has near u ≡ (has out u && edges_agree (reversed_problem q) p t r u))
    (mid_is : (u : ℕ) → has mid u ≡ (has near u && not (differ q p r && (t == u)))) where
  pub record Parts (u : ℕ) : Type 0 where
    was : has old u ≡ true
    along : edges_agree q p t r u ≡ true
    against : edges_agree (reversed_problem q) p t r u ≡ true
    other : differ q p r ≡ true → t ≡ u → ⊥

  mid_parts : (u : ℕ) → has mid u ≡ true → Parts u
  mid_parts u h =
      let a = and_true (has near u) (not (differ q p r && (t == u))) (sym (mid_is u) ∙ h) in
      let b = and_true (has out u) (edges_agree (reversed_problem q) p t r u) (sym (near_is u) ∙ a.0) in
      let c = and_true (has old u) (edges_agree q p t r u) (sym (out_is u) ∙ b.0) in
      record { was = c.0; along = c.1; against = b.1; other = λ apart e. true≢false (sym (ap (λ (b : Bool). b && (t == u)) apart ∙ eq-eqb t u e) ∙ not_true (differ q p r && (t == u)) a.1) }

  pub words_within : (u : ℕ) → has mid u ≡ true → u < size q.target
  words_within u h = within u (mid_parts u h).was

  pub words_go : Goes q p t r old mid
  words_go = record {
    kept = λ u h. (mid_parts u h).was;
    right = λ u was gone c.
        let both = both_agree q p t r u p_in r_in t_in (within u was) c in
        let in_out : has out u ≡ true = out_is u ∙ ap (λ (b : Bool). b && edges_agree q p t r u) was ∙ both.0 in
        let in_near : has near u ≡ true = near_is u ∙ ap (λ (b : Bool). b && edges_agree (reversed_problem q) p t r u) in_out ∙ both.1 in
        let in_mid : has mid u ≡ true = mid_is u ∙ ap (λ (b : Bool). b && not (differ q p r && (t == u))) in_near ∙ apart_test (differ q p r) t u c.apart in
        true≢false (sym in_mid ∙ gone);
  }

  pub words_all : (are_joined q p r ≡ false) ⊎ HaveZeroLabels q → AllGo q p t r mid
  words_all (inl apart) u h = let m = mid_parts u h in free q p t r u p_in r_in t_in (within u m.was) apart m.other m.along m.against
  words_all (inr zero) u h = let m = mid_parts u h in free_zeros q p t r u p_in r_in t_in (within u m.was) zero m.other m.along m.against

pub goes_on : (q : Problem) (p t r : ℕ) (old mid new : List ℕ) → Goes q p t r old mid → Goes q p t r mid new → Goes q p t r old new
goes_on q p t r old mid new first second = record {
  kept = λ u h. first.kept u (second.kept u h);
  right = λ u was gone c. by u was gone c (has mid u) refl;
}
  where
    by : (u : ℕ) → has old u ≡ true → has new u ≡ false → Compatible q p t r u → (b : Bool) → has mid u ≡ b → ⊥
    by u was gone c true there = second.right u there gone c
    by u was gone c false left = first.right u was left c

pub goes_itself : (q : Problem) (p t r : ℕ) (row : List ℕ) → Goes q p t r row row
goes_itself q p t r row = record { kept = λ u h. h; right = λ u was gone c. true≢false (sym was ∙ gone) }

-- ---- values that are tested one by one

pub record Tested (q : Problem) (p t r n : ℕ) (old now : List ℕ) : Type 0 where
  pub goes : Goes q p t r old now
  pub all : (u : ℕ) → u < n → has now u ≡ true → Compatible q p t r u

-- A value that does not go together with p at t is taken out.
pub tested_out : (q : Problem) (p t r n m : ℕ) (old now new : List ℕ) → Tested q p t r n old now → (Compatible q p t r n → ⊥) → ((v : ℕ) → has new v ≡ (has now v && not (n == v))) → ((v : ℕ) → n + 1 ≤ v → v < m → has new v ≡ false)
    → Tested q p t r m old new
tested_out q p t r n m old now new before bad cut none = record {
  goes = goes_on q p t r old now new before.goes (record {
    kept = λ u h. (and_true (has now u) (not (n == u)) (sym (cut u) ∙ h)).0;
    right = λ u was gone c. by u was gone c (n == u) refl;
  });
  all = λ u low h. let a = and_true (has now u) (not (n == u)) (sym (cut u) ∙ h) in at u low h a.0 (not_true (n == u) a.1) (cases_lt u n);
}
  where
    by : (u : ℕ) → has now u ≡ true → has new u ≡ false → Compatible q p t r u → (b : Bool) → (n == u) ≡ b → ⊥
    by u was gone c true same = bad (subst (λ (v : ℕ). Compatible q p t r v) (sym (eqb-true n u same)) c)
    by u was gone c false other = true≢false (sym (cut u ∙ ap (λ (b : Bool). b && not (n == u)) was ∙ ap not other) ∙ gone)

    at : (u : ℕ) → u < m → has new u ≡ true → has now u ≡ true → (n == u) ≡ false → (u < n) ⊎ (n ≤ u) → Compatible q p t r u
    at u low h there other (inl less) = before.all u less there
    at u low h there other (inr more) = absurd (true≢false (sym h ∙ none u (let d = eqb-false n u other in past u more d) low))
      where
        past : (v : ℕ) → n ≤ v → (n ≡ v → ⊥) → n + 1 ≤ v
        past v le d = omega (arith, le, d)

-- One that does stays.
pub tested_in : (q : Problem) (p t r n m : ℕ) (old now : List ℕ) → Tested q p t r n old now → Compatible q p t r n → ((v : ℕ) → n + 1 ≤ v → v < m → has now v ≡ false) → Tested q p t r m old now
tested_in q p t r n m old now before good none = record { goes = before.goes; all = λ u low h. at u low h (cases_lt u n) (cases_eq u n) }
  where
    at : (u : ℕ) → u < m → has now u ≡ true → (u < n) ⊎ (n ≤ u) → (u ≡ n) ⊎ (u ≡ n → ⊥) → Compatible q p t r u
    at u low h (inl less) e = before.all u less h
    at u low h (inr more) (inl same) = subst (λ (v : ℕ). Compatible q p t r v) (sym same) good
    at u low h (inr more) (inr other) = absurd (true≢false (sym h ∙ none u (omega (arith, more, other)) low))

pub tested_none : (q : Problem) (p t r m : ℕ) (old : List ℕ) → ((v : ℕ) → 0 ≤ v → v < m → has old v ≡ false) → Tested q p t r m old old
tested_none q p t r m old none = record { goes = goes_itself q p t r old; all = λ u low h. absurd (true≢false (sym h ∙ none u (omega arith) low)) }

-- ---- shared neighbours

pub not_itself : (q : Problem) (p t r : ℕ) (row : List ℕ) → differ q p r ≡ true → AllGo q p t r row → has row t ≡ false
not_itself q p t r row apart all = at_either (has row t) (λ h. (all t h).apart apart refl)

module _ (q : Problem) (p t r : ℕ) (p_in : p < size q.pattern) (r_in : r < size q.pattern) (t_in : t < size q.target) (old mid new : List ℕ) (within : (u : ℕ) → has old u ≡ true → u < size q.target) (all : AllGo q p t r old)
    (along : Shares q.target t (asked_shared q p r) old mid) where
  pub out_leaves : Leaves q p t r old mid
  out_leaves = record { kept = along.kept; right = λ u was gone c. along.right u was gone c.shared }

  pub out_all : AreMutual q → (b : Bool) → AllShare b q.target t (asked_shared q p r) mid → AllConsistent b q p t r mid
  out_all ways false share = tt
  out_all ways true share = λ u h. let was = along.kept u h in mutual_consistent q p t r u ways p_in t_in r_in (within u was) (all u was) (share u h)

  pub mid_within : (u : ℕ) → has mid u ≡ true → u < size q.target
  mid_within u h = within u (along.kept u h)

  pub mid_other : differ q p r ≡ true → has mid t ≡ false
  mid_other apart = at_either (has mid t) (λ h. (all t (along.kept t h)).apart apart refl)

  module _ (against : Shares (reversed q.target) t (asked_shared (reversed_problem q) p r) mid new) where
    pub both_leave : Leaves q p t r old new
    both_leave = record { kept = λ u h. along.kept u (against.kept u h); right = λ u was gone c. by u was gone c (has mid u) refl }
      where
        by : (u : ℕ) → has old u ≡ true → has new u ≡ false → AreConsistent q p t r u → (b : Bool) → has mid u ≡ b → ⊥
        by u was gone c true there = against.right u there gone c.in_shared
        by u was gone c false left = along.right u was left c.shared

    pub both_all : (a b : Bool) → AllShare a q.target t (asked_shared q p r) mid → AllShare b (reversed q.target) t (asked_shared (reversed_problem q) p r) new → AllConsistent (a && b) q p t r new
    both_all false b one two = tt
    both_all true false one two = tt
    both_all true true one two = λ u h. let there = against.kept u h in record { pair = all u (along.kept u there); shared = one u there; in_shared = two u h }

-- What is left by counts of shared neighbours shares enough, and nothing else that was there does.
module _ (g : Graph) (t shared values : ℕ) (counts old new : List ℕ)
    (counts_are : (u : ℕ) → u < values → (t ≡ u → ⊥) → slice_index counts u ≡ common g t u) (within : (u : ℕ) → has old u ≡ true → u < values) (other : has old t ≡ false)
    (left : (u : ℕ) → has new u ≡ (has old u && not (nat_lt (slice_index counts u) shared))) where
  count_of : (u : ℕ) → has old u ≡ true → slice_index counts u ≡ common g t u
  count_of u h = counts_are u (within u h) (λ e. true≢false (sym h ∙ ap (has old) (sym e) ∙ other))

  left_parts : (u : ℕ) → has new u ≡ true → (has old u ≡ true) × (nat_lt (slice_index counts u) shared ≡ false)
  left_parts u h =
      let a = and_true (has old u) (not (nat_lt (slice_index counts u) shared)) (sym (left u) ∙ h) in
      (a.0, not_true (nat_lt (slice_index counts u) shared) a.1)

  pub all_counted : (u : ℕ) → has new u ≡ true → shared ≤ common g t u
  all_counted u h =
      let a = left_parts u h in
      let enough : shared ≤ slice_index counts u = ltb-false (slice_index counts u) shared a.1 in
      let is = count_of u a.0 in
      omega (arith, enough, is)

  pub counted : Shares g t shared old new
  counted = record {
    kept = λ u h. (left_parts u h).0;
    right = λ u was gone enough. less u was enough (by (nat_lt (slice_index counts u) shared) (sym (ap (λ (b : Bool). b && not (nat_lt (slice_index counts u) shared)) was) ∙ sym (left u) ∙ gone));
  }
    where
      by : (b : Bool) → not b ≡ false → b ≡ true
      by true h = refl
      by false h = absurd cc

      less : (u : ℕ) → has old u ≡ true → shared ≤ common g t u → nat_lt (slice_index counts u) shared ≡ true → ⊥
      less u was enough lt =
          let few : slice_index counts u < shared = ltb-true (slice_index counts u) shared lt in
          let is = count_of u was in
          omega (arith, enough, few, is)

-- ---- values that are counted one by one

-- Those below n share as many with t.
pub record AllBelow (g : Graph) (t shared n : ℕ) (row : List ℕ) : Type 0 where
  pub enough : (u : ℕ) → u < n → has row u ≡ true → shared ≤ common g t u

pub below_none : (g : Graph) (t shared m : ℕ) (row : List ℕ) → ((v : ℕ) → 0 ≤ v → v < m → has row v ≡ false) → AllBelow g t shared m row
below_none g t shared m row none = record { enough = λ u low h. absurd (true≢false (sym h ∙ none u (omega arith) low)) }

-- And so does the next one.
pub below_next : (g : Graph) (t shared n m : ℕ) (row : List ℕ) → AllBelow g t shared n row → shared ≤ common g t n → ((v : ℕ) → n + 1 ≤ v → v < m → has row v ≡ false) → AllBelow g t shared m row
below_next g t shared n m row before good none = record { enough = λ u low h. at u low h (cases_lt u n) (cases_eq u n) }
  where
    at : (u : ℕ) → u < m → has row u ≡ true → (u < n) ⊎ (n ≤ u) → (u ≡ n) ⊎ (u ≡ n → ⊥) → shared ≤ common g t u
    at u low h (inl less) e = before.enough u less h
    at u low h (inr more) (inl same) = subst (λ (v : ℕ). shared ≤ common g t v) (sym same) good
    at u low h (inr more) (inr other) = absurd (true≢false (sym h ∙ none u (omega (arith, more, other)) low))

pub shares_itself : (g : Graph) (t n : ℕ) (row : List ℕ) → Shares g t n row row
shares_itself g t n row = record { kept = λ u h. h; right = λ u was gone enough. true≢false (sym was ∙ gone) }

-- Values that share enough along edges are consistent where all share enough against them.
pub back_all : (q : Problem) (p t r : ℕ) (p_in : p < size q.pattern) (r_in : r < size q.pattern) (t_in : t < size q.target) (row : List ℕ) (within : (u : ℕ) → has row u ≡ true → u < size q.target) → AllGo q p t r row
    → AllShare true q.target t (asked_shared q p r) row → (result : Result Bool AllocError) → IfOk result (λ b. AllShare b (reversed q.target) t (asked_shared (reversed_problem q) p r) row)
    → IfOk result (λ b. AllConsistent b q p t r row)
back_all q p t r p_in r_in t_in row within all along (Err e) back = tt
back_all q p t r p_in r_in t_in row within all along (Ok b) back =
    both_all q p t r p_in r_in t_in row row row within all (shares_itself q.target t (asked_shared q p r) row) (shares_itself (reversed q.target) t (asked_shared (reversed_problem q) p r) row) true b along back

-- ---- rows of vertices are short

pub row_short : (row n : ℕ) → n ≤ 8192 → row ≡ words_for n → row ≤ 1024
row_short row n few is = omega (arith, few, is)

pub row_fits : (row n : ℕ) → n ≤ 8192 → row ≡ words_for n → Fits w64 (64 * row)
row_fits row n few is = omega (arith, few, is)

pub vertex_fits : (u n : ℕ) → n ≤ 8192 → u < n → Fits w16 u
vertex_fits u n few u_in = omega (arith, few, u_in)

-- a vertex is before the end of the row
pub is_before : (u n row at : ℕ) → u < n → row ≡ words_for n → 64 * row ≤ at → u < at
is_before u n row at u_in is past = omega (arith, u_in, is, past)

-- there is room for each in it, and it is no longer than their counts but for the last word
pub row_room : (row n : ℕ) → row ≡ words_for n → n ≤ 64 * row
row_room row n is = omega (arith, is)

pub vertex_in_row : (u n row : ℕ) → u < n → row ≡ words_for n → u < 64 * row
vertex_in_row u n row u_in is = omega (arith, u_in, is)

pub row_counted : (row counts n : ℕ) → row ≡ words_for n → counts ≡ n → 64 * row < counts + 64
row_counted row counts n is long = omega (arith, is, long)

-- what cannot be true is false
pub never_true : (b : Bool) → (b ≡ true → ⊥) → b ≡ false
never_true true never = absurd (never refl)
never_true false never = refl
