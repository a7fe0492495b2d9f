-- Each change that was told is explained by its forms.
use Rattle.std.proofs.Common.{◌≡◌, ℕ, zero, suc, ◌+◌, ◌<◌, ◌≤◌, ◌==◌, eqb, ltb, Bool, true, false, not, ◌&&◌, ◌||◌, cond, List, [], ◌∷◌, ◌++◌, length, is_some, Option, Some, None, refl, sym, ap, subst, ◌∙◌, arith, inl, inr, ◌⊎◌}
use Rattle.std.proofs.lemmas.Bool.{and_parts, cases_eq, eqb-true, eq-eqb, or_cases, lt-ltb, ltb-true, true≢false}
use Rattle.graph_theory.specs.Graph.{size, edge}
use Rattle.graph_theory.specs.Reversed.{turned}
use Rattle.graph_theory.specs.declared.direction.Direction.{Direction}
use Rattle.graph_theory.specs.declared.direction.Direction.TheVariants.{Out, In}
use Rattle.graph_theory.proofs.ReversedGraphs.{edge-reversed}
use Rattle.graph_theory.specs.Embedding.{Problem, is_injective}
use Rattle.graph_theory.specs.Blocks.{in_block}
use Rattle.search_theory.specs.Consistency.{IsFirstValue, AreConsistent}
use Rattle.proof_theory.specs.Forms.{Form}
use Rattle.proof_theory.specs.Slack.{Setting, conflict, after, refutes}
use Rattle.log_theory.specs.Lookups.{is_among, are_distinct}
use Rattle.encoding_theory.specs.Variables.{variable}
use Rattle.encoding_theory.specs.Encoding.{at_least, at_most, leads_form, pair_form}
use Rattle.encoding_theory.specs.Pairs.{is_match, is_open, is_compatible}
use Rattle.encoding_theory.proofs.PairTests.{apart_open}
use Rattle.forcing_theory.specs.Chains.{run, Domains, AreOut}
use Rattle.forcing_theory.proofs.Chaining.{after_keeps, run_keeps}
use Rattle.explanation_theory.specs.Reasons as reasons
use Rattle.explanation_theory.specs.Reasons.{IsPair, ForcesFirst, at_leasts, pairs_clause, set_form, over_form}
use Rattle.explanation_theory.proofs.Giving.{Leads, Gives, one_gives, then_gives, leads_on}
use Rattle.explanation_theory.proofs.Forcing.{leads_takes, at_least_forces, at_most_forces, AreSet, clause_forces}
use Rattle.explanation_theory.proofs.OverCounting.{over_takes}
use Rattle.explanation_theory.proofs.Explaining as explaining
use Rattle.domain_bits.specs.Removals.{State, in_domain, times}
use Rattle.domain_bits.proofs.Removed.{times-append}
use Rattle.domain_bits.proofs.Sizes.{in_below}
use Rattle.all_different.specs.Pruning.{among}
use Rattle.nogood_watch.specs.Nogoods as watched
use Rattle.nogood_watch.specs.Nogoods.{literal}
use Rattle.nogood_book.specs.declared.row.Row.{Row}
use Rattle.nogood_book.specs.Rows.{path_at, Sound}
use Rattle.recorder.specs.declared.change.Cause.TheVariants as cause
use Rattle.recorder.specs.declared.change.Side.{Side}
use Rattle.recorder.specs.Recording.{Change, LeftOne, LeftOthers, LeftOver}
use Rattle.recorder.specs.Telling.{HasAtMost, IsForbidden, IsUnsupported, IsOutOfOrder, end_beside, is_beside, IsCrowded, Joins, AreDistinct, HaveOnly, Leaves}
use Rattle.dead_theory.specs.Changes.{NamesRows, IsOneOf, IsLeftOut, IsBorne, AreBorne, NogoodForms, set_forms, crowd_forms, Forces, ExplainsTold, MayTake, GoTogether, CoversTold, SufficesTold, IsUpheld, AreUpheld, AreKeptIn, AllSupport, AllOnSide, IsOrdered, AllBeside, Needs}

some_same : {X : Type 0} (x y : X) → (let o : Option X = Some x in o) ≡ Some y → x ≡ y
some_same x y e = cc

-- ---- lists of vertices

pub same_among : (xs : List ℕ) (p : ℕ) → among xs p ≡ is_among p xs
same_among [] p = refl
same_among (x ∷ xs) p = ap (λ (b : Bool). (x == p) || b) (same_among xs p)

pub distinct_of : (xs : List ℕ) → AreDistinct xs → are_distinct xs ≡ true
distinct_of [] h = refl
distinct_of (x ∷ xs) h = both (is_among x xs) (are_distinct xs) (sym (same_among xs x) ∙ h.0) (distinct_of xs h.1)
  where
    both : (a b : Bool) → a ≡ false → b ≡ true → (not a && b) ≡ true
    both true b e f = absurd cc
    both false b e f = f

-- ---- what leaves

-- What is there was there.
pub was_there : (old new : State) (rest : List (ℕ × ℕ)) → new.values ≡ old.values → new.removed ≡ old.removed ++ rest → (r u : ℕ) → in_domain new r u ≡ true → in_domain old r u ≡ true
was_there old new rest same front r u here =
    let parts = and_parts (ltb u new.values) (eqb (times new.removed r u) 0) here in
    let none : times new.removed r u ≡ 0 = eqb-true (times new.removed r u) 0 parts.1 in
    let sums : times new.removed r u ≡ times old.removed r u + times rest r u = ap (λ (xs : List (ℕ × ℕ)). times xs r u) front ∙ times-append old.removed rest r u in
    both (ltb u old.values) (eqb (times old.removed r u) 0) (ap (ltb u) (sym same) ∙ parts.0) (eq-eqb (times old.removed r u) 0 (omega (arith, none, sums)))
  where
    both : (a b : Bool) → a ≡ true → b ≡ true → (a && b) ≡ true
    both true b e f = f
    both false b e f = absurd cc

-- ---- settings

-- Each of the needed values that is gone has its variable false.
abbrev pub NeededOut : Problem → Setting → State → (ℕ → ℕ → Bool) → Type 0
NeededOut q s d needed = (r u : ℕ) → u < size q.target → needed r u ≡ true → in_domain d r u ≡ false → s (variable q r u) ≡ Some false

-- Each of these pairs has its variable true.
abbrev pub AreOn : Problem → Setting → List (ℕ × ℕ) → Type 0
AreOn q s known = (x : ℕ × ℕ) → IsOneOf known x → s (variable q x.0 x.1) ≡ Some true

none_there : (d : State) (p t u : ℕ) → HasAtMost d p t → (u ≡ t → ⊥) → in_domain d p u ≡ false
none_there d p t u most other = by (in_domain d p u) refl
  where
    by : (b : Bool) → in_domain d p u ≡ b → in_domain d p u ≡ false
    by true is = absurd (other (most u is))
    by false is = is

-- The needed values of a decided vertex are false, unless the path has its pair.
pub upheld_out : (q : Problem) (s : Setting) (d : State) (needed : ℕ → ℕ → Bool) (p t : ℕ) → NeededOut q s d needed → HasAtMost d p t → ((u : ℕ) → (u ≡ t → ⊥) → needed p u ≡ true)
    → (u : ℕ) → u < size q.target → (u ≡ t → ⊥) → s (variable q p u) ≡ Some false
upheld_out q s d needed p t out most upheld u u_in other = out p u u_in (upheld u other) (none_there d p t u most other)

-- ---- pairs of a nogood

-- Among constraints that vertices go somewhere, that of a vertex whose other values are false makes its pair true.
pub borne_true : (q : Problem) (s : Setting) (vertices : List ℕ) (p t : ℕ) → is_among p vertices ≡ true → ((u : ℕ) → u < size q.target → (u ≡ t → ⊥) → s (variable q p u) ≡ Some false)
    → Gives s (at_leasts q vertices) (variable q p t) true
borne_true q s [] p t among others = absurd cc
borne_true q s (v ∷ vs) p t among others = by (v == p) refl among (λ h. borne_true q (after s (at_least q v)) vs p t h (λ u u_in other. after_keeps s (at_least q v) (variable q p u) false (others u u_in other)))
  where
    or_true : (b c : Bool) → c ≡ true → (b || c) ≡ true
    or_true true c e = refl
    or_true false c e = e

    by : (b : Bool) → (v == p) ≡ b → (b || is_among p vs) ≡ true → (is_among p vs ≡ true → Gives (after s (at_least q v)) (at_leasts q vs) (variable q p t) true)
        → Gives s (at_leasts q (v ∷ vs)) (variable q p t) true
    by true is h later =
        let same : v ≡ p = eqb-true v p is in
        subst (λ (w : ℕ). Gives s (at_leasts q (w ∷ vs)) (variable q p t) true) (sym same)
        (then_gives s (at_least q p) (at_leasts q vs) (variable q p t) true (variable q p t) true (at_least_forces q s p t others)
        (λ is. inr (run_keeps (after s (at_least q p)) (at_leasts q vs) (variable q p t) true is)))
    by false is h later = elim (later h) [ inl refuted ↦ inl (or_true (conflict s (at_least q v)) (refutes (after s (at_least q v)) (at_leasts q vs)) refuted) | inr given ↦ inr given ]

-- Where each pair is true after them, or passes, so it is of all together.
all_set : (q : Problem) (s t : Setting) (fs : List Form) (but : ℕ × ℕ → Type 0) (pairs : List (ℕ × ℕ))
    → ((k : ℕ) → k < length pairs → but (literal pairs k) ⊎ ((refutes s fs ≡ true) ⊎ (t (variable q (literal pairs k).0 (literal pairs k).1) ≡ Some true)))
    → (refutes s fs ≡ true) ⊎ AreSet q t but pairs
all_set q s t fs but [] each = inr tt
all_set q s t fs but (x ∷ xs) each = by (each 0 (omega arith)) (all_set q s t fs but xs (λ k k_in. each (suc k) (omega (arith, k_in))))
  where
    by : but x ⊎ ((refutes s fs ≡ true) ⊎ (t (variable q x.0 x.1) ≡ Some true)) → (refutes s fs ≡ true) ⊎ AreSet q t but xs → (refutes s fs ≡ true) ⊎ AreSet q t but (x ∷ xs)
    by (inr (inl refuted)) later = inl refuted
    by first (inl refuted) = inl refuted
    by (inl b) (inr later) = inr (inl b, later)
    by (inr (inr is)) (inr later) = inr (inr is, later)

-- The constraints that are pushed for a nogood make its pairs true, but those that pass.
pub pairs_lead : (q : Problem) (s : Setting) (d : State) (path known : List (ℕ × ℕ)) (needed : ℕ → ℕ → Bool) (vertices : List ℕ) (but : Option ℕ) (passes : ℕ × ℕ → Type 0) (pairs : List (ℕ × ℕ))
    → NeededOut q s d needed → AreOn q s path → AreOn q s known → AreBorne known vertices but pairs → AreUpheld path but needed pairs
    → ((k : ℕ) → k < length pairs → passes (literal pairs k) ⊎ ((IsLeftOut but (literal pairs k).0 → ⊥) × HasAtMost d (literal pairs k).0 (literal pairs k).1))
    → Leads s (at_leasts q vertices) (λ t. AreSet q t passes pairs)
pairs_lead q s d path known needed vertices but passes pairs out on_path on borne upheld decided =
    all_set q s (run s (at_leasts q vertices)) (at_leasts q vertices) passes pairs (λ k k_in. at k (decided k k_in) (borne k k_in) (upheld k k_in))
  where
    kept : (x : ℕ × ℕ) → s (variable q x.0 x.1) ≡ Some true → (refutes s (at_leasts q vertices) ≡ true) ⊎ (run s (at_leasts q vertices) (variable q x.0 x.1) ≡ Some true)
    kept x is = inr (run_keeps s (at_leasts q vertices) (variable q x.0 x.1) true is)

    one : (x : ℕ × ℕ) → (IsLeftOut but x.0 → ⊥) → HasAtMost d x.0 x.1 → IsBorne known vertices but x → IsUpheld path but needed x
        → (refutes s (at_leasts q vertices) ≡ true) ⊎ (run s (at_leasts q vertices) (variable q x.0 x.1) ≡ Some true)
    one x inside most (inl left_out) upheld = absurd (inside left_out)
    one x inside most (inr (inl here)) upheld = kept x (on x here)
    one x inside most (inr (inr among)) (inl left_out) = absurd (inside left_out)
    one x inside most (inr (inr among)) (inr (inl here)) = kept x (on_path x here)
    one x inside most (inr (inr among)) (inr (inr upheld)) = borne_true q s vertices x.0 x.1 among (upheld_out q s d needed x.0 x.1 out most upheld)

    at : (k : ℕ) → passes (literal pairs k) ⊎ ((IsLeftOut but (literal pairs k).0 → ⊥) × HasAtMost d (literal pairs k).0 (literal pairs k).1)
        → IsBorne known vertices but (literal pairs k) → IsUpheld path but needed (literal pairs k)
        → passes (literal pairs k) ⊎ ((refutes s (at_leasts q vertices) ≡ true) ⊎ (run s (at_leasts q vertices) (variable q (literal pairs k).0 (literal pairs k).1) ≡ Some true))
    at k (inl b) bears up = inl b
    at k (inr h) bears up = inr (one (literal pairs k) h.0 h.1 bears up)

-- ---- sets

-- Domains of which the members of a set have the set's values and all others have all.
abbrev pub only_these : List ℕ → List ℕ → Domains
only_these vertices values r u = cond (is_among r vertices) (is_among u values) true

-- The same, with the set's values gone from all others of its block.
abbrev pub none_of_these : Problem → Option ℕ → List ℕ → List ℕ → Domains
none_of_these q b vertices values r u = cond (is_among r vertices) (is_among u values) (not ((ltb r (size q.pattern) && in_block q b r) && is_among u values))

pub these_only : (q : Problem) (b : Option ℕ) (d : State) (vertices values : List ℕ) → HaveOnly q b d vertices values → reasons.HaveOnly q b (only_these vertices values) vertices values
these_only q b d vertices values only = record {
  distinct = distinct_of vertices only.distinct;
  members = λ p h. only.members p (same_among vertices p ∙ h);
  vertices_in = λ p h. only.vertices_in p (same_among vertices p ∙ h);
  values_in = λ u h. only.values_in u (same_among values u ∙ h);
  within = λ p u h u_in there. sym (ap (λ (b : Bool). cond b (is_among u values) true) h) ∙ there;
}

-- What the needed values of the members say of these domains.
pub these_out : (q : Problem) (s : Setting) (b : Option ℕ) (d : State) (needed : ℕ → ℕ → Bool) (vertices values : List ℕ) → HaveOnly q b d vertices values → NeededOut q s d needed → AreKeptIn vertices values needed
    → (r : ℕ) → is_among r vertices ≡ true → AreOut (variable q) (size q.target) s (only_these vertices values) r
these_out q s b d needed vertices values only out kept r among u u_in gone =
    let off : is_among u values ≡ false = sym (ap (λ (b : Bool). cond b (is_among u values) true) among) ∙ gone in
    out r u u_in (kept r u among off) (by (in_domain d r u) refl off)
  where
    by : (b : Bool) → in_domain d r u ≡ b → is_among u values ≡ false → in_domain d r u ≡ false
    by false is off = is
    by true is off = absurd (true≢false (sym (sym (same_among values u) ∙ only.within r u (same_among vertices r ∙ among) is) ∙ off))

-- ---- edges

-- Where two places are compatible, an edge leads between them as one does between the vertices.
matched_some : (induced : Bool) (e f : Option ℕ) → is_match induced e f ≡ true → is_some e ≡ true → is_some f ≡ true
matched_some false None f m some = absurd cc
matched_some false (Some l) None m some = absurd cc
matched_some false (Some l) (Some k) m some = refl
matched_some true None f m some = absurd cc
matched_some true (Some l) None m some = absurd cc
matched_some true (Some l) (Some k) m some = refl

-- Its label is the same.
matched_same : (induced : Bool) (e f : Option ℕ) → is_match induced e f ≡ true → is_some e ≡ true → f ≡ e
matched_same false None f m some = absurd cc
matched_same false (Some l) None m some = absurd cc
matched_same false (Some l) (Some k) m some = ap Some (eqb-true k l m)
matched_same true None f m some = absurd cc
matched_same true (Some l) None m some = absurd cc
matched_same true (Some l) (Some k) m some = ap Some (eqb-true k l (and_parts (k == l) (l == k) m).0)

pub compatible_alike : (q : Problem) (direction : Direction) (p r u w : ℕ) → Joins q direction p r → u < size q.target → w < size q.target → is_compatible q r u p w ≡ true
    → edge (turned direction q.target) w u ≡ edge (turned direction q.pattern) p r
compatible_alike q Out p r u w joins u_in w_in fits =
    let parts = and_parts (is_open q u w) (is_match q.induced (edge q.pattern r p) (edge q.target u w) && is_match q.induced (edge q.pattern p r) (edge q.target w u)) fits in
    let both = and_parts (is_match q.induced (edge q.pattern r p) (edge q.target u w)) (is_match q.induced (edge q.pattern p r) (edge q.target w u)) parts.1 in
    matched_same q.induced (edge q.pattern p r) (edge q.target w u) both.1 joins.joined
compatible_alike q In p r u w joins u_in w_in fits =
    let parts = and_parts (is_open q u w) (is_match q.induced (edge q.pattern r p) (edge q.target u w) && is_match q.induced (edge q.pattern p r) (edge q.target w u)) fits in
    let both = and_parts (is_match q.induced (edge q.pattern r p) (edge q.target u w)) (is_match q.induced (edge q.pattern p r) (edge q.target w u)) parts.1 in
    let back = edge-reversed q.pattern p r joins.vertex_in joins.other_in in
    edge-reversed q.target w u w_in u_in
    ∙ (matched_same q.induced (edge q.pattern r p) (edge q.target u w) both.0 (ap is_some (sym back) ∙ joins.joined) ∙ sym back)

-- and the same from the side of the first
leads_beside : (q : Problem) (direction : Direction) (p t r u : ℕ) → Joins q direction p r → t < size q.target → u < size q.target → is_compatible q p t r u ≡ true
    → is_some (edge (turned direction q.target) t u) ≡ true
leads_beside q Out p t r u joins t_in u_in fits =
    let parts = and_parts (is_open q t u) (is_match q.induced (edge q.pattern p r) (edge q.target t u) && is_match q.induced (edge q.pattern r p) (edge q.target u t)) fits in
    let both = and_parts (is_match q.induced (edge q.pattern p r) (edge q.target t u)) (is_match q.induced (edge q.pattern r p) (edge q.target u t)) parts.1 in
    matched_some q.induced (edge q.pattern p r) (edge q.target t u) both.0 joins.joined
leads_beside q In p t r u joins t_in u_in fits =
    let parts = and_parts (is_open q t u) (is_match q.induced (edge q.pattern p r) (edge q.target t u) && is_match q.induced (edge q.pattern r p) (edge q.target u t)) fits in
    let both = and_parts (is_match q.induced (edge q.pattern p r) (edge q.target t u)) (is_match q.induced (edge q.pattern r p) (edge q.target u t)) parts.1 in
    ap is_some (edge-reversed q.target t u t_in u_in)
    ∙ matched_some q.induced (edge q.pattern r p) (edge q.target u t) both.1 (ap is_some (sym (edge-reversed q.pattern p r joins.vertex_in joins.other_in)) ∙ joins.joined)

-- two that are compatible are at two places, where the maps are injective
places_apart : (q : Problem) (p t r u : ℕ) → is_injective q.maps ≡ true → is_compatible q p t r u ≡ true → t ≡ u → ⊥
places_apart q p t r u apart fits same =
    let parts = and_parts (is_open q t u) (is_match q.induced (edge q.pattern p r) (edge q.target t u) && is_match q.induced (edge q.pattern r p) (edge q.target u t)) fits in
    apart_open q t u apart parts.0 same

-- ---- crowded neighbours

-- Domains in which all is left but what is compatible with p at t and none of these values.
abbrev beside_these : Problem → ℕ → ℕ → List ℕ → Domains
beside_these q p t values r u = is_among u values || not (is_compatible q p t r u)

these_beside : (q : Problem) (d : State) (direction : Direction) (p t : ℕ) (vertices values : List ℕ) → IsCrowded q d direction p t vertices values
    → reasons.HaveBeside q (beside_these q p t values) p t vertices values
these_beside q d direction p t vertices values is = record {
  distinct = distinct_of vertices is.distinct;
  vertices_in = λ r h. (is.joins r (same_among vertices r ∙ h)).other_in;
  within = λ r u h u_in fits there. by r u fits (or_cases (is_among u values) (not (is_compatible q p t r u)) there);
}
  where
    by : (r u : ℕ) → is_compatible q p t r u ≡ true → (is_among u values ≡ true) ⊎ (not (is_compatible q p t r u) ≡ true) → is_among u values ≡ true
    by r u fits (inl here) = here
    by r u fits (inr not_fits) = absurd (true≢false (sym not_fits ∙ ap not fits))

-- What the needed values of the neighbours say of these domains.
beside_out : (q : Problem) (s : Setting) (d : State) (needed : ℕ → ℕ → Bool) (direction : Direction) (p t : ℕ) (vertices values : List ℕ) → IsCrowded q d direction p t vertices values
    → NeededOut q s d needed → AllBeside q direction t vertices values needed → (r : ℕ) → is_among r vertices ≡ true → AreOut (variable q) (size q.target) s (beside_these q p t values) r
beside_out q s d needed direction p t vertices values is out kept r among u u_in gone = by (is_among u values) refl (is_compatible q p t r u) refl gone
  where
    left : (b : Bool) → in_domain d r u ≡ b → (t ≡ u → ⊥) → is_some (edge (turned direction q.target) t u) ≡ true → is_among u values ≡ false → in_domain d r u ≡ false
    left false here other leads off = here
    left true here other leads off = absurd (true≢false (sym (sym (same_among values u) ∙ is.within r u (same_among vertices r ∙ among) here other leads) ∙ off))

    by : (a : Bool) → is_among u values ≡ a → (c : Bool) → is_compatible q p t r u ≡ c → (a || not c) ≡ false → s (variable q r u) ≡ Some false
    by true off c fits h = absurd cc
    by false off false fits h = absurd cc
    by false off true fits h =
        let other = places_apart q p t r u is.injective fits in
        let leads = leads_beside q direction p t r u (is.joins r (same_among vertices r ∙ among)) is.value_in u_in fits in
        out r u u_in (kept r u among u_in other leads off) (left (in_domain d r u) refl other leads off)

-- ---- one change

module _ (q : Problem) (rows : List Row) (sound : Sound q rows) (s : Option watched.State) (names : NamesRows rows s) where
  -- A change that is told takes what it may take.
  pub refused_may : (c : Change) (old new : State) → Leaves q s old new c → (r u : ℕ) → in_domain old r u ≡ true → in_domain new r u ≡ false → MayTake q rows c r u
  refused_may (LeftOne p cause.First from) old new l r u there gone = let h = l.refused r u there gone in (h.0, subst (λ (v : ℕ). IsFirstValue q v u → ⊥) (sym h.0) h.1)
  refused_may (LeftOne p (cause.Guess t) from) old new l r u there gone = l.refused r u there gone
  refused_may (LeftOne p (cause.Vertex v t) from) old new l r u there gone = let h = l.refused r u there gone in (h.0, subst (λ (w : ℕ). AreConsistent q v t w u → ⊥) (sym h.0) h.1)
  refused_may (LeftOne p (cause.Nogood name) from) old new l r u there gone =
      let h = l.refused r u there gone in
      let is = names name h.1.pairs h.1.named in (
        h.0,
        (
          is.0,
          subst (λ (xs : List (ℕ × ℕ)). IsOneOf xs (r, u)) (sym is.1)
              (subst (λ (v : ℕ). IsOneOf h.1.pairs (v, u)) (sym h.0) (one_at h.1.pairs h.1.place (p, u) h.1.within h.1.here)),
        ),
      )
    where
      one_at : (xs : List (ℕ × ℕ)) (k : ℕ) (x : ℕ × ℕ) → k < length xs → literal xs k ≡ x → IsOneOf xs x
      one_at [] k x k_in is = absurd (omega (arith, k_in))
      one_at (y ∷ ys) zero x k_in is = inl is
      one_at (y ∷ ys) (suc k) x k_in is = inr (one_at ys k x (omega (arith, k_in)) is)
  refused_may (LeftOne p (cause.Edge v t direction) from) old new l r u there gone = l.refused r u there gone
  refused_may (LeftOne p (cause.Order k v side) from) old new l r u there gone = l.refused r u there gone
  refused_may (LeftOver p t direction vertices values from) old new l r u there gone = l.refused r u there gone
  refused_may (LeftOthers centre vertices values from) old new l r u there gone =
      let h = l.refused r u there gone in (h.1, sym (same_among vertices r) ∙ h.2, sym (same_among values u) ∙ h.3)

  module _ (path known : List (ℕ × ℕ)) (at : Setting) (old : State) (values_is : old.values ≡ size q.target) (needed : ℕ → ℕ → Bool) (out : NeededOut q at old needed) (on_path : AreOn q at path)
      (on : AreOn q at known) where
    -- A line for its first domain.
    first_gives : (r u : ℕ) (line : Form) → ForcesFirst q line r → u < size q.target → (IsFirstValue q r u → ⊥) → Gives at (line ∷ []) (variable q r u) false
    first_gives r u line forces u_in refused = one_gives at line (variable q r u) false (forces at u u_in refused)

    guess_gives : (r t u : ℕ) → t < size q.target → u < size q.target → (u ≡ t → ⊥) → at (variable q r t) ≡ Some true → Gives at (at_most q r ∷ []) (variable q r u) false
    guess_gives r t u t_in u_in other is = one_gives at (at_most q r) (variable q r u) false (at_most_forces q at r t u t_in u_in other is)

    -- A decided vertex is at its value: it is known to be, or the constraint that it goes somewhere says so.
    decided_gives : (p t : ℕ) → HasAtMost old p t → IsUpheld path None needed (p, t) → Gives at (at_least q p ∷ []) (variable q p t) true
    decided_gives p t most (inl none) = absurd none
    decided_gives p t most (inr (inl here)) = inr (after_keeps at (at_least q p) (variable q p t) true (on_path (p, t) here))
    decided_gives p t most (inr (inr upheld)) = one_gives at (at_least q p) (variable q p t) true (at_least_forces q at p t (upheld_out q at old needed p t out most upheld))

    forced : (by_edges : Bool) (p t r u : ℕ) (line : Form) → Forces by_edges q line p t r → (z : Setting) → z (variable q p t) ≡ Some true → u < size q.target → (GoTogether by_edges q p t r u → ⊥)
        → (conflict z line ≡ true) ⊎ (after z line (variable q r u) ≡ Some false)
    forced false p t r u line forces z here u_in refused = forces z here u u_in refused
    forced true p t r u line forces z here u_in refused = forces z here u u_in refused

    vertex_gives : (by_edges : Bool) (p t r u : ℕ) (line : Form) (own : List Form) → HasAtMost old p t → IsUpheld path None needed (p, t) → Forces by_edges q line p t r
        → ((own ≡ line ∷ []) × IsOneOf known (p, t)) ⊎ (own ≡ at_least q p ∷ line ∷ []) → u < size q.target → (GoTogether by_edges q p t r u → ⊥) → Gives at own (variable q r u) false
    vertex_gives by_edges p t r u line own most upheld forces (inl h) u_in refused =
        subst (λ (fs : List Form). Gives at fs (variable q r u) false) (sym h.0) (one_gives at line (variable q r u) false (forced by_edges p t r u line forces at (on (p, t) h.1) u_in refused))
    vertex_gives by_edges p t r u line own most upheld forces (inr is) u_in refused =
        subst (λ (fs : List Form). Gives at fs (variable q r u) false) (sym is)
        (leads_on at (at_least q p ∷ []) (line ∷ []) (λ z. z (variable q p t) ≡ Some true) (variable q r u) false (decided_gives p t most upheld)
        (λ set. one_gives (after at (at_least q p)) line (variable q r u) false (forced by_edges p t r u line forces (after at (at_least q p)) set u_in refused)))

    -- What is shown of the decided vertex holds after its forms.
    pub vertex_shown : (p t r : ℕ) (line : Form) (own : List Form) → HasAtMost old p t → IsUpheld path None needed (p, t)
        → ((own ≡ line ∷ []) × IsOneOf known (p, t)) ⊎ (own ≡ at_least q p ∷ line ∷ []) → Gives at own (variable q p t) true
    vertex_shown p t r line own most upheld (inl h) = inr (run_keeps at own (variable q p t) true (on (p, t) h.1))
    vertex_shown p t r line own most upheld (inr is) =
        subst (λ (fs : List Form). Gives at fs (variable q p t) true) (sym is)
        (leads_on at (at_least q p ∷ []) (line ∷ []) (λ z. z (variable q p t) ≡ Some true) (variable q p t) true (decided_gives p t most upheld)
        (λ set. inr (after_keeps (after at (at_least q p)) line (variable q p t) true set)))

    nogood_gives : (name r u : ℕ) (own : List Form) → IsForbidden s old name r u → in_domain old r u ≡ true → AreUpheld path (Some r) needed (path_at rows name)
        → NogoodForms q known (Some r) (path_at rows name) own → Gives at own (variable q r u) false
    nogood_gives name r u own f there upheld h =
        subst (λ (fs : List Form). Gives at fs (variable q r u) false) (sym h.1)
        (leads_on at (at_leasts q h.0) (pairs_clause q (path_at rows name) ∷ []) (λ z. AreSet q z (IsPair r u) (path_at rows name)) (variable q r u) false
        (pairs_lead q at old path known needed h.0 (Some r) (IsPair r u) (path_at rows name) out on_path on h.2 upheld
        (subst (λ (xs : List (ℕ × ℕ)). (k : ℕ) → k < length xs → IsPair r u (literal xs k) ⊎ ((IsLeftOut (Some r) (literal xs k).0 → ⊥) × HasAtMost old (literal xs k).0 (literal xs k).1)) (sym is)
        (λ k k_in. by (literal f.pairs k) (f.rest k k_in))))
        (λ are. one_gives (run at (at_leasts q h.0)) (pairs_clause q (path_at rows name)) (variable q r u) false (clause_forces q (run at (at_leasts q h.0)) r u (path_at rows name) are)))
      where
        is : path_at rows name ≡ f.pairs
        is = (names name f.pairs f.named).1

        by : (x : ℕ × ℕ) → (x ≡ (r, u)) ⊎ HasAtMost old x.0 x.1 → IsPair r u x ⊎ ((IsLeftOut (Some r) x.0 → ⊥) × HasAtMost old x.0 x.1)
        by x (inl e) = inl (ap (λ (z : ℕ × ℕ). z.0) e, ap (λ (z : ℕ × ℕ). z.1) e)
        by x (inr most) = apart (cases_eq x.0 r)
          where
            apart : (x.0 ≡ r) ⊎ (x.0 ≡ r → ⊥) → IsPair r u x ⊎ ((IsLeftOut (Some r) x.0 → ⊥) × HasAtMost old x.0 x.1)
            apart (inl same) = inl (same, sym (most u (subst (λ (v : ℕ). in_domain old v u ≡ true) (sym same) there)))
            apart (inr other) = inr (other, most)

    -- The encoding's constraint on an edge, where no place that is left for p has one.
    edge_gives : (p r u : ℕ) (direction : Direction) → IsUnsupported q old direction p r u → AllSupport q p r u needed → Gives at (pair_form q r p u ∷ []) (variable q r u) false
    edge_gives p r u direction is support =
        one_gives at (pair_form q r p u) (variable q r u) false
        (leads_takes q at p r u (is_compatible q r u p)
        (λ w w_in fits. out p w w_in (support w w_in fits) (gone w (compatible_alike q direction p r u w is.joins is.value_in w_in fits) (in_domain old p w) refl)))
      where
        gone : (w : ℕ) → edge (turned direction q.target) w u ≡ edge (turned direction q.pattern) p r → (b : Bool) → in_domain old p w ≡ b → b ≡ false
        gone w alike true here = absurd (is.none w here alike)
        gone w alike false here = refl

    -- That of a pair that is to be in order, where no value on its side is left for the other vertex.
    order_gives : (k r u : ℕ) (side : Side) (own : List Form) → IsOutOfOrder q old k side r u → AllOnSide q k u side needed → IsOrdered q k side r u own → Gives at own (variable q r u) false
    order_gives k r u side own is kept ordered =
        subst (λ (fs : List Form). Gives at fs (variable q r u) false) (sym ordered.are)
        (one_gives at (leads_form q r u (end_beside side ordered.pair) (is_beside side u)) (variable q r u) false
        (leads_takes q at (end_beside side ordered.pair) r u (is_beside side u)
        (λ w w_in beside. out (end_beside side ordered.pair) w w_in (kept ordered.pair ordered.pair_is w w_in beside) (gone w beside (in_domain old (end_beside side ordered.pair) w) refl))))
      where
        same : is.pair ≡ ordered.pair
        same = some_same is.pair ordered.pair (sym is.pair_is ∙ ordered.pair_is)

        gone : (w : ℕ) → is_beside side u w ≡ true → (b : Bool) → in_domain old (end_beside side ordered.pair) w ≡ b → b ≡ false
        gone w beside true here = absurd (true≢false (sym beside ∙ is.none w (ap (λ (x : ℕ × ℕ). in_domain old (end_beside side x) w) same ∙ here)))
        gone w beside false here = refl

    set_gives : (b : Option ℕ) (vertices values : List ℕ) (r u : ℕ) (own : List Form) → HaveOnly q b old vertices values → length values ≤ length vertices → AreKeptIn vertices values needed → own ≡ set_forms q b vertices values
        → r < size q.pattern → in_block q b r ≡ true → is_among r vertices ≡ false → is_among u values ≡ true → u < size q.target → Gives at own (variable q r u) false
    set_gives b [] values r u own only few kept is r_in inside outside among u_in = absurd (none values few u among)
      where
        none : (us : List ℕ) → length us ≤ 0 → (v : ℕ) → is_among v us ≡ true → ⊥
        none [] short v here = cc
        none (w ∷ ws) short v here = omega (arith, short)
    set_gives b (p ∷ rest) values r u own only few kept is r_in inside outside among u_in =
        subst (λ (fs : List Form). Gives at fs (variable q r u) false) (sym is)
        (by (((explaining.change_laws q).counted at (only_these (p ∷ rest) values) (none_of_these q b (p ∷ rest) values) b p rest values (these_only q b old (p ∷ rest) values only) few
        (λ v w here. ap (λ (x : Bool). cond x (is_among w values) (not ((ltb v (size q.pattern) && in_block q b v) && is_among w values))) here ∙ sym (ap (λ (x : Bool). cond x (is_among w values) true) here))
        (λ v w there gone. left v w there gone)).forces at (λ v x e. e) (these_out q at b old needed (p ∷ rest) values only out kept)))
      where
        left : (v w : ℕ) → only_these (p ∷ rest) values v w ≡ true → none_of_these q b (p ∷ rest) values v w ≡ false → (v < size q.pattern) × (in_block q b v ≡ true) × (is_among w values ≡ true)
        left v w there gone = split (is_among v (p ∷ rest)) (ltb v (size q.pattern)) refl (in_block q b v) refl (is_among w values) refl there gone
          where
            split : (x c : Bool) → ltb v (size q.pattern) ≡ c → (d : Bool) → in_block q b v ≡ d → (e : Bool) → is_among w values ≡ e → cond x e true ≡ true → cond x e (not ((c && d) && e)) ≡ false
                → (v < size q.pattern) × (in_block q b v ≡ true) × (is_among w values ≡ true)
            split true c is_c d is_d e is_e here away = absurd (true≢false (sym here ∙ away))
            split false true is_c true is_d true is_e here away = (ltb-true v (size q.pattern) is_c, is_d, is_e)
            split false true is_c true is_d false is_e here away = absurd cc
            split false true is_c false is_d e is_e here away = absurd cc
            split false false is_c d is_d e is_e here away = absurd cc

        by : (refutes at (set_form q b p rest values ∷ []) ≡ true)
            ⊎ ((v w : ℕ) → not (is_among v (p ∷ rest)) ≡ true → w < size q.target → only_these (p ∷ rest) values v w ≡ true → none_of_these q b (p ∷ rest) values v w ≡ false
            → run at (set_form q b p rest values ∷ []) (variable q v w) ≡ Some false)
            → Gives at (set_form q b p rest values ∷ []) (variable q r u) false
        by (inl refuted) = inl refuted
        by (inr forced) = inr (forced r u (ap not outside) u_in (ap (λ (x : Bool). cond x (is_among u values) true) outside)
            (ap (λ (x : Bool). cond x (is_among u values) (not ((ltb r (size q.pattern) && in_block q b r) && is_among u values))) outside
            ∙ ap (λ (x : Bool). not ((x && in_block q b r) && is_among u values)) (lt-ltb r (size q.pattern) r_in) ∙ ap (λ (x : Bool). not (x && is_among u values)) inside ∙ ap not among))

    -- The line for neighbours that would be crowded.
    crowd_gives : (direction : Direction) (p t : ℕ) (vertices values : List ℕ) (own : List Form) → IsCrowded q old direction p t vertices values → AllBeside q direction t vertices values needed
        → own ≡ crowd_forms q p t vertices values → Gives at own (variable q p t) false
    crowd_gives direction p t [] values own is kept own_is = absurd (omega (arith, is.fewer))
    crowd_gives direction p t (r ∷ rest) values own is kept own_is =
        subst (λ (fs : List Form). Gives at fs (variable q p t) false) (sym own_is)
        (one_gives at (over_form q p t r rest values) (variable q p t) false
        (over_takes q at (beside_these q p t values) p t r rest values (these_beside q old direction p t (r ∷ rest) values is) is.fewer
        (beside_out q at old needed direction p t (r ∷ rest) values is out kept)))

    -- The forms of a change take what it took, and what it covers.
    pub change_gives : (by_edges : Bool) (c : Change) (new : State) (own : List Form) → Leaves q s old new c → ((r t from : ℕ) → c ≡ LeftOne r (cause.Guess t) from → at (variable q r t) ≡ Some true) → Needs q rows path c needed
        → ExplainsTold by_edges q rows known c own → (r u : ℕ) → u < size q.target → (in_domain old r u ≡ true) × (in_domain new r u ≡ false) × SufficesTold by_edges q c r u ⊎ ((in_domain old r u ≡ false) × CoversTold by_edges q c r u)
        → Gives at own (variable q r u) false
    change_gives by_edges (LeftOne p cause.First from) new own l guessed needs h r u u_in (inl gone) =
        let refused = l.refused r u gone.0 gone.1 in
        subst (λ (fs : List Form). Gives at fs (variable q r u) false) (sym h.1) (subst (λ (v : ℕ). Gives at (h.0 ∷ []) (variable q v u) false) (sym refused.0) (first_gives p u h.0 h.2 u_in refused.1))
    change_gives by_edges (LeftOne p cause.First from) new own l guessed needs h r u u_in (inr covers) = absurd covers.1.1
    change_gives by_edges (LeftOne p (cause.Guess t) from) new own l guessed needs h r u u_in which = by (cases_eq u t) which
      where
        t_in : t < size q.target
        t_in = subst (λ (n : ℕ). t < n) values_is (in_below old p t l.stands.1)

        take : r ≡ p → (u ≡ t → ⊥) → Gives at own (variable q r u) false
        take same other =
            subst (λ (fs : List Form). Gives at fs (variable q r u) false) (sym h)
            (subst (λ (v : ℕ). Gives at (at_most q p ∷ []) (variable q v u) false) (sym same) (guess_gives p t u t_in u_in other (guessed p t from refl)))

        by : (u ≡ t) ⊎ (u ≡ t → ⊥) → (in_domain old r u ≡ true) × (in_domain new r u ≡ false) × SufficesTold by_edges q (LeftOne p (cause.Guess t) from) r u ⊎ ((in_domain old r u ≡ false) × CoversTold by_edges q (LeftOne p (cause.Guess t) from) r u) → Gives at own (variable q r u) false
        by same (inl gone) = let refused = l.refused r u gone.0 gone.1 in take refused.0 refused.1
        by (inr other) (inr covers) = take covers.1.0 other
        by (inl same) (inr covers) =
            absurd (true≢false (sym l.stands.1 ∙ sym (ap (λ (v : ℕ). in_domain old v t) covers.1.0) ∙ ap (λ (v : ℕ). in_domain old r v) (sym same) ∙ covers.0))
    change_gives by_edges (LeftOne p (cause.Vertex v t) from) new own l guessed needs h r u u_in which = by which
      where
        take : r ≡ p → (GoTogether by_edges q v t p u → ⊥) → Gives at own (variable q r u) false
        take same refused = subst (λ (w : ℕ). Gives at own (variable q w u) false) (sym same) (vertex_gives by_edges v t p u h.0 own l.stands.decided needs h.2 h.1 u_in refused)

        by : (in_domain old r u ≡ true) × (in_domain new r u ≡ false) × SufficesTold by_edges q (LeftOne p (cause.Vertex v t) from) r u ⊎ ((in_domain old r u ≡ false) × CoversTold by_edges q (LeftOne p (cause.Vertex v t) from) r u) → Gives at own (variable q r u) false
        by (inl gone) =
            let refused = l.refused r u gone.0 gone.1 in
            take refused.0 (λ goes. refused.1 (subst (λ (w : ℕ). AreConsistent q v t w u) refused.0 (gone.2 refused.0 (subst (λ (w : ℕ). GoTogether by_edges q v t w u) (sym refused.0) goes))))
        by (inr covers) = take covers.1.0 (subst (λ (w : ℕ). GoTogether by_edges q v t w u → ⊥) covers.1.0 covers.1.1)
    change_gives by_edges (LeftOne p (cause.Nogood name) from) new own l guessed needs h r u u_in (inl gone) =
        let refused = l.refused r u gone.0 gone.1 in
        subst (λ (w : ℕ). Gives at own (variable q w u) false) (sym refused.0) (nogood_gives name p u own refused.1 (subst (λ (w : ℕ). in_domain old w u ≡ true) refused.0 gone.0) needs h)
    change_gives by_edges (LeftOne p (cause.Nogood name) from) new own l guessed needs h r u u_in (inr covers) = absurd covers.1.1
    change_gives by_edges (LeftOne p (cause.Edge v t direction) from) new own l guessed needs h r u u_in which = by which
      where
        take : r ≡ p → u ≡ t → Gives at own (variable q r u) false
        take same is =
            subst (λ (fs : List Form). Gives at fs (variable q r u) false) (sym h)
            (subst (λ (w : ℕ). Gives at (pair_form q p v t ∷ []) (variable q w u) false) (sym same)
            (subst (λ (w : ℕ). Gives at (pair_form q p v t ∷ []) (variable q p w) false) (sym is) (edge_gives v p t direction l.stands needs)))

        by : (in_domain old r u ≡ true) × (in_domain new r u ≡ false) × SufficesTold by_edges q (LeftOne p (cause.Edge v t direction) from) r u ⊎ ((in_domain old r u ≡ false) × CoversTold by_edges q (LeftOne p (cause.Edge v t direction) from) r u) → Gives at own (variable q r u) false
        by (inl gone) = let refused = l.refused r u gone.0 gone.1 in take refused.0 refused.1
        by (inr covers) = take covers.1.0 covers.1.1
    change_gives by_edges (LeftOthers centre vertices values from) new own l guessed needs h r u u_in (inl gone) =
        let refused = l.refused r u gone.0 gone.1 in
        set_gives centre vertices values r u own l.stands.0 l.stands.1 needs h refused.0 refused.1 (sym (same_among vertices r) ∙ refused.2) (sym (same_among values u) ∙ refused.3) u_in
    change_gives by_edges (LeftOthers centre vertices values from) new own l guessed needs h r u u_in (inr covers) =
        set_gives centre vertices values r u own l.stands.0 l.stands.1 needs h covers.1.0 covers.1.1 covers.1.2 covers.1.3 u_in
    change_gives by_edges (LeftOne p (cause.Order k v side) from) new own l guessed needs h r u u_in which = by which
      where
        take : r ≡ p → u ≡ v → Gives at own (variable q r u) false
        take same is =
            subst (λ (w : ℕ). Gives at own (variable q w u) false) (sym same)
            (subst (λ (w : ℕ). Gives at own (variable q p w) false) (sym is) (order_gives k p v side own l.stands needs h))

        by : (in_domain old r u ≡ true) × (in_domain new r u ≡ false) × SufficesTold by_edges q (LeftOne p (cause.Order k v side) from) r u ⊎ ((in_domain old r u ≡ false) × CoversTold by_edges q (LeftOne p (cause.Order k v side) from) r u) → Gives at own (variable q r u) false
        by (inl gone) = let refused = l.refused r u gone.0 gone.1 in take refused.0 refused.1
        by (inr covers) = take covers.1.0 covers.1.1
    change_gives by_edges (LeftOver p t direction vertices values from) new own l guessed needs h r u u_in which = by which
      where
        take : r ≡ p → u ≡ t → Gives at own (variable q r u) false
        take same is =
            subst (λ (w : ℕ). Gives at own (variable q w u) false) (sym same)
            (subst (λ (w : ℕ). Gives at own (variable q p w) false) (sym is) (crowd_gives direction p t vertices values own l.stands needs h))

        by : (in_domain old r u ≡ true) × (in_domain new r u ≡ false) × SufficesTold by_edges q (LeftOver p t direction vertices values from) r u ⊎ ((in_domain old r u ≡ false) × CoversTold by_edges q (LeftOver p t direction vertices values from) r u) → Gives at own (variable q r u) false
        by (inl gone) = let refused = l.refused r u gone.0 gone.1 in take refused.0 refused.1
        by (inr covers) = take covers.1.0 covers.1.1
