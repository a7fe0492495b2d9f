-- Crowded neighbours: what a look gathers certifies, and no embedding within the domains has the value.

use Rattle.std.proofs.Common.{◌≡◌, ℕ, ◌*◌, ◌<◌, ◌≤◌, true, false, ◌&&◌, ◌||◌, not, is_some, eqb, List, [], ◌∷◌, length, slice_index, refl, sym, ◌∙◌, subst, arith, ◌⊎◌, inl, inr}
use Rattle.std.proofs.lemmas.Bool.{true≢false, and_parts, and_from, or_cases, or_left, or_right, cases_eq, eq-eqb, eqb-true, ne_eqb}
use Rattle.graph_theory.specs.Graph.{Graph, size, edge}
use Rattle.graph_theory.specs.Embedding.{Problem, Embeds, is_injective, differ_in}
use Rattle.graph_theory.specs.declared.embedding.Maps.{Maps}
use Rattle.graph_theory.specs.declared.embedding.Maps.TheVariants.{Injective, Local, Any}
use Rattle.graph_theory.specs.Reversed.{turned}
use Rattle.graph_theory.specs.Neighbours.{count, members}
use Rattle.graph_theory.specs.declared.direction.Direction.{Direction}
use Rattle.graph_theory.proofs.Counts.{without, count-less, count-without}
use Rattle.graph_theory.proofs.ReversedGraphs.{embeds_turned}
use Rattle.search_theory.specs.Claims.{Inside}
use Rattle.all_different.specs.Pruning.{among}
use Rattle.all_different.proofs.Choosing.{pigeons}
use Rattle.bit_rows.specs.BitRows.{has}
use Rattle.bit_rows.proofs.Passing.{length-members}
use Rattle.domain_bits.specs.Removals.{State, in_domain}
use Rattle.recorder.specs.Recording.{members_of}
use Rattle.recorder.specs.Telling.{AreDistinct, IsCrowded, Joins}
use Rattle.propagation.specs.Crowding.{Gathers, IsShort}
use Rattle.propagation.specs.Learning.{IsUnused}
use Rattle.propagation.proofs.Reasons.{passes_among, among_passing, few_among, distinct_counted, held_in}
use Rattle.propagation.proofs.Supporting.{kept_there}

-- ---- gathering

-- empty rows gather nothing
pub gathers_none : (d : State) (p t : ℕ) (near images chosen union : List ℕ) → ((v : ℕ) → has chosen v ≡ false) → ((v : ℕ) → has union v ≡ false) → Gathers d p t near images chosen union
gathers_none d p t near images chosen union none none_left = record {
  near_all = λ r here. absurd (true≢false (sym here ∙ none r));
  apart = λ r here. absurd (true≢false (sym here ∙ none r));
  images_all = λ u here. absurd (true≢false (sym here ∙ none_left u));
  within = λ r u here left other image. absurd (true≢false (sym here ∙ none r));
}

-- one neighbour more, with what is left for it among the images but t
pub gathers_more : (d : State) (p t r : ℕ) (near images chosen union domain row cut after_chosen after_union : List ℕ) → has near r ≡ true → (p ≡ r → ⊥) → ((v : ℕ) → has domain v ≡ in_domain d r v)
    → ((v : ℕ) → has row v ≡ (has domain v && has images v)) → ((v : ℕ) → has cut v ≡ (has row v && not (eqb t v))) → ((v : ℕ) → has after_union v ≡ (has union v || has cut v))
    → ((v : ℕ) → has after_chosen v ≡ (has chosen v || eqb r v)) → Gathers d p t near images chosen union → Gathers d p t near images after_chosen after_union
gathers_more d p t r near images chosen union domain row cut after_chosen after_union here apart bits kept taken gained more g = record {
  near_all = λ v there. near_by v (or_cases (has chosen v) (eqb r v) (sym (more v) ∙ there));
  apart = λ v there. apart_by v (or_cases (has chosen v) (eqb r v) (sym (more v) ∙ there));
  images_all = λ u there. images_by u (or_cases (has union u) (has cut u) (sym (gained u) ∙ there));
  within = λ v u there left other image. gained u ∙ within_by v u left other image (or_cases (has chosen v) (eqb r v) (sym (more v) ∙ there));
}
  where
    near_by : (v : ℕ) → (has chosen v ≡ true) ⊎ (eqb r v ≡ true) → has near v ≡ true
    near_by v (inl before) = g.near_all v before
    near_by v (inr same) = subst (λ (x : ℕ). has near x ≡ true) (eqb-true r v same) here

    apart_by : (v : ℕ) → (has chosen v ≡ true) ⊎ (eqb r v ≡ true) → p ≡ v → ⊥
    apart_by v (inl before) = g.apart v before
    apart_by v (inr same) = subst (λ (x : ℕ). p ≡ x → ⊥) (eqb-true r v same) apart

    images_by : (u : ℕ) → (has union u ≡ true) ⊎ (has cut u ≡ true) → has images u ≡ true
    images_by u (inl before) = g.images_all u before
    images_by u (inr new) = (and_parts (has domain u) (has images u) (sym (kept u) ∙ (and_parts (has row u) (not (eqb t u)) (sym (taken u) ∙ new)).0)).1

    here_cut : (u : ℕ) → in_domain d r u ≡ true → (t ≡ u → ⊥) → has images u ≡ true → has cut u ≡ true
    here_cut u left other image =
        taken u ∙ and_from (has row u) (not (eqb t u)) (kept u ∙ and_from (has domain u) (has images u) (bits u ∙ left) image) (rw (ne_eqb t u other) refl)

    within_by : (v u : ℕ) → in_domain d v u ≡ true → (t ≡ u → ⊥) → has images u ≡ true → (has chosen v ≡ true) ⊎ (eqb r v ≡ true) → (has union u || has cut u) ≡ true
    within_by v u left other image (inl before) = or_left (has union u) (has cut u) (g.within v u before left other image)
    within_by v u left other image (inr same) =
        or_right (has union u) (has cut u) (here_cut u (subst (λ (x : ℕ). in_domain d x u ≡ true) (sym (eqb-true r v same)) left) other image)

-- ---- what it certifies

members_distinct : (row : List ℕ) → AreDistinct (members_of row)
members_distinct row =
    let n = 64 * length row in
    distinct_counted (members_of row) n
    (omega (arith, length-members (has row) n, count-less (has row) (among (members (has row) n)) n (λ v v_in passes. among_passing (has row) n v passes v_in)))

-- neighbours that are short of images are crowded
pub crowded_of : (q : Problem) (d : State) (direction : Direction) (p t : ℕ) (near images chosen union : List ℕ) → is_injective q.maps ≡ true → p < size q.pattern → t < size q.target
    → ((r : ℕ) → has near r ≡ is_some (edge (turned direction q.pattern) p r)) → ((r : ℕ) → has near r ≡ true → r < size q.pattern)
    → ((u : ℕ) → has images u ≡ is_some (edge (turned direction q.target) t u)) → ((u : ℕ) → has images u ≡ true → u < size q.target) → Gathers d p t near images chosen union
    → IsShort chosen union → IsCrowded q d direction p t (members_of chosen) (members_of union)
crowded_of q d direction p t near images chosen union injective p_in t_in near_is near_in images_are images_in g short = record {
  injective = injective;
  vertex_in = p_in;
  value_in = t_in;
  joins = λ r here. joins_at r (passes_among (has chosen) (64 * length chosen) r here);
  distinct = members_distinct chosen;
  values_in = λ u here. images_in u (g.images_all u (passes_among (has union) (64 * length union) u here));
  within = λ r u here left other leads.
      let held = g.within r u (passes_among (has chosen) (64 * length chosen) r here) left other (images_are u ∙ leads) in
      among_passing (has union) (64 * length union) u held (held_in union u held);
  fewer = omega (arith, length-members (has union) (64 * length union), length-members (has chosen) (64 * length chosen), short);
}
  where
    joins_at : (r : ℕ) → has chosen r ≡ true → Joins q direction p r
    joins_at r here = record {
      vertex_in = p_in;
      other_in = near_in r (g.near_all r here);
      apart = g.apart r here;
      joined = sym (near_is r) ∙ g.near_all r here;
    }

-- the same of rows by their graphs, under the names by which it is told
pub spot_crowded : (q : Problem) (d : State) (pattern target : Graph) (direction : Direction) (p t : ℕ) (near images chosen union vertices values : List ℕ) → is_injective q.maps ≡ true → pattern ≡ q.pattern → target ≡ q.target
    → p < size q.pattern → t < size q.target → ((r : ℕ) → has near r ≡ is_some (edge (turned direction pattern) p r)) → ((r : ℕ) → has near r ≡ true → r < size pattern)
    → ((u : ℕ) → has images u ≡ is_some (edge (turned direction target) t u)) → ((u : ℕ) → has images u ≡ true → u < size target) → Gathers d p t near images chosen union
    → IsShort chosen union → chosen ≡ vertices → union ≡ values → IsCrowded q d direction p t (members_of vertices) (members_of values)
spot_crowded q d pattern target direction p t near images chosen union vertices values injective pattern_is target_is p_in t_in near_is near_in images_are images_in g short vertices_are values_are =
    subst (λ (xs : List ℕ). IsCrowded q d direction p t (members_of xs) (members_of values)) vertices_are
    (subst (λ (ys : List ℕ). IsCrowded q d direction p t (members_of chosen) (members_of ys)) values_are
    (crowded_of q d direction p t near images chosen union injective p_in t_in
    (subst (λ (h : Graph). (r : ℕ) → has near r ≡ is_some (edge (turned direction h) p r)) pattern_is near_is)
    (subst (λ (h : Graph). (r : ℕ) → has near r ≡ true → r < size h) pattern_is near_in)
    (subst (λ (h : Graph). (u : ℕ) → has images u ≡ is_some (edge (turned direction h) t u)) target_is images_are)
    (subst (λ (h : Graph). (u : ℕ) → has images u ≡ true → u < size h) target_is images_in) g short))

-- ---- what it means

-- numbers that are listed once are counted
counted_distinct : (xs : List ℕ) (n : ℕ) → AreDistinct xs → ((x : ℕ) → among xs x ≡ true → x < n) → length xs ≤ count (among xs) n
counted_distinct [] n distinct below = omega arith
counted_distinct (x ∷ xs) n (off, distinct) below =
    let here : among (x ∷ xs) x ≡ true = or_left (eqb x x) (among xs x) (eq-eqb x x refl) in
    omega (
      arith,
      counted_distinct xs n distinct (λ y y_in. below y (or_right (eqb x y) (among xs y) y_in)),
      count-without (among (x ∷ xs)) x n (below x here) here,
      count-less (among xs) (without (among (x ∷ xs)) x) n (λ v v_in there. stays v there (cases_eq v x)),
    )
  where
    stays : (v : ℕ) → among xs v ≡ true → (v ≡ x) ⊎ (v ≡ x → ⊥) → without (among (x ∷ xs)) x v ≡ true
    stays v there (inl same) = absurd (true≢false (sym (subst (λ (y : ℕ). among xs y ≡ true) same there) ∙ off))
    stays v there (inr other) = and_from (among (x ∷ xs) v) (not (eqb v x)) (or_right (eqb x v) (among xs v) there) (rw (ne_eqb v x other) refl)

-- a value beside which neighbours are crowded is of no embedding within the domains
pub unused_crowded : (q : Problem) (d : State) (direction : Direction) (p t : ℕ) (vertices values : List ℕ) → IsCrowded q d direction p t vertices values → IsUnused q d (p, t, 0)
unused_crowded q d direction p t vertices values is = record {
  vertex_in = is.vertex_in;
  value_in = is.value_in;
  none = clash;
}
  where
    differs : (k : Maps) → is_injective k ≡ true → (r s : ℕ) → differ_in k q.pattern r s ≡ true
    differs Injective on r s = refl
    differs Local on r s = cc
    differs Any on r s = cc

    clash : (m : List ℕ) → Embeds q m → Inside q (in_domain d) m → slice_index m p ≡ t → ⊥
    clash m e h here =
        omega (
          arith,
          is.fewer,
          counted_distinct vertices (size q.pattern) is.distinct (λ r r_in. (is.joins r r_in).other_in),
          few_among values (size q.target),
          pigeons (among vertices) (among values) (size q.pattern) (size q.target) (slice_index m) (λ r r_in there. let image = goes r there in (is.values_in (slice_index m r) image, image))
              (λ r s r_in s_in r_there s_there same. e.distinct r s r_in s_in (differs q.maps is.injective r s) same),
        )
      where
        goes : (r : ℕ) → among vertices r ≡ true → among values (slice_index m r) ≡ true
        goes r there =
            let joins = is.joins r there in
            is.within r (slice_index m r) there (h r joins.other_in) (λ same. joins.apart (e.distinct p r joins.vertex_in joins.other_in (differs q.maps is.injective p r) (here ∙ same)))
            (subst (λ (v : ℕ). is_some (edge (turned direction q.target) v (slice_index m r)) ≡ true) here
            (kept_there q.induced _ _ ((embeds_turned direction q m e).edges p r joins.vertex_in joins.other_in) joins.joined))
