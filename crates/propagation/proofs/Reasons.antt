-- Each cause explains what leaves by it.

use Rattle.std.proofs.Common.{◌≡◌, ℕ, zero, suc, ◌+◌, ◌*◌, ◌/◌, ◌==◌, ◌<◌, ◌≤◌, ◌&&◌, ◌||◌, not, cond, eqb, ltb, Bool, true, false, List, [], ◌∷◌, ◌++◌, length, Option, Some, None, get_or, refl, sym, ap, ◌∙◌, subst, arith, ◌⊎◌, inl, inr}
use Rattle.std.proofs.lemmas.Bool.{cases_eq, cases_lt, eq-eqb, eqb-true, ne_eqb, and_parts, or_cases, ltb-true, true≢false}
use Rattle.std.proofs.lemmas.List.{append-nil}
use Rattle.graph_theory.specs.Graph.{size}
use Rattle.graph_theory.specs.Embedding.{Problem}
use Rattle.graph_theory.specs.Blocks.{has_block, has_block_in}
use Rattle.graph_theory.specs.declared.embedding.Maps.{Maps}
use Rattle.graph_theory.specs.declared.embedding.Maps.TheVariants.{Injective}
use Rattle.graph_theory.specs.declared.direction.Direction.{Direction}
use Rattle.search_theory.specs.Claims.{Single}
use Rattle.bit_rows.specs.BitRows.{has}
use Rattle.graph_theory.specs.Neighbours.{count, members}
use Rattle.domain_bits.specs.Changes as changes
use Rattle.domain_bits.specs.Removals.{State, in_domain, size_of}
use Rattle.bit_rows.proofs.Passing.{length-members, count_past, count_le, count_same, count_none}
use Rattle.bit_rows.proofs.Rows.{has_past}
use Rattle.domain_bits.proofs.Sizes.{in_below}
use Rattle.all_different.specs.declared.Pruned.TheVariants as pruned
use Rattle.all_different.specs.Ranks.{rank}
use Rattle.all_different.specs.Prefixes.{in_prefix, in_union, union_size, Short}
use Rattle.all_different.specs.Pruning.{among, Shows, Prunes, without_union}
use Rattle.all_different.proofs.Choosing.{union_has}
use Rattle.all_different.proofs.Cleared.{cleared_follows, cleared_domain}
use Rattle.all_different.proofs.Scanning.{union_below}
use Rattle.all_different.proofs.Showing.{lists_inside, shows_united}
use Rattle.all_different.proofs.Unions.{count_prefix}
use Rattle.nogood_watch.specs.Nogoods as watched
use Rattle.nogood_watch.specs.Nogoods.{literal, partner, nogood_of, AreWatches}
use Rattle.nogood_watch.specs.Watching.{IsAssigned, Follows, AllFollow, IsWhole, forced_at}
use Rattle.nogood_watch.proofs.Visits.{partner_half, partner_in}
use Rattle.recorder.specs.declared.change.Cause.{Cause}
use Rattle.recorder.specs.declared.change.Cause.TheVariants as cause
use Rattle.recorder.specs.Recording.{Change, LeftOne, LeftOthers, LeftOver, CountedSet, members_of, KeepsUnited}
use Rattle.recorder.specs.Telling.{IsOf, HasFirst, HasAtMost, NamesUnit, RefusesBy, StandsBy, IsForbidden, AreForbidden, IsCrowded, AreDistinct, HaveOnly, HasShort, Leaves, IsDecided, IsShown}
use Rattle.propagation.specs.Propagation.{Sweeps}
use Rattle.propagation.proofs.Visits.{gone_kept}
use Rattle.propagation.proofs.Forcing.{half_in}

-- ---- one domain

-- what is taken as not consistent with a decided vertex
pub leaves_swept : (answer : Bool) (q : Problem) (s : Option watched.State) (old new : State) (before after : List Bool) (p t r from : ℕ) → p < size q.pattern → t < size q.target → r < size q.pattern
    → (p ≡ r → ⊥) → Single (in_domain old) p t → from ≡ length old.removed → Sweeps answer q old before new after p t r → Leaves q s old new (LeftOne r (cause.Vertex p t) from)
leaves_swept answer q s old new before after p t r from p_in t_in r_in apart single is w = record {
  vertices_same = w.narrows.vertices_same;
  values_same = w.narrows.values_same;
  rest = w.narrows.rest;
  front = w.narrows.front;
  from_is = is;
  stands = record { vertex_in = p_in; value_in = t_in; other_in = r_in; apart = apart; decided = single.only };
  refused = w.gone;
}

-- where one value is taken, only that one leaves
only_taken : (u v : ℕ) → not (v == u) ≡ false → v ≡ u
only_taken u v out = by (v == u) refl out
  where
    by : (b : Bool) → (v == u) ≡ b → not b ≡ false → v ≡ u
    by true is out = eqb-true v u is
    by false is out = cc

-- what is taken of one value by a cause that refuses it
pub leaves_by : (q : Problem) (s : Option watched.State) (old new : State) (r u from : ℕ) (why : Cause) → changes.Keeps old new r (λ v. not (v == u)) → StandsBy why q old r
    → RefusesBy why q s old r u → from ≡ length old.removed → Leaves q s old new (LeftOne r why from)
leaves_by q s old new r u from why k stands refuses is = record {
  vertices_same = k.shrinks.vertices_same;
  values_same = k.shrinks.values_same;
  rest = k.shrinks.rest;
  front = k.shrinks.front;
  from_is = is;
  stands = stands;
  refused = λ x v here gone.
      let left = gone_kept old new r (λ w. not (w == u)) k x v here gone in
      (left.0, subst (λ (w : ℕ). RefusesBy why q s old r w) (sym (only_taken u v left.1)) refuses);
}

-- what is taken where neighbours would be crowded
pub leaves_crowded : (q : Problem) (s : Option watched.State) (old new : State) (direction : Direction) (p t : ℕ) (vertices values : List ℕ) (from : ℕ)
    → changes.Keeps old new p (λ v. not (v == t)) → IsCrowded q old direction p t vertices values → from ≡ length old.removed → Leaves q s old new (LeftOver p t direction vertices values from)
leaves_crowded q s old new direction p t vertices values from k crowded is = record {
  vertices_same = k.shrinks.vertices_same;
  values_same = k.shrinks.values_same;
  rest = k.shrinks.rest;
  front = k.shrinks.front;
  from_is = is;
  stands = crowded;
  refused = λ x v here gone.
      let left = gone_kept old new p (λ w. not (w == t)) k x v here gone in
      (left.0, only_taken t v left.1);
}

-- what is not in the first domain
pub leaves_first : (q : Problem) (s : Option watched.State) (old new : State) (p from : ℕ) (row : List ℕ) → IsOf q old → p < old.vertices → changes.Keeps old new p (has row)
    → HasFirst q p row → from ≡ length old.removed → Leaves q s old new (LeftOne p cause.First from)
leaves_first q s old new p from row of p_in k complete is = record {
  vertices_same = k.shrinks.vertices_same;
  values_same = k.shrinks.values_same;
  rest = k.shrinks.rest;
  front = k.shrinks.front;
  from_is = is;
  stands = subst (λ (n : ℕ). p < n) of.vertices_is p_in;
  refused = λ x v here gone.
      let left = gone_kept old new p (has row) k x v here gone in
      (left.0, λ first. true≢false (sym (complete v first (subst (λ (n : ℕ). v < n) of.values_is (in_below old x v here))) ∙ left.1));
}

-- what a guess takes
pub leaves_given : (q : Problem) (s : Option watched.State) (old new : State) (p t from : ℕ) → IsOf q old → p < old.vertices → in_domain old p t ≡ true → changes.Keeps old new p (λ u. u == t)
    → from ≡ length old.removed → Leaves q s old new (LeftOne p (cause.Guess t) from)
leaves_given q s old new p t from of p_in t_in k is = record {
  vertices_same = k.shrinks.vertices_same;
  values_same = k.shrinks.values_same;
  rest = k.shrinks.rest;
  front = k.shrinks.front;
  from_is = is;
  stands = (subst (λ (n : ℕ). p < n) of.vertices_is p_in, t_in);
  refused = λ x v here gone.
      let left = gone_kept old new p (λ u. u == t) k x v here gone in
      (left.0, λ same. true≢false (sym (eq-eqb v t same) ∙ left.1));
}

-- ---- domains counted together

among_push : (xs : List ℕ) (y t : ℕ) → among (xs ++ y ∷ []) t ≡ (among xs t || eqb y t)
among_push [] y t = right (eqb y t)
  where
    right : (b : Bool) → (b || false) ≡ b
    right true = refl
    right false = refl
among_push (x ∷ xs) y t = rw (among_push xs y t) (turned (eqb x t) (among xs t) (eqb y t))
  where
    turned : (a b c : Bool) → (a || (b || c)) ≡ ((a || b) || c)
    turned true b c = refl
    turned false b c = refl

-- a number that is among the members passes
pub passes_among : (f : ℕ → Bool) (n t : ℕ) → among (members f n) t ≡ true → f t ≡ true
passes_among f zero t h = cc
passes_among f (suc n) t h = by (f n) refl (passes_among f n t) h
  where
    by : (b : Bool) → f n ≡ b → (among (members f n) t ≡ true → f t ≡ true) → among (members f n ++ cond b (n ∷ []) []) t ≡ true → f t ≡ true
    by true is earlier here = parts (or_cases (among (members f n) t) (eqb n t) (sym (among_push (members f n) n t) ∙ here))
      where
        parts : (among (members f n) t ≡ true) ⊎ (eqb n t ≡ true) → f t ≡ true
        parts (inl before) = earlier before
        parts (inr same) = subst (λ (i : ℕ). f i ≡ true) (eqb-true n t same) is
    by false is earlier here = earlier (subst (λ (xs : List ℕ). among xs t ≡ true) (append-nil (members f n)) here)

-- and one that passes is among them
pub among_passing : (f : ℕ → Bool) (n t : ℕ) → f t ≡ true → t < n → among (members f n) t ≡ true
among_passing f zero t passes t_in = absurd (omega (arith, t_in))
among_passing f (suc n) t passes t_in = by (among_passing f n t passes) (cases_eq n t)
  where
    either : (a b : Bool) → (a ≡ true) ⊎ (b ≡ true) → (a || b) ≡ true
    either true b h = refl
    either false b (inl h) = cc
    either false b (inr h) = h

    before : among (members f n) t ≡ true → (b : Bool) → among (members f n ++ cond b (n ∷ []) []) t ≡ true
    before there true = among_push (members f n) n t ∙ either (among (members f n) t) (eqb n t) (inl there)
    before there false = subst (λ (xs : List ℕ). among xs t ≡ true) (sym (append-nil (members f n))) there

    last : (b : Bool) → f n ≡ b → n ≡ t → among (members f n ++ cond b (n ∷ []) []) t ≡ true
    last true is same = among_push (members f n) n t ∙ either (among (members f n) t) (eqb n t) (inr (eq-eqb n t same))
    last false is same = absurd (true≢false (sym (ap f same ∙ passes) ∙ is))

    by : (t < n → among (members f n) t ≡ true) → (n ≡ t) ⊎ (n ≡ t → ⊥) → among (members f n ++ cond (f n) (n ∷ []) []) t ≡ true
    by earlier (inl same) = last (f n) refl same
    by earlier (inr other) = before (earlier (omega (arith, t_in, other))) (f n)

-- a number that passes one of two tests is counted by one of them
count_either : (f g : ℕ → Bool) (n : ℕ) → count (λ i. f i || g i) n ≤ count f n + count g n
count_either f g zero = omega arith
count_either f g (suc n) = by (f n) (g n) (count_either f g n)
  where
    by : (a b : Bool) → count (λ i. f i || g i) n ≤ count f n + count g n
        → cond (a || b) 1 0 + count (λ i. f i || g i) n ≤ (cond a 1 0 + count f n) + (cond b 1 0 + count g n)
    by true true h = omega (arith, h)
    by true false h = omega (arith, h)
    by false true h = omega (arith, h)
    by false false h = omega (arith, h)

-- a number equals at most one
count_equal : (x n : ℕ) → count (λ i. eqb x i) n ≤ 1
count_equal x zero = omega arith
count_equal x (suc n) = by (count_equal x n) (cases_eq x n)
  where
    by : count (λ i. eqb x i) n ≤ 1 → (x ≡ n) ⊎ (x ≡ n → ⊥) → cond (eqb x n) 1 0 + count (λ i. eqb x i) n ≤ 1
    by earlier (inl same) = rw (eq-eqb x n same) (omega (arith, count_none (λ i. eqb x i) n (λ i i_in. ne_eqb x i (λ is. omega (arith, i_in, is, same)))))
    by earlier (inr other) = rw (ne_eqb x n other) (omega (arith, earlier))

pub few_among : (xs : List ℕ) (n : ℕ) → count (among xs) n ≤ length xs
few_among [] n = omega (arith, count_none (among []) n (λ i i_in. refl))
few_among (x ∷ xs) n = omega (arith, count_either (λ i. eqb x i) (among xs) n, count_equal x n, few_among xs n)

-- a list of as many numbers as are among it has none twice
pub distinct_counted : (xs : List ℕ) (n : ℕ) → length xs ≤ count (among xs) n → AreDistinct xs
distinct_counted [] n h = tt
distinct_counted (x ∷ xs) n h = by (distinct_counted xs n) (among xs x) refl
  where
    same : among xs x ≡ true → (i : ℕ) → (eqb x i || among xs i) ≡ among xs i
    same there i = at (eqb x i) refl
      where
        at : (b : Bool) → eqb x i ≡ b → (b || among xs i) ≡ among xs i
        at true is = sym (subst (λ (k : ℕ). among xs k ≡ true) (eqb-true x i is) there)
        at false is = refl

    by : (length xs ≤ count (among xs) n → AreDistinct xs) → (b : Bool) → among xs x ≡ b → (b ≡ false) × AreDistinct xs
    by rest true there = absurd (omega (arith, h, count_same (among (x ∷ xs)) (among xs) n (λ i i_in. same there i), few_among xs n))
    by rest false off = (refl, rest (omega (arith, h, count_either (λ i. eqb x i) (among xs) n, count_equal x n)))

-- what a row holds is one of its bits
pub held_in : (row : List ℕ) (t : ℕ) → has row t ≡ true → t < 64 * length row
held_in row t h = by (cases_lt t (64 * length row))
  where
    by : (t < 64 * length row) ⊎ (64 * length row ≤ t) → t < 64 * length row
    by (inl lt) = lt
    by (inr le) = absurd (true≢false (sym h ∙ has_past row t le))

-- where any two images have to differ, all vertices are a block
all_block : (q : Problem) → q.maps ≡ Injective → has_block q None ≡ true
all_block q injective = ap (λ (k : Maps). has_block_in k q.pattern None) injective

-- the vertices of a shown set have no other values than the row, which are no more than the union has
pub shown_only : (q : Problem) (d : State) (n : ℕ) (set row : List ℕ) → q.maps ≡ Injective → IsOf q d → n ≤ d.vertices → Shows d n set row → HaveOnly q None d set (members_of row)
shown_only q d n set row injective of within shows = record {
  block = all_block q injective;
  members = λ p here. refl;
  vertices_in = λ p here. subst (λ (k : ℕ). p < k) of.vertices_is (prefix_in p (sym (shows.vertices p) ∙ here));
  values_in = λ t here. subst (λ (k : ℕ). t < k) of.values_is (union_below d n t (sym (shows.values t) ∙ passes_among (has row) (64 * length row) t here));
  distinct = distinct_counted set d.vertices (omega (arith, shows.size, count_prefix d n within, count_same (among set) (in_prefix d n) d.vertices (λ p p_in. shows.vertices p)));
  within = λ p t here there.
      let prefix = sym (shows.vertices p) ∙ here in
      let held = shows.values t ∙ union_has d n p t (prefix_in p prefix) prefix there in
      among_passing (has row) (64 * length row) t held (held_in row t held);
}
  where
    prefix_in : (p : ℕ) → in_prefix d n p ≡ true → p < d.vertices
    prefix_in p h = ltb-true p d.vertices (and_parts (ltb p d.vertices) (ltb (rank (size_of d) d.vertices p) n) h).0

-- a row that is a union has no more values than the union
pub values_few : (d : State) (n : ℕ) (row : List ℕ) → ((t : ℕ) → has row t ≡ in_union d n t) → length (members_of row) ≤ union_size d n
values_few d n row same =
    omega (
      arith,
      length-members (has row) (64 * length row),
      count_same (has row) (in_union d n) (64 * length row) (λ t t_in. same t),
      count_le (in_union d n) (in_union d n) (64 * length row) (d.values + 64 * length row) (omega arith) (λ t h. h),
      count_past (in_union d n) d.values (64 * length row) (λ t le. beyond t le (in_union d n t) refl),
    )
  where
    beyond : (t : ℕ) → d.values ≤ t → (b : Bool) → in_union d n t ≡ b → b ≡ false
    beyond t le true h = absurd (omega (arith, le, union_below d n t h))
    beyond t le false h = refl

-- the values of a set leave all other domains
pub leaves_counted : (q : Problem) (s : Option watched.State) (old new : State) (set row : List ℕ) (from : ℕ) → q.maps ≡ Injective → IsOf q old → Prunes pruned.Hall old new set row
    → from ≡ length old.removed → Leaves q s old new (LeftOthers None set (members_of row) from)
leaves_counted q s old new set row from injective of (n, none, first, shows, after) is =
    subst (λ (d : State). Leaves q s old d (LeftOthers None set (members_of row) from)) (sym after) leaves
  where
    cleared_in : (p t : ℕ) → in_domain old p t ≡ true → in_domain (without_union old n) p t ≡ false → (ltb p old.vertices && (not (in_prefix old n p) && in_union old n t)) ≡ true
    cleared_in p t here gone = failed (in_domain old p t) (ltb p old.vertices && (not (in_prefix old n p) && in_union old n t)) here
        (sym (cleared_domain old (λ r. not (in_prefix old n r)) (in_union old n) old.vertices p t) ∙ gone)
      where
        failed : (a b : Bool) → a ≡ true → (a && not b) ≡ false → b ≡ true
        failed true true h out = refl
        failed true false h out = cc
        failed false b h out = cc

    refused : (p t : ℕ) → in_domain old p t ≡ true → in_domain (without_union old n) p t ≡ false → (p < size q.pattern) × (true ≡ true) × (among set p ≡ false) × (among (members_of row) t ≡ true)
    refused p t here gone =
        let parts = and_parts (ltb p old.vertices) (not (in_prefix old n p) && in_union old n t) (cleared_in p t here gone) in
        let more = and_parts (not (in_prefix old n p)) (in_union old n t) parts.1 in
        let held = shows.values t ∙ more.1 in (
          subst (λ (k : ℕ). p < k) of.vertices_is (ltb-true p old.vertices parts.0),
          refl,
          shows.vertices p ∙ off (in_prefix old n p) more.0,
          among_passing (has row) (64 * length row) t held (held_in row t held),
        )
      where
        off : (b : Bool) → not b ≡ true → b ≡ false
        off true h = cc
        off false h = refl

    leaves : Leaves q s old (without_union old n) (LeftOthers None set (members_of row) from)
    leaves = let f = cleared_follows old (λ r. not (in_prefix old n r)) (in_union old n) old.vertices in record {
      vertices_same = f.vertices_same;
      values_same = f.values_same;
      rest = f.rest;
      front = f.front;
      from_is = is;
      stands = (shown_only q old n set row injective of first.here.within shows, omega (arith, values_few old n row shows.values, first.here.full, shows.size));
      refused = refused;
    }

-- ---- what failures say

-- a set that was found short is one, and kept unless nothing is
pub failed_inside : (old new : State) (set row : List ℕ) → Prunes pruned.Fail old new set row → (k : ℕ) → k < length set → get_or set k 0 < new.vertices
failed_inside old new set row (n, first, lists, after) k l = rw after (lists_inside old n set lists k l)

pub short_shown : (q : Problem) (old new : State) (set row : List ℕ) (cs : Option (List Change)) (short : Option CountedSet) (n : ℕ) → q.maps ≡ Injective → IsOf q old
    → Prunes pruned.Fail old new set row → KeepsUnited cs short new None set → n ≡ length set → HasShort q new n × ((cs ≡ None) ⊎ IsShown q new short)
short_shown q old new set unseen cs short n injective of (k, first, lists, after) keeps is =
    subst (λ (d : State). HasShort q d n × ((cs ≡ None) ⊎ IsShown q d short)) (sym after) (
      record { centre = None; block = all_block q injective; short = subst (λ (i : ℕ). Short old i) (sym (is ∙ lists.size)) first.here },
      by (subst (λ (d : State). KeepsUnited cs short d None set) after keeps),
    )
  where
    by : KeepsUnited cs short old None set → (cs ≡ None) ⊎ IsShown q old short
    by (inl none) = inl none
    by (inr (row, bits, kept)) =
        let shows : Shows old k set row = shows_united old k set row lists bits in
        inr (record {
          set = record { centre = None; vertices = set; values = members_of row };
          set_is = kept;
          only = shown_only q old k set row injective of first.here.within shows;
          fewer = omega (arith, values_few old k row shows.values, first.here.few, shows.size);
        })

-- a nogood that is whole is decided
pub whole_decided : (d : State) (s : watched.State) (name : ℕ) → IsWhole d s.nogoods name → IsDecided (Some s) d name
whole_decided d s name w = record {
  pairs = (watched.nogood s.nogoods w.place).literals;
  named = inl (record { place = w.place; within = w.within; name_is = w.named; pairs_are = refl });
  all = λ k k_in. (w.all k k_in).only;
}

-- ---- what nogoods forbid

-- what is forbidden stays so while values leave
pub forbidden_on : (s : Option watched.State) (old new : State) (name r u : ℕ) → ((p t : ℕ) → in_domain new p t ≡ true → in_domain old p t ≡ true) → IsForbidden s old name r u → IsForbidden s new name r u
forbidden_on s old new name r u less f = record {
  pairs = f.pairs;
  named = f.named;
  place = f.place;
  within = f.within;
  here = f.here;
  rest = λ k k_in. by k (f.rest k k_in);
}
  where
    by : (k : ℕ) → (literal f.pairs k ≡ (r, u)) ⊎ HasAtMost old (literal f.pairs k).0 (literal f.pairs k).1 → (literal f.pairs k ≡ (r, u)) ⊎ HasAtMost new (literal f.pairs k).0 (literal f.pairs k).1
    by k (inl is) = inl is
    by k (inr most) = inr (λ v here. most v (less (literal f.pairs k).0 v here))

-- a pair that follows is forbidden by its nogood
forbidden_following : (d : State) (old new : watched.State) (l : ℕ × ℕ) (e : ℕ × ℕ × ℕ) → AreWatches new.nogoods new.watches → new.nogoods ≡ old.nogoods → length new.watches ≡ length old.watches
    → Follows d old.nogoods old.watches new.watches l e → IsForbidden (Some new) d e.2 e.0 e.1
forbidden_following d old new l e are same long f = subst (λ (ns : List watched.Nogood). IsForbidden (Some (record new { nogoods = ns })) d e.2 e.0 e.1) (sym same) here
  where
    other_in : partner f.watch < length new.watches
    other_in = subst (λ (n : ℕ). partner f.watch < n) (sym long) (partner_in f.watch (length old.watches) (length old.nogoods) (sym long ∙ are.two ∙ ap (λ (ns : List watched.Nogood). 2 * length ns) same) f.within)

    at : (k : ℕ) × (k < length (nogood_of old.nogoods f.watch).literals) × (literal (nogood_of old.nogoods f.watch).literals k ≡ literal new.watches (partner f.watch))
    at =
        subst (λ (ns : List watched.Nogood). (k : ℕ) × (k < length (nogood_of ns f.watch).literals) × (literal (nogood_of ns f.watch).literals k ≡ literal new.watches (partner f.watch))) same
        (subst (λ (i : ℕ). (k : ℕ) × (k < length (watched.nogood new.nogoods i).literals) × (literal (watched.nogood new.nogoods i).literals k ≡ literal new.watches (partner f.watch)))
        (partner_half f.watch) (are.of (partner f.watch) other_in))

    here : IsForbidden (Some (record new { nogoods = old.nogoods })) d e.2 e.0 e.1
    here = record {
      pairs = (nogood_of old.nogoods f.watch).literals;
      named = inl (record {
        place = f.watch / 2;
        within = half_in f.watch (length old.watches) (length old.nogoods) (sym long ∙ are.two ∙ ap (λ (ns : List watched.Nogood). 2 * length ns) same) f.within;
        name_is = f.name;
        pairs_are = refl;
      });
      place = at.0;
      within = at.1;
      here = at.2 ∙ f.other;
      rest = λ k k_in. by k (f.rest k k_in);
    }
      where
        by : (k : ℕ) → (literal (nogood_of old.nogoods f.watch).literals k ≡ (e.0, e.1)) ⊎ IsAssigned d (literal (nogood_of old.nogoods f.watch).literals k)
            → (literal (nogood_of old.nogoods f.watch).literals k ≡ (e.0, e.1)) ⊎ HasAtMost d (literal (nogood_of old.nogoods f.watch).literals k).0 (literal (nogood_of old.nogoods f.watch).literals k).1
        by k (inl is) = inl is
        by k (inr assigned) = inr assigned.only

pub forbidden_forced : (d : State) (old new : watched.State) (l : ℕ × ℕ) (es : List (ℕ × ℕ × ℕ)) → AreWatches old.nogoods old.watches → AreWatches new.nogoods new.watches → new.nogoods ≡ old.nogoods
    → AllFollow d old new l → es ≡ new.forced → AreForbidden (Some new) d es
forbidden_forced d old new l es before are same follow is k k_in =
    forbidden_following d old new l (forced_at es k) are same (are.two ∙ ap (λ (ns : List watched.Nogood). 2 * length ns) same ∙ sym before.two)
    (subst (λ (fs : List (ℕ × ℕ × ℕ)). Follows d old.nogoods old.watches new.watches l (forced_at fs k)) (sym is)
    (follow k (subst (λ (fs : List (ℕ × ℕ × ℕ)). k < length fs) is k_in)))

-- a single pair is forbidden by itself
pub forbidden_units : (d : State) (s : watched.State) (es : List (ℕ × ℕ × ℕ)) → es ≡ s.units → AreForbidden (Some s) d es
forbidden_units d s es is k k_in = record {
  pairs = ((forced_at es k).0, (forced_at es k).1) ∷ [];
  named = inr (subst (λ (us : List (ℕ × ℕ × ℕ)). NamesUnit us (forced_at es k).2 (((forced_at es k).0, (forced_at es k).1) ∷ [])) is (record { place = k; within = k_in; name_is = refl; pair_is = refl }));
  place = 0;
  within = omega arith;
  here = refl;
  rest = λ j j_in. inl (only j (omega (arith, j_in)));
}
  where
    only : (j : ℕ) → j ≡ 0 → literal (((forced_at es k).0, (forced_at es k).1) ∷ []) j ≡ ((forced_at es k).0, (forced_at es k).1)
    only j zero_is = ap (literal (((forced_at es k).0, (forced_at es k).1) ∷ [])) zero_is
