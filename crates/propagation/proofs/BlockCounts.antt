-- The domains of a block, counted together: what leaves them is of no embedding within the old ones, and is told.

use Rattle.std.proofs.Common.{◌≡◌, ℕ, zero, suc, ◌+◌, ◌*◌, ◌<◌, ◌≤◌, ◌&&◌, not, ltb, nat_lt, cond, Bool, true, false, List, [], ◌∷◌, ◌++◌, length, Option, Some, None, Result, Ok, Err, get_or, slice_index, refl, sym, ap, ◌∙◌, subst, arith, ◌⊎◌, inl, inr}
use Rattle.std.proofs.lemmas.Bool.{and_parts, ltb-true, lt-ltb, cases_lt, false≢true}
use Rattle.std.proofs.lemmas.List.{length-map, length-append, append-nil, get_or_append_left}
use Rattle.graph_theory.specs.Graph.{size}
use Rattle.graph_theory.specs.Neighbours.{count, members, is_near}
use Rattle.graph_theory.specs.Embedding.{Problem, Embeds}
use Rattle.graph_theory.specs.Blocks.{has_block, has_block_in, has_near}
use Rattle.graph_theory.specs.declared.embedding.Maps.{Maps}
use Rattle.graph_theory.specs.declared.embedding.Maps.TheVariants.{Injective, Local, Any}
use Rattle.graph_theory.proofs.BlockProofs.{differ_of_together}
use Rattle.search_theory.specs.Claims.{Inside}
use Rattle.bit_rows.specs.BitRows.{has}
use Rattle.bit_rows.proofs.Passing.{length-members}
use Rattle.domain_bits.specs.Removals.{State, in_domain}
use Rattle.all_different.specs.declared.Pruned.TheVariants as pruned
use Rattle.all_different.specs.Prefixes.{Balanced, Short, in_prefix, in_union}
use Rattle.all_different.specs.Choices.{Chooses, LosesNoChoice}
use Rattle.all_different.specs.Pruning.{among, PruneSays}
use Rattle.all_different.specs.Members.{place_of, part, AreMembers, without_union_of, ShowsOf, PrunesOf}
use Rattle.all_different.proofs.Choosing.{pigeons, union_has}
use Rattle.all_different.proofs.Parts.{few_members, listed_member, place_gives, place_is, part_domain, cleared_at_follows, cleared_at_other, without_union_of_domain, lists_of_inside, shows_of_united, prunes_of_says, part_chooses}
use Rattle.all_different.proofs.Scanning.{union_below}
use Rattle.all_different.proofs.Showing.{listed_among}
use Rattle.all_different.proofs.Unions.{count_prefix}
use Rattle.nogood_watch.specs.Nogoods as watched
use Rattle.recorder.specs.declared.change.Failure.{Failure}
use Rattle.recorder.specs.Recording.{Change, LeftOthers, CountedSet, members_of, KeepsUnited}
use Rattle.recorder.specs.Telling.{IsOf, HaveOnly, Leaves, HasShort, IsShown, block_state}
use Rattle.propagation.specs.Propagation.{Narrows, AreBalanced, Counts, pruned_of}
use Rattle.propagation.proofs.Pruning.{narrows_choices, none_chosen}
use Rattle.propagation.proofs.Reasons.{passes_among, among_passing, distinct_counted, held_in, values_few}

-- ---- all domains

-- where any two images have to differ, all domains are the one block
balanced_all : (k : Maps) (q : Problem) (d : State) (centre : Option ℕ) → k ≡ Injective → has_block_in k q.pattern centre ≡ true → Balanced d → Balanced (block_state q d centre)
balanced_all Injective q d None is there balanced = balanced
balanced_all Injective q d (Some c) is there balanced = cc
balanced_all Local q d centre is there balanced = cc
balanced_all Any q d centre is there balanced = cc

pub counted_all : (answer : Result Bool Failure) (q : Problem) (old new : State) → IsOf q old → q.maps ≡ Injective → PruneSays (pruned_of answer) old new → Counts (AreBalanced q) answer q old new
counted_all (Ok false) q old new of injective says = (says.0, λ centre there. balanced_all q.maps q new centre injective there (subst (λ (d : State). Balanced d) (sym says.0) says.1))
counted_all (Ok true) q old new of injective says = (narrows_choices q old new of injective says.0, says.1)
counted_all (Err failure) q old new of injective says = (says.0, none_chosen q old of injective says.1)

-- ---- the domains near one vertex

-- the numbers that pass, rising
push_last : (xs : List ℕ) (y i : ℕ) → i ≡ length xs → get_or (xs ++ y ∷ []) i 0 ≡ y
push_last [] y zero is = refl
push_last [] y (suc i) is = absurd (omega (arith, is))
push_last (x ∷ xs) y zero is = absurd (omega (arith, is))
push_last (x ∷ xs) y (suc i) is = push_last xs y i (omega (arith, is))

pub members_inside : (f : ℕ → Bool) (n i : ℕ) → i < length (members f n) → get_or (members f n) i 0 < n
members_inside f zero i i_in = absurd (omega (arith, i_in))
members_inside f (suc n) i i_in = by (f n) (members_inside f n i) i_in
  where
    by : (b : Bool) → (i < length (members f n) → get_or (members f n) i 0 < n) → i < length (members f n ++ cond b (n ∷ []) []) → get_or (members f n ++ cond b (n ∷ []) []) i 0 < suc n
    by false before within =
        subst (λ (xs : List ℕ). get_or xs i 0 < suc n) (sym (append-nil (members f n)))
        (omega (arith, before (subst (λ (xs : List ℕ). i < length xs) (append-nil (members f n)) within)))
    by true before within = at (cases_lt i (length (members f n)))
      where
        at : (i < length (members f n)) ⊎ (length (members f n) ≤ i) → get_or (members f n ++ n ∷ []) i 0 < suc n
        at (inl lt) = omega (arith, before lt, get_or_append_left (members f n) (n ∷ []) 0 i lt)
        at (inr le) = omega (arith, push_last (members f n) n i (omega (arith, le, within, length-append (members f n) (n ∷ []))))

pub members_rising : (f : ℕ → Bool) (n i j : ℕ) → i < j → j < length (members f n) → get_or (members f n) i 0 < get_or (members f n) j 0
members_rising f zero i j less j_in = absurd (omega (arith, j_in))
members_rising f (suc n) i j less j_in = by (f n) (members_rising f n i j less) j_in
  where
    by : (b : Bool) → (j < length (members f n) → get_or (members f n) i 0 < get_or (members f n) j 0) → j < length (members f n ++ cond b (n ∷ []) [])
        → get_or (members f n ++ cond b (n ∷ []) []) i 0 < get_or (members f n ++ cond b (n ∷ []) []) j 0
    by false before within =
        subst (λ (xs : List ℕ). get_or xs i 0 < get_or xs j 0) (sym (append-nil (members f n)))
        (before (subst (λ (xs : List ℕ). j < length xs) (append-nil (members f n)) within))
    by true before within = at (cases_lt j (length (members f n)))
      where
        at : (j < length (members f n)) ⊎ (length (members f n) ≤ j) → get_or (members f n ++ n ∷ []) i 0 < get_or (members f n ++ n ∷ []) j 0
        at (inl lt) = omega (arith, before lt, get_or_append_left (members f n) (n ∷ []) 0 j lt, get_or_append_left (members f n) (n ∷ []) 0 i (omega (arith, less, lt)))
        at (inr le) =
            let last : j ≡ length (members f n) = omega (arith, le, within, length-append (members f n) (n ∷ [])) in
            let first : i < length (members f n) = omega (arith, less, last) in
            omega (arith, push_last (members f n) n j last, get_or_append_left (members f n) (n ∷ []) 0 i first, members_inside f n i first)

pub near_members : (q : Problem) (d : State) (c : ℕ) (ms : List ℕ) → IsOf q d → ms ≡ members (is_near q.pattern c) (size q.pattern) → AreMembers d.vertices ms
near_members q d c ms of is = subst (λ (xs : List ℕ). AreMembers d.vertices xs) (sym is) (record {
  rising = λ i j less j_in. members_rising (is_near q.pattern c) (size q.pattern) i j less j_in;
  inside = λ i i_in. omega (arith, members_inside (is_near q.pattern c) (size q.pattern) i i_in, of.vertices_is);
})

-- a list of which two are near is that of a block
pub near_block : (q : Problem) (c : ℕ) (ms : List ℕ) → q.maps ≡ Local → c < size q.pattern → ms ≡ members (is_near q.pattern c) (size q.pattern) → 1 < length ms → has_block q (Some c) ≡ true
near_block q c ms local c_in is two = rw local (both (lt-ltb c (size q.pattern) c_in)
    (lt-ltb 1 (count (is_near q.pattern c) (size q.pattern)) (omega (arith, two, ap length is, length-members (is_near q.pattern c) (size q.pattern)))))
  where
    both : {a b : Bool} → a ≡ true → b ≡ true → (a && b) ≡ true
    both x y = rw (x, y) refl

-- and where fewer are, there is none
pub near_no_block : (q : Problem) (c : ℕ) (ms : List ℕ) → q.maps ≡ Local → ms ≡ members (is_near q.pattern c) (size q.pattern) → length ms < 2 → has_block q (Some c) ≡ true → ⊥
near_no_block q c ms local is few there =
    let near : has_near q.pattern c ≡ true = subst (λ (k : Maps). has_block_in k q.pattern (Some c) ≡ true) local there in
    let more = ltb-true 1 (count (is_near q.pattern c) (size q.pattern)) (and_parts (nat_lt c (size q.pattern)) (nat_lt 1 (count (is_near q.pattern c) (size q.pattern))) near).1 in
    omega (arith, few, more, ap length is, length-members (is_near q.pattern c) (size q.pattern))

-- what is found of a block
pub record IsBlock (q : Problem) (d : State) (c : ℕ) (ms : List ℕ) : Type 0 where
  pub of : IsOf q d
  pub there : has_block q (Some c) ≡ true
  pub is : ms ≡ members (is_near q.pattern c) (size q.pattern)
  pub members : AreMembers d.vertices ms

pub is_block : (q : Problem) (d : State) (c : ℕ) (ms : List ℕ) → IsOf q d → has_block q (Some c) ≡ true → ms ≡ members (is_near q.pattern c) (size q.pattern) → IsBlock q d c ms
is_block q d c ms of there is = record { of = of; there = there; is = is; members = near_members q d c ms of is }

-- a member is near the centre, and a vertex
near_member : (q : Problem) (d : State) (c : ℕ) (ms : List ℕ) (p : ℕ) → IsBlock q d c ms → among ms p ≡ true → is_near q.pattern c p ≡ true
near_member q d c ms p b here = passes_among (is_near q.pattern c) (size q.pattern) p (subst (λ (xs : List ℕ). among xs p ≡ true) b.is here)

member_in : (q : Problem) (d : State) (c : ℕ) (ms : List ℕ) (p : ℕ) → IsBlock q d c ms → among ms p ≡ true → p < size q.pattern
member_in q d c ms p b here =
    let m = listed_member ms b.members.rising p here in
    omega (arith, b.members.inside (place_of ms p) m.0, m.1, b.of.vertices_is)

-- the images of an embedding within the domains are an injective choice from the part
chosen : (q : Problem) (d : State) (c : ℕ) (ms m : List ℕ) → IsBlock q d c ms → Embeds q m → Inside q (in_domain d) m → Chooses (part d ms) (λ i. slice_index m (get_or ms i 0))
chosen q d c ms m b e h = part_chooses d ms (slice_index m) b.members.rising (λ p here. h p (member_in q d c ms p b here))
    (λ p r here there same. e.distinct p r (member_in q d c ms p b here) (member_in q d c ms r b there)
    (differ_of_together q p r (record { block = Some c; is_there = b.there; first = near_member q d c ms p b here; second = near_member q d c ms r b there })) same)

-- what leaves the block is of no embedding
narrows_block : (q : Problem) (old new : State) (c : ℕ) (ms set row : List ℕ) → IsBlock q old c ms → PrunesOf ms pruned.Hall old new set row → Narrows q old new
narrows_block q old new c ms set row b (n, none, first, shows, after) = subst (λ (d : State). Narrows q old d) (sym after) narrows
  where
    rising : (i j : ℕ) → i < j → j < length ms → get_or ms i 0 < get_or ms j 0
    rising = b.members.rising

    left : State
    left = without_union_of old ms n

    says : LosesNoChoice (part old ms) (part left ms)
    says = (prunes_of_says pruned.Hall old left ms rising set row (n, none, first, shows, refl)).0

    still : (m : List ℕ) → Embeds q m → Inside q (in_domain old) m → (p : ℕ) → p < size q.pattern → (a : Bool) → among ms p ≡ a → in_domain left p (slice_index m p) ≡ true
    still m e h p p_in false off = cleared_at_other old ms (λ i. not (in_prefix (part old ms) n i)) (in_union (part old ms) n) (length ms) p (slice_index m p) (omega arith) off ∙ h p p_in
    still m e h p p_in true on =
        let at = listed_member ms rising p on in
        let kept = (says.keeps (λ i. slice_index m (get_or ms i 0)) (chosen q old c ms m b e h)).inside (place_of ms p) at.0 in
        let here = sym (part_domain left ms rising (place_of ms p) at.0 (slice_index m (get_or ms (place_of ms p) 0))) ∙ kept in
        subst (λ (r : ℕ). in_domain left r (slice_index m r) ≡ true) at.1 here

    narrows : Narrows q old left
    narrows = let f = cleared_at_follows old ms (λ i. not (in_prefix (part old ms) n i)) (in_union (part old ms) n) (length ms) in record {
      vertices_same = f.vertices_same;
      values_same = f.values_same;
      rest = f.rest;
      front = f.front;
      less = λ p t here. was (in_domain old p t) _ (sym (without_union_of_domain old ms rising n p t) ∙ here);
      keeps = λ m e h p p_in. still m e h p p_in (among ms p) refl;
    }
      where
        was : (x y : Bool) → (x && not y) ≡ true → x ≡ true
        was true y h = refl
        was false y h = cc

-- and what each answer tells
pub counted_block : (answer : Result Bool Failure) (q : Problem) (old new : State) (c : ℕ) (ms set row : List ℕ) → IsBlock q old c ms → PrunesOf ms (pruned_of answer) old new set row
    → Counts (λ d. Balanced (block_state q d (Some c))) answer q old new
counted_block (Ok false) q old new c ms set row b (balanced, same) =
    (same, subst (λ (d : State). Balanced (block_state q d (Some c))) (sym same) (subst (λ (xs : List ℕ). Balanced (part old xs)) b.is balanced))
counted_block (Ok true) q old new c ms set row b h =
    let says = prunes_of_says pruned.Hall old new ms b.members.rising set row h in
    (narrows_block q old new c ms set row b h, omega (arith, says.1, length-map {B = ℕ × ℕ} old.removed (λ (x : ℕ × ℕ). (place_of ms x.0, x.1)), length-map {B = ℕ × ℕ} new.removed (λ (x : ℕ × ℕ). (place_of ms x.0, x.1))))
counted_block (Err failure) q old new c ms set row b h =
    let says = prunes_of_says pruned.Fail old new ms b.members.rising set row h in
    (h.3, λ m e inside. says.1 (λ i. slice_index m (get_or ms i 0)) (chosen q old c ms m b e inside))

-- ---- what is told

-- the vertices of a shown set have no other values than the row
shown_block : (q : Problem) (d : State) (c n : ℕ) (ms set row : List ℕ) → IsBlock q d c ms → n ≤ length ms → ShowsOf d ms n set row → HaveOnly q (Some c) d set (members_of row)
shown_block q d c n ms set row b within shows = record {
  block = b.there;
  members = λ p here. near_member q d c ms p b (listed p here);
  vertices_in = λ p here. member_in q d c ms p b (listed p here);
  values_in = λ t here. subst (λ (k : ℕ). t < k) b.of.values_is (union_below (part d ms) n t (sym (shows.values t) ∙ passes_among (has row) (64 * length row) t here));
  distinct = distinct_counted set d.vertices (omega (arith, shows.size, count_prefix (part d ms) n within, all));
  within = λ p t here there.
      let first = sym (shows.vertices p) ∙ here in
      let inside = place_in p first in
      let held = shows.values t ∙ union_has (part d ms) n (place_of ms p) t inside first
      (part_domain d ms b.members.rising (place_of ms p) inside t ∙ ap (λ (r : ℕ). in_domain d r t) (place_gives ms p inside) ∙ there) in
      among_passing (has row) (64 * length row) t held (held_in row t held);
}
  where
    place_in : (p : ℕ) → in_prefix (part d ms) n (place_of ms p) ≡ true → place_of ms p < length ms
    place_in p h = ltb-true (place_of ms p) (length ms) (and_parts (ltb (place_of ms p) (length ms)) _ h).0

    listed : (p : ℕ) → among set p ≡ true → among ms p ≡ true
    listed p here =
        let inside = place_in p (sym (shows.vertices p) ∙ here) in
        subst (λ (r : ℕ). among ms r ≡ true) (place_gives ms p inside) (listed_among ms (place_of ms p) inside)

    all : count (in_prefix (part d ms) n) (length ms) ≤ count (among set) d.vertices
    all = pigeons (in_prefix (part d ms) n) (among set) (length ms) d.vertices (λ i. get_or ms i 0)
        (λ i i_in first. (b.members.inside i i_in, shows.vertices (get_or ms i 0) ∙ ap (in_prefix (part d ms) n) (place_is ms b.members.rising i i_in) ∙ first))
        (λ i j i_in j_in first second same. sym (place_is ms b.members.rising i i_in) ∙ ap (place_of ms) same ∙ place_is ms b.members.rising j j_in)

-- the values of a set leave the other domains of the block
pub leaves_block : (q : Problem) (s : Option watched.State) (old new : State) (c : ℕ) (ms set row : List ℕ) (from : ℕ) → IsBlock q old c ms → PrunesOf ms pruned.Hall old new set row
    → from ≡ length old.removed → Leaves q s old new (LeftOthers (Some c) set (members_of row) from)
leaves_block q s old new c ms set row from b h is =
    let narrows = narrows_block q old new c ms set row b h in
    let shows = h.3 in
    record {
      vertices_same = narrows.vertices_same;
      values_same = narrows.values_same;
      rest = narrows.rest;
      front = narrows.front;
      from_is = is;
      stands = (shown_block q old c h.0 ms set row b h.2.here.within shows, omega (arith, values_few (part old ms) h.0 row shows.values, h.2.here.full, shows.size));
      refused = λ p t here gone. refused p t here (subst (λ (d : State). in_domain d p t ≡ false) h.4 gone);
    }
  where
    failed : (a x : Bool) → a ≡ true → (a && not x) ≡ false → x ≡ true
    failed true true e out = refl
    failed true false e out = cc
    failed false x e out = cc

    off : (x : Bool) → not x ≡ true → x ≡ false
    off true e = cc
    off false e = refl

    refused : (p t : ℕ) → in_domain old p t ≡ true → in_domain (without_union_of old ms h.0) p t ≡ false
        → (p < size q.pattern) × (is_near q.pattern c p ≡ true) × (among set p ≡ false) × (among (members_of row) t ≡ true)
    refused p t here gone =
        let cut = failed (in_domain old p t) (among ms p && (not (in_prefix (part old ms) h.0 (place_of ms p)) && in_union (part old ms) h.0 t)) here
        (sym (without_union_of_domain old ms b.members.rising h.0 p t) ∙ gone) in
        let first = and_parts (among ms p) (not (in_prefix (part old ms) h.0 (place_of ms p)) && in_union (part old ms) h.0 t) cut in
        let more = and_parts (not (in_prefix (part old ms) h.0 (place_of ms p))) (in_union (part old ms) h.0 t) first.1 in
        let held = h.3.values t ∙ more.1 in (
          member_in q old c ms p b first.0,
          near_member q old c ms p b first.0,
          h.3.vertices p ∙ off (in_prefix (part old ms) h.0 (place_of ms p)) more.0,
          among_passing (has row) (64 * length row) t held (held_in row t held),
        )

-- a set that was found short is one, and kept unless nothing is
pub block_inside : (old new : State) (ms set row : List ℕ) → AreMembers old.vertices ms → PrunesOf ms pruned.Fail old new set row → (k : ℕ) → k < length set → get_or set k 0 < new.vertices
block_inside old new ms set row members (n, first, lists, after) k k_in = rw after (lists_of_inside old ms n set members lists k k_in)

-- it has no more members than there are vertices
pub block_few : (old new : State) (ms set row : List ℕ) → AreMembers old.vertices ms → PrunesOf ms pruned.Fail old new set row → length set ≤ old.vertices
block_few old new ms set row members (n, first, lists, after) = omega (arith, lists.size, first.here.within, few_members old.vertices ms members)

pub block_shown : (q : Problem) (old new : State) (c : ℕ) (ms set row : List ℕ) (cs : Option (List Change)) (short : Option CountedSet) (n : ℕ) → IsBlock q old c ms
    → PrunesOf ms pruned.Fail old new set row → KeepsUnited cs short new (Some c) set → n ≡ length set → HasShort q new n × ((cs ≡ None) ⊎ IsShown q new short)
block_shown q old new c ms set row cs short n b (k, first, lists, after) keeps is =
    subst (λ (d : State). HasShort q d n × ((cs ≡ None) ⊎ IsShown q d short)) (sym after) (
      record {
        centre = Some c;
        block = b.there;
        short = subst (λ (xs : List ℕ). Short (part old xs) n) b.is (subst (λ (i : ℕ). Short (part old ms) i) (sym (is ∙ lists.size)) first.here);
      },
      by (subst (λ (d : State). KeepsUnited cs short d (Some c) set) after keeps),
    )
  where
    by : KeepsUnited cs short old (Some c) set → (cs ≡ None) ⊎ IsShown q old short
    by (inl none) = inl none
    by (inr (bits_row, bits, kept)) =
        let shows : ShowsOf old ms k set bits_row = shows_of_united old ms b.members.rising k set bits_row lists bits in
        inr (record {
          set = record { centre = Some c; vertices = set; values = members_of bits_row };
          set_is = kept;
          only = shown_block q old c k ms set bits_row b first.here.within shows;
          fewer = omega (arith, values_few (part old ms) k bits_row shows.values, first.here.few, shows.size);
        })

-- ---- one block after another

-- Each block of a centre below c is balanced.
abbrev pub BalancedBelow : Problem → State → ℕ → Type 0
BalancedBelow q d n = (c : ℕ) → c < n → has_block q (Some c) ≡ true → Balanced (block_state q d (Some c))

pub balanced_more : (q : Problem) (d : State) (n : ℕ) → BalancedBelow q d n → (has_block q (Some n) ≡ true → Balanced (block_state q d (Some n))) → BalancedBelow q d (n + 1)
balanced_more q d n before here c c_in there = by (cases_lt c n)
  where
    by : (c < n) ⊎ (n ≤ c) → Balanced (block_state q d (Some c))
    by (inl lt) = before c lt there
    by (inr le) =
        let same : n ≡ c = omega (arith, c_in, le) in
        subst (λ (x : ℕ). Balanced (block_state q d (Some x))) same (here (subst (λ (x : ℕ). has_block q (Some x) ≡ true) (sym same) there))

-- by local maps these are all blocks
pub balanced_local : (q : Problem) (d : State) (n : ℕ) → q.maps ≡ Local → size q.pattern ≤ n → BalancedBelow q d n → AreBalanced q d
balanced_local q d n local all below centre there = by centre there (subst (λ (k : Maps). has_block_in k q.pattern centre ≡ true) local there)
  where
    by : (b : Option ℕ) → has_block q b ≡ true → has_block_in Local q.pattern b ≡ true → Balanced (block_state q d b)
    by None is near = cc
    by (Some c) is near = below c (omega (arith, all, ltb-true c (size q.pattern) (and_parts (nat_lt c (size q.pattern)) (nat_lt 1 (count (is_near q.pattern c) (size q.pattern))) near).0)) is

-- by any maps there are none
pub balanced_any : (q : Problem) (d : State) → q.maps ≡ Any → AreBalanced q d
balanced_any q d any centre there = absurd (false≢true (subst (λ (k : Maps). has_block_in k q.pattern centre ≡ true) any there))

-- what is told of one block after others at which nothing left
pub counts_some : (Has More : State → Type 0) (answer : Result Bool Failure) (q : Problem) (old mid new : State) → mid ≡ old → (answer ≡ Ok false → ⊥) → Counts Has answer q mid new → Counts More answer q old new
counts_some Has More (Ok false) q old mid new same some counts = absurd (some refl)
counts_some Has More (Ok true) q old mid new same some counts = subst (λ (d : State). Counts More (Ok true) q d new) same counts
counts_some Has More (Err failure) q old mid new same some counts = subst (λ (d : State). Counts More (Err failure) q d new) same counts

-- what has less is told less of
pub counts_as : (Has More : State → Type 0) → ((d : State) → Has d → More d) → (answer : Result Bool Failure) (q : Problem) (old new : State) → Counts Has answer q old new → Counts More answer q old new
counts_as Has More less (Ok false) q old new counts = (counts.0, less new counts.1)
counts_as Has More less (Ok true) q old new counts = counts
counts_as Has More less (Err failure) q old new counts = counts
