-- The rows, sizes and trail of domains from which values are taken.
use Rattle.std.proofs.Common.{◌≡◌, ℕ, ◌+◌, ◌*◌, ◌-◌, ◌<◌, ◌≤◌, zero, suc, Bool, true, false, cond, eqb, ltb, ◌&&◌, not, List, [], ◌∷◌, ◌++◌, All, length, take, drop, get_or, set, sum, refl, sym, ap, ◌∙◌, subst, arith, inl, inr, ◌⊎◌, length-append, length-drop}
use Rattle.std.proofs.lemmas.List.{get_or-set_same, get_or-set_other, length-set, map-append, length-take-le}
use Rattle.std.proofs.lemmas.List.Sums.{sum_by-set}
use Rattle.std.proofs.lemmas.List.Elements.{All-append, All-cons}
use Rattle.std.proofs.lemmas.Bool.{cases_lt, cases_eq, and_parts, ltb-true, eqb-true, le-ltb}
use native.Mathlib.Nat.{mul-le-mul_right, suc-mul}
use borrow.Rule.Slice.PartMut.{put_mid}
use Rattle.graph_theory.specs.Neighbours.{count, members}
use Rattle.bit_rows.specs.BitRows.{has}
use Rattle.domain_bits.specs.Removals.{State, times, in_domain, size_of, at_vertex, filtered}
use Rattle.domain_bits.specs.Changes.{Keeps}
use Rattle.domain_bits.specs.Inside.{InRange, Kept}
use Rattle.bit_rows.proofs.Passing.{count_same, count_le, members_same, members_past, length-members}
use Rattle.bit_rows.proofs.Rows.{has-take, has_past, has-put_inside, has-put_outside, length-put_mid}
use Rattle.domain_bits.proofs.Removed.{times-append, times-members, in_domain-without, in_domain-without_other, in_domain-without_own, size_of-without, length-at_vertex, count_bounds}
use Rattle.domain_bits.proofs.Filtering.{leaves}

abbrev pub state : ℕ → ℕ → List (ℕ × ℕ) → State
state v n removed = record { vertices = v; values = n; removed = removed }

-- a row of another vertex's domain changes nothing in these
pub kept_change : (v n words : ℕ) (old new : List (ℕ × ℕ)) (rows rows' sizes : List ℕ) (cap p s : ℕ)
    → Kept (state v n old) words rows sizes cap → p < v → length rows' ≡ length rows
    → ((t : ℕ) → t < 64 * words → has (drop (p * words) rows') t ≡ in_domain (state v n new) p t)
    → ((q t : ℕ) → (q ≡ p → ⊥) → t < 64 * words → has (drop (q * words) rows') t ≡ has (drop (q * words) rows) t)
    → ((q t : ℕ) → (q ≡ p → ⊥) → in_domain (state v n new) q t ≡ in_domain (state v n old) q t)
    → s ≡ size_of (state v n new) p → ((q t : ℕ) → times new q t ≤ 1) → All (InRange v n) new
    → s + length new ≡ get_or sizes p 0 + length old
    → Kept (state v n new) words rows' (set sizes p s) cap
kept_change v n words old new rows rows' sizes cap p s k in-range long own others same size once range total = record {
  words_are = k.words_are;
  short = k.short;
  long = long ∙ k.long;
  sized = length-set sizes p s ∙ k.sized;
  bits = λ q t hq ht. bits q t hq ht (cases_eq q p);
  counts = λ q hq. counts q hq (cases_eq q p);
  once = once;
  range = range;
  all = omega (arith, sum_by-set (λ x. x) sizes p s 0 inside, k.all);
  room = k.room;
}
  where
    inside : p < length sizes
    inside = omega (arith, k.sized)

    bits : (q t : ℕ) → q < v → t < 64 * words → (q ≡ p) ⊎ (q ≡ p → ⊥) → has (drop (q * words) rows') t ≡ in_domain (state v n new) q t
    bits q t hq ht (inl e) = subst (λ i. has (drop (i * words) rows') t ≡ in_domain (state v n new) i t) (sym e) (own t ht)
    bits q t hq ht (inr ne) = others q t ne ht ∙ k.bits q t hq ht ∙ sym (same q t ne)

    counts : (q : ℕ) → q < v → (q ≡ p) ⊎ (q ≡ p → ⊥) → get_or (set sizes p s) q 0 ≡ size_of (state v n new) q
    counts q hq (inl e) = subst (λ i. get_or (set sizes p s) i 0 ≡ size_of (state v n new) i) (sym e) (get_or-set_same sizes p s 0 inside ∙ size)
    counts q hq (inr ne) = get_or-set_other sizes p q s 0 ne ∙ k.counts q hq
        ∙ count_same (in_domain (state v n old) q) (in_domain (state v n new) q) n (λ i l. sym (same q i ne))

-- ---- facts of the rows at rest

pub row_starts : (v n words : ℕ) (removed : List (ℕ × ℕ)) (rows sizes : List ℕ) (cap p : ℕ)
    → Kept (state v n removed) words rows sizes cap → p < v → p * words + words ≤ length rows
row_starts v n words removed rows sizes cap p k h =
    let m = mul-le-mul_right {m = suc p} {n = v} words h in omega (arith, m, suc-mul p words, k.long)

pub values_fit : (v n words : ℕ) (removed : List (ℕ × ℕ)) (rows sizes : List ℕ) (cap : ℕ)
    → Kept (state v n removed) words rows sizes cap → (n ≤ 64 * words) × (64 * words ≤ n + 63)
values_fit v n words removed rows sizes cap k = (omega (arith, k.words_are), omega (arith, k.words_are))

pub length_start : (v n words : ℕ) (removed : List (ℕ × ℕ)) (rows sizes : List ℕ) (cap p : ℕ)
    → Kept (state v n removed) words rows sizes cap → p < v → length (take words (drop (p * words) rows)) ≡ words
length_start v n words removed rows sizes cap p k h =
    length-take-le words (drop (p * words) rows) (omega (arith, length-drop (p * words) rows, row_starts v n words removed rows sizes cap p k h))

-- the row of p, cut out, is the domain of p
pub start_bits : (v n words : ℕ) (removed : List (ℕ × ℕ)) (rows sizes : List ℕ) (cap p : ℕ)
    → Kept (state v n removed) words rows sizes cap → p < v → (t : ℕ) → has (take words (drop (p * words) rows)) t ≡ in_domain (state v n removed) p t
start_bits v n words removed rows sizes cap p k h t = by (cases_lt t (64 * words))
  where
    by : (t < 64 * words) ⊎ (64 * words ≤ t) → has (take words (drop (p * words) rows)) t ≡ in_domain (state v n removed) p t
    by (inl l) = has-take words (drop (p * words) rows) t l ∙ k.bits p t h l
    by (inr l) =
        let past : n ≤ t = omega (arith, (values_fit v n words removed rows sizes cap k).0) in
        has_past _ t (omega (arith, length_start v n words removed rows sizes cap p k h)) ∙ rw (le-ltb t n past) refl

-- what leaves the row is what leaves the domain
pub leaves_domain : (v n words : ℕ) (removed : List (ℕ × ℕ)) (rows sizes : List ℕ) (cap p : ℕ) (keeps : ℕ → Bool)
    → Kept (state v n removed) words rows sizes cap → p < v
    → (i : ℕ) → leaves (take words (drop (p * words) rows)) keeps i ≡ (in_domain (state v n removed) p i && not (keeps i))
leaves_domain v n words removed rows sizes cap p keeps k h i = rw (start_bits v n words removed rows sizes cap p k h i) refl

-- one size is at most their sum
pub one_size : (sizes : List ℕ) (p : ℕ) → p < length sizes → get_or sizes p 0 ≤ sum sizes
one_size sizes p h = omega (arith, sum_by-set (λ x. x) sizes p 0 0 h)

size_is : (v n words : ℕ) (removed : List (ℕ × ℕ)) (rows sizes : List ℕ) (cap p : ℕ)
    → Kept (state v n removed) words rows sizes cap → p < v → count (has (take words (drop (p * words) rows))) (64 * words) ≡ get_or sizes p 0
size_is v n words removed rows sizes cap p k h =
    count_same _ (in_domain (state v n removed) p) (64 * words) (λ i l. start_bits v n words removed rows sizes cap p k h i)
    ∙ count_bounds (in_domain (state v n removed) p) (64 * words) n (λ u e. omega (arith, within u e, (values_fit v n words removed rows sizes cap k).0)) within
    ∙ sym (k.counts p h)
  where
    within : (u : ℕ) → in_domain (state v n removed) p u ≡ true → u < n
    within u e = ltb-true u n (and_parts _ _ e).0

-- there is room in the trail for a whole domain
pub cut_room : (v n words : ℕ) (removed : List (ℕ × ℕ)) (rows sizes : List ℕ) (cap p : ℕ)
    → Kept (state v n removed) words rows sizes cap → p < v
    → length removed + count (has (take words (drop (p * words) rows))) (64 * length (take words (drop (p * words) rows))) ≤ cap
cut_room v n words removed rows sizes cap p k h =
    rw (length_start v n words removed rows sizes cap p k h, size_is v n words removed rows sizes cap p k h)
    (omega (arith, one_size sizes p (omega (arith, k.sized)), k.all, k.room))

-- no more leaves than is there
pub cut_enough : (v n words : ℕ) (removed : List (ℕ × ℕ)) (rows sizes : List ℕ) (cap p : ℕ) (keeps : ℕ → Bool)
    → Kept (state v n removed) words rows sizes cap → p < v
    → count (leaves (take words (drop (p * words) rows)) keeps) (64 * length (take words (drop (p * words) rows))) ≤ get_or sizes p 0
cut_enough v n words removed rows sizes cap p keeps k h =
    rw (length_start v n words removed rows sizes cap p k h)
    (omega (arith, size_is v n words removed rows sizes cap p k h, count_le (leaves (take words (drop (p * words) rows)) keeps) (has (take words (drop (p * words) rows))) (64 * words) (64 * words) (omega arith) (λ i e. (and_parts _ _ e).0)))

-- ---- the rows after values have been taken

-- what leaves the domain of p, as a test
abbrev pub goes : State → ℕ → (ℕ → Bool) → ℕ → Bool
goes d p keeps u = in_domain d p u && not (keeps u)

goes_below : (d : State) (p : ℕ) (keeps : ℕ → Bool) (u : ℕ) → goes d p keeps u ≡ true → u < d.values
goes_below d p keeps u e = ltb-true u d.values (and_parts _ _ (and_parts _ _ e).0).0

goes_inside : (d : State) (p : ℕ) (keeps : ℕ → Bool) (u : ℕ) → goes d p keeps u ≡ true → in_domain d p u ≡ true
goes_inside d p keeps u e = (and_parts _ _ e).0

-- what is left of the domain of p
pub filtered_own : (d : State) (p : ℕ) (keeps : ℕ → Bool) (t : ℕ) → in_domain (filtered d p keeps) p t ≡ (in_domain d p t && keeps t)
filtered_own d p keeps t = in_domain-without_own d (goes d p keeps) d.values p t (goes_below d p keeps) ∙ by (in_domain d p t) (keeps t)
  where
    by : (a b : Bool) → (a && not (a && not b)) ≡ (a && b)
    by true true = refl
    by true false = refl
    by false b = refl

pub filtered_other : (d : State) (p : ℕ) (keeps : ℕ → Bool) (q t : ℕ) → (q ≡ p → ⊥) → in_domain (filtered d p keeps) q t ≡ in_domain d q t
filtered_other d p keeps q t ne = in_domain-without_other d (goes d p keeps) d.values p q t ne

-- in terms of membership
pub filtered_keeps : (d : State) (p : ℕ) (keeps : ℕ → Bool) → Keeps d (filtered d p keeps) p keeps
filtered_keeps d p keeps = record {
  shrinks = record {
    vertices_same = refl;
    values_same = refl;
    rest = at_vertex p (members (goes d p keeps) d.values);
    front = refl;
    others = λ q t ne. filtered_other d p keeps q t ne;
    less = λ q t e. (and_parts _ _ (sym (in_domain-without d (goes d p keeps) d.values p q t) ∙ e)).0;
  };
  kept = filtered_own d p keeps;
}

-- a pair that leaves was there, so it is removed once
pub filtered_once : (d : State) (p : ℕ) (keeps : ℕ → Bool) → ((q t : ℕ) → times d.removed q t ≤ 1) → (q t : ℕ) → times (filtered d p keeps).removed q t ≤ 1
filtered_once d p keeps once q t =
    rw (times-append d.removed (at_vertex p (members (goes d p keeps) d.values)) q t, times-members (goes d p keeps) d.values p q t)
    (by (eqb p q) (ltb t d.values) (goes d p keeps t) refl refl refl)
  where
    none : eqb p q ≡ true → goes d p keeps t ≡ true → times d.removed q t ≡ 0
    none a c = subst (λ i. times d.removed i t ≡ 0) (eqb-true p q a)
        (eqb-true (times d.removed p t) 0 (and_parts (ltb t d.values) (eqb (times d.removed p t) 0) (and_parts (in_domain d p t) (not (keeps t)) c).0).1)

    by : (a b c : Bool) → eqb p q ≡ a → ltb t d.values ≡ b → goes d p keeps t ≡ c → times d.removed q t + cond (a && (b && c)) 1 0 ≤ 1
    by true true true ea eb ec = omega (arith, none ea ec)
    by true true false ea eb ec = omega (arith, once q t)
    by true false c ea eb ec = omega (arith, once q t)
    by false b c ea eb ec = omega (arith, once q t)

pub range_members : (v n p : ℕ) (f : ℕ → Bool) (m : ℕ) → p < v → ((u : ℕ) → f u ≡ true → u < n) → All (InRange v n) (at_vertex p (members f m))
range_members v n p f zero h below = λ k d l. absurd (omega arith)
range_members v n p f (suc m) h below =
    rw map-append (All-append (InRange v n) (at_vertex p (members f m)) (at_vertex p (cond (f m) (m ∷ []) [])) (range_members v n p f m h below) (by (f m) (below m)))
  where
    by : (b : Bool) → (b ≡ true → m < n) → All (InRange v n) (at_vertex p (cond b (m ∷ []) []))
    by true l = All-cons (InRange v n) (p, m) [] (record { vertex = h; value = l refl }) (λ k d h'. absurd (omega arith))
    by false l = λ k d h'. absurd (omega arith)

-- the values that left the row, as those that left the domain
pub left_is : (v n words : ℕ) (removed : List (ℕ × ℕ)) (rows sizes : List ℕ) (cap p : ℕ) (keeps : ℕ → Bool)
    → Kept (state v n removed) words rows sizes cap → p < v
    → members (leaves (take words (drop (p * words) rows)) keeps) (64 * length (take words (drop (p * words) rows))) ≡ members (goes (state v n removed) p keeps) n
left_is v n words removed rows sizes cap p keeps k h =
    let start = take words (drop (p * words) rows) in
    let d = state v n removed in
    let fit : n ≤ 64 * words = (values_fit v n words removed rows sizes cap k).0 in
    let e : n + (64 * words - n) ≡ 64 * words = omega arith in
    rw (length_start v n words removed rows sizes cap p k h)
    (members_same (leaves start keeps) (goes d p keeps) (64 * words) (λ i l. leaves_domain v n words removed rows sizes cap p keeps k h i)
    ∙ ap (members (goes d p keeps)) (sym e) ∙ members_past (goes d p keeps) n (64 * words - n) (λ i l. rw (le-ltb i n l) refl))

pub gone_is : (v n words : ℕ) (removed : List (ℕ × ℕ)) (rows sizes : List ℕ) (cap p : ℕ) (keeps : ℕ → Bool)
    → Kept (state v n removed) words rows sizes cap → p < v
    → count (leaves (take words (drop (p * words) rows)) keeps) (64 * length (take words (drop (p * words) rows))) ≡ count (goes (state v n removed) p keeps) n
gone_is v n words removed rows sizes cap p keeps k h =
    sym (length-members (leaves (take words (drop (p * words) rows)) keeps) (64 * length (take words (drop (p * words) rows))))
    ∙ ap length (left_is v n words removed rows sizes cap p keeps k h) ∙ length-members (goes (state v n removed) p keeps) n

-- the trail after a cut is that of the filtered domains
pub cut_after : (v n words : ℕ) (removed removed' : List (ℕ × ℕ)) (rows sizes : List ℕ) (cap p : ℕ) (keeps : ℕ → Bool)
    → Kept (state v n removed) words rows sizes cap → p < v
    → removed' ≡ removed ++ at_vertex p (members (leaves (take words (drop (p * words) rows)) keeps) (64 * length (take words (drop (p * words) rows))))
    → state v n removed' ≡ filtered (state v n removed) p keeps
cut_after v n words removed removed' rows sizes cap p keeps k h e =
    ap (state v n) (e ∙ ap (λ us. removed ++ at_vertex p us) (left_is v n words removed rows sizes cap p keeps k h))

-- the rows after a cut are those of the filtered domains
pub cut_kept : (v n words : ℕ) (removed : List (ℕ × ℕ)) (rows sizes row' : List ℕ) (cap p gone : ℕ) (keeps : ℕ → Bool)
    → Kept (state v n removed) words rows sizes cap → p < v
    → length row' ≡ words
    → ((t : ℕ) → t < 64 * length (take words (drop (p * words) rows)) → has row' t ≡ (has (take words (drop (p * words) rows)) t && keeps t))
    → gone ≡ count (leaves (take words (drop (p * words) rows)) keeps) (64 * length (take words (drop (p * words) rows)))
    → Kept (filtered (state v n removed) p keeps) words (put_mid (p * words) words rows row') (set sizes p (get_or sizes p 0 - gone)) cap
cut_kept v n words removed rows sizes row' cap p gone keeps k h long bits counted =
    kept_change v n words removed (filtered d p keeps).removed rows (put_mid (p * words) words rows row') sizes cap p (get_or sizes p 0 - gone) k h
    same-length
    (λ t l. has-put_inside (p * words) words rows row' t starts long l ∙ bits t (rw starting l)
    ∙ rw (start_bits v n words removed rows sizes cap p k h t) (sym (filtered_own d p keeps t)))
    (λ q t ne l. has-put_outside p q words rows row' t ne starts long l)
    (λ q t ne. filtered_other d p keeps q t ne)
    (omega (arith, sizes-are, k.counts p h, gone-goes))
    (filtered_once d p keeps k.once)
    (All-append (InRange v n) removed (at_vertex p (members (goes d p keeps) n)) k.range (range_members v n p (goes d p keeps) n h (goes_below d p keeps)))
    (omega (
      arith,
      sizes-are,
      k.counts p h,
      gone-goes,
      length-append removed (at_vertex p (members (goes d p keeps) n)),
      length-at_vertex p (members (goes d p keeps) n),
      length-members (goes d p keeps) n,
    ))
  where
    d : State
    d = state v n removed

    starts : p * words ≤ length rows
    starts = omega (arith, row_starts v n words removed rows sizes cap p k h)

    starting : length (take words (drop (p * words) rows)) ≡ words
    starting = length_start v n words removed rows sizes cap p k h

    gone-goes : gone ≡ count (goes (state v n removed) p keeps) n
    gone-goes = counted ∙ gone_is v n words removed rows sizes cap p keeps k h

    sizes-are : size_of (state v n removed) p ≡ count (goes (state v n removed) p keeps) n + size_of (filtered (state v n removed) p keeps) p
    sizes-are = size_of-without (state v n removed) (goes (state v n removed) p keeps) n p (goes_below (state v n removed) p keeps) (goes_inside (state v n removed) p keeps)

    same-length : length (put_mid (p * words) words rows row') ≡ length rows
    same-length = length-put_mid (p * words) words rows row' (row_starts v n words removed rows sizes cap p k h) long
