-- Blocks of rows, and what a row says of its pair.

use Rattle.std.proofs.Common.{◌≡◌, ℕ, suc, ◌+◌, ◌-◌, ◌*◌, ◌<◌, ◌≤◌, ◌↔◌, Bool, true, false, List, [], ◌∷◌, ◌++◌, eqb, length, take, drop, get_or, set, replicate, refl, sym, ap, ◌∙◌, subst, arith, inl, inr, ◌⊎◌, Some, zero-add}
use Rattle.std.specs.Prelude.{slice_get, slice_index_or}
use Rattle.std.proofs.lemmas.Bool.{cases_eq, cases_order, eqb-true, eq-eqb}
use Rattle.std.proofs.lemmas.List.{get_or-set_same, get_or-set_other, length-set, get_or_read, take-append-le, get_or-replicate, length-replicate, get_or_append_left, length-append, append-nil, append_assoc, get_or-take, get_or-drop}
use Rattle.std.proofs.lemmas.List.FromFn.{get_or-map-range_with_len}
use Rattle.std.proofs.lemmas.Option.{slice_get_within, get_or_from_slice_get}
use Rattle.std.proofs.Math.Seq.{take-length}
use native.Mathlib.Nat.{mul-le-mul, mul-le-mul_right, suc-mul}
use Rattle.bit_rows.specs.BitRows.{has, words_for}
use Rattle.graph_rows.proofs.Places.{place_within}
use Rattle.graph_theory.specs.Graph.{Graph, size}
use Rattle.graph_theory.specs.Embedding.{Problem, differ_in}
use Rattle.graph_theory.specs.Asked.{asked_shared_in}
use Rattle.graph_theory.specs.Reversed.{reversed}
use Rattle.graph_theory.specs.declared.embedding.Maps.{Maps}
use Rattle.graph_theory.specs.declared.embedding.Maps.TheVariants.{Injective, Local, Any}
use Rattle.graph_theory.specs.Neighbours.{is_neighbour, common}
use Rattle.graph_rows.specs.Held.{stands_in}
use Rattle.search_theory.specs.Consistency.{AreConsistent}
use Rattle.pair_supports.specs.declared.kinds.PairKind.{PairKind}
use Rattle.pair_supports.specs.Kinds.{kind_of, AreKinds, Joins, RowIs, HasRow, WordsStay}
use Rattle.pair_supports.specs.Held.{owns, made_in, Held, HeldAt, IsAdded}
use Rattle.pair_supports.specs.Rows.{At}
use Rattle.pair_supports.specs.Shape.{Shape, Shaped}
use Rattle.pair_supports.proofs.Rowing.{next_row, row_same, part_same, part_long}

-- where images need not differ no neighbours are asked
asked_at : (k : Maps) (g : Graph) (p r n : ℕ) → (differ_in k g p r ≡ true → asked_shared_in k g p r ≤ n) → asked_shared_in k g p r ≤ n
asked_at Injective g p r n h = h refl
asked_at Local g p r n h = omega arith
asked_at Any g p r n h = omega arith

asked_back : (k : Maps) (g : Graph) (p r n : ℕ) → (differ_in k g p r ≡ true → asked_shared_in k (reversed g) p r ≤ n) → asked_shared_in k (reversed g) p r ≤ n
asked_back Injective g p r n h = h refl
asked_back Local g p r n h = omega arith
asked_back Any g p r n h = omega arith

-- values that join in a pair's kind are consistent, and the other way round
pub consistent_joins : (q : Problem) (p r t u : ℕ) → Joins q (kind_of q p r) t u → AreConsistent q p t r u
consistent_joins q p r t u j = record {
  pair = record { apart = j.apart; out = j.out; back = j.back };
  shared = asked_at q.maps q.pattern p r (common q.target t u) j.shared;
  in_shared = asked_back q.maps q.pattern p r (common (reversed q.target) t u) j.in_shared;
}

pub joins_consistent : (q : Problem) (p r t u : ℕ) → AreConsistent q p t r u → Joins q (kind_of q p r) t u
joins_consistent q p r t u c = record { apart = c.pair.apart; out = c.pair.out; back = c.pair.back; shared = λ _. c.shared; in_shared = λ _. c.in_shared }

-- so it is where they join just by being apart and no neighbours, of which there is a list
pub listed_consistent : (q : Problem) (p r t u : ℕ) (us : List ℕ) → Joins q (kind_of q p r) t u ↔ ((t ≡ u → ⊥) × (is_neighbour q.target t u ≡ false)) → stands_in us u ≡ is_neighbour q.target t u
    → AreConsistent q p t r u ↔ ((t ≡ u → ⊥) × (stands_in us u ≡ false))
listed_consistent q p r t u us joins listed = (to, from)
  where
    to : AreConsistent q p t r u → (t ≡ u → ⊥) × (stands_in us u ≡ false)
    to consistent = let both = joins.0 (joins_consistent q p r t u consistent) in (both.0, listed ∙ both.1)

    from : (t ≡ u → ⊥) × (stands_in us u ≡ false) → AreConsistent q p t r u
    from both = consistent_joins q p r t u (joins.1 (both.0, sym listed ∙ both.1))

-- a vertex whose rows are made owns its block
pub owns_made : (block_of owners : List ℕ) (t : ℕ) → t < length block_of → slice_index_or (made_in block_of owners) t false ≡ owns block_of owners t
owns_made block_of owners t t_in = get_or-map-range_with_len (owns block_of owners) 0 (length block_of) t t false t_in (zero-add t)

pub row_within : (blocks kinds width block place : ℕ) → block < blocks → place < kinds → (block * kinds + place) * width + width ≤ blocks * kinds * width
row_within blocks kinds width block place b_in p_in = next_row (block * kinds + place) (blocks * kinds) width (place_within blocks kinds block place b_in p_in)

-- the block of a vertex ends within the words
pub block_ends : (q : Problem) (vertices width : ℕ) (kinds : List PairKind) (places : List ℕ) (most : ℕ) (block_of owners counts in_counts pool : List ℕ) (both_ways : Bool)
    → Held q vertices width kinds places most block_of owners counts in_counts pool both_ways → (t s b n : ℕ) (words : List ℕ) → t < size q.target → s ≡ t → b ≡ get_or block_of s b
    → n ≡ length kinds * width → words ≡ pool → b * n + n ≤ length words
block_ends q vertices width kinds places most block_of owners counts in_counts pool both_ways held t s b n words t_in s_is b_is n_is words_is =
    let s_in : s < length block_of = omega (arith, held.block_of_are) in
    let block : b ≡ get_or block_of t 0 = get_or_read block_of s b s_in b_is 0 ∙ ap (λ v. get_or block_of v 0) s_is in
    rw (block, n_is, words_is) (omega (arith, held.pool_is, next_row (get_or block_of t 0) (length owners) (length kinds * width) (held.blocks_in t t_in)))

-- kinds are few
pub kinds_few : (q : Problem) (kinds : List PairKind) (places : List ℕ) → size q.pattern ≤ 1024 → AreKinds q kinds places (size q.pattern * size q.pattern) → length kinds ≤ 1048576
kinds_few q kinds places few classed =
    omega (arith, classed.few, mul-le-mul {n₁ = size q.pattern} {m₁ = size q.pattern} {n₂ = 1024} {m₂ = 1024} few few)

-- so are the words of a block
pub words_few : (q : Problem) (vertices width : ℕ) (kinds : List PairKind) (places : List ℕ) (most : ℕ) (block_of owners counts in_counts pool : List ℕ) (both_ways : Bool)
    → Held q vertices width kinds places most block_of owners counts in_counts pool both_ways → (n : ℕ) → n ≡ length kinds * width → n ≤ 134217728
words_few q vertices width kinds places most block_of owners counts in_counts pool both_ways held n n_is =
    let narrow : width ≤ 128 = omega (arith, held.width_is, held.few_target) in
    let all = mul-le-mul {n₁ = length kinds} {m₁ = width} {n₂ = 1048576} {m₂ = 128} (kinds_few q kinds places held.few_pattern held.classed) narrow in
    omega (arith, n_is, all)

-- and those up to the end of a vertex's block
pub block_few : (q : Problem) (vertices width : ℕ) (kinds : List PairKind) (places : List ℕ) (most : ℕ) (block_of owners counts in_counts pool : List ℕ) (both_ways : Bool)
    → Held q vertices width kinds places most block_of owners counts in_counts pool both_ways → (t s b n : ℕ) → t < size q.target → s ≡ t → b ≡ get_or block_of s b
    → n ≡ length kinds * width → b * n + n ≤ 1099511627776
block_few q vertices width kinds places most block_of owners counts in_counts pool both_ways held t s b n t_in s_is b_is n_is =
    let s_in : s < length block_of = omega (arith, held.block_of_are) in
    let block : b ≡ get_or block_of t 0 = get_or_read block_of s b s_in b_is 0 ∙ ap (λ v. get_or block_of v 0) s_is in
    let ends = next_row b (length owners) n (rw block (held.blocks_in t t_in)) in
    let all = mul-le-mul_right {m = length owners} {n = 8192} n (omega (arith, held.owners_few, held.most_few, held.few_target)) in
    omega (arith, ends, all, words_few q vertices width kinds places most block_of owners counts in_counts pool both_ways held n n_is)

-- and the number of a block's first row
pub first_few : (block blocks n : ℕ) → block < blocks → blocks ≤ 8192 → n ≤ 1048576 → block * n ≤ 8589934592
first_few block blocks n b_in few n_few = mul-le-mul {n₁ = block} {m₁ = n} {n₂ = 8192} {m₂ = 1048576} (omega (arith, b_in, few)) n_few

pub start_before : (x y : ℕ) → x ≤ x + y
start_before x y = omega arith

-- and there is room for the rows of a block
pub room_of : (block blocks n kinds width words pool : ℕ) → block < blocks → n ≡ kinds → words ≡ kinds * width → blocks * words ≤ pool → (block * n + kinds) * width ≤ pool
room_of block blocks n kinds width words pool b_in n_is words_is room =
    let all : blocks * (kinds * width) ≤ pool = subst (λ (w : ℕ). blocks * w ≤ pool) words_is room in
    rw n_is (omega (arith, all, mul-le-mul_right {m = block * kinds + kinds} {n = blocks * kinds} width (next_row block blocks kinds b_in)))

-- and the places of a vertex's pairs, which end within them
pub own_few : (q : Problem) (vertices width : ℕ) (kinds : List PairKind) (places : List ℕ) (most : ℕ) (block_of owners counts in_counts pool : List ℕ) (both_ways : Bool)
    → Held q vertices width kinds places most block_of owners counts in_counts pool both_ways → (p s : ℕ) → p < size q.pattern → s ≡ p → s * vertices + vertices ≤ 1048576
own_few q vertices width kinds places most block_of owners counts in_counts pool both_ways held p s p_in s_is =
    let pairs = mul-le-mul {n₁ = size q.pattern} {m₁ = size q.pattern} {n₂ = 1024} {m₂ = 1024} held.few_pattern held.few_pattern in
    rw (s_is, held.vertices_are) (omega (arith, pairs, next_row p (size q.pattern) (size q.pattern) p_in))

pub own_ends : (q : Problem) (vertices width : ℕ) (kinds : List PairKind) (places : List ℕ) (most : ℕ) (block_of owners counts in_counts pool : List ℕ) (both_ways : Bool)
    → Held q vertices width kinds places most block_of owners counts in_counts pool both_ways → (p s : ℕ) (kept : List ℕ) → p < size q.pattern → s ≡ p → kept ≡ places → s * vertices + vertices ≤ length kept
own_ends q vertices width kinds places most block_of owners counts in_counts pool both_ways held p s kept p_in s_is kept_is =
    rw (s_is, kept_is, held.vertices_are) (omega (arith, held.classed.long, next_row p (size q.pattern) (size q.pattern) p_in))

-- what stands for one vertex at a value that owns its block: its part of the places, and that block
pub held_at : (q : Problem) (vertices width : ℕ) (kinds : List PairKind) (places : List ℕ) (most : ℕ) (block_of owners counts in_counts pool : List ℕ) (both_ways : Bool)
    → Held q vertices width kinds places most block_of owners counts in_counts pool both_ways → (p t : ℕ) → p < size q.pattern → t < size q.target → owns block_of owners t ≡ true
    → HeldAt q width kinds p t (take vertices (drop (p * vertices) places)) (take (length kinds * width) (drop (get_or block_of t 0 * (length kinds * width)) pool))
held_at q vertices width kinds places most block_of owners counts in_counts pool both_ways held p t p_in t_in owned = record {
  value_in = t_in;
  width_is = held.width_is;
  own_long = part_long vertices vertices (p * vertices) places refl (omega (arith, places_end, places_long)) ∙ held.vertices_are;
  each = λ r r_in apart. rw (place r r_in) (held.classed.each p r r_in (place_within (size q.pattern) (size q.pattern) p r p_in r_in) apart);
  block_long = part_long (length kinds * width) (length kinds * width) (block * (length kinds * width)) pool refl (omega (arith, block_end, held.pool_is));
  rows = λ i. record { each = λ k k_is. row i k (slice_get_within kinds i k k_is) ((held.rows t i t_in owned).each k k_is) };
}
  where
    block : ℕ
    block = get_or block_of t 0

    places_end : p * vertices + vertices ≤ vertices * vertices
    places_end = next_row p vertices vertices (omega (arith, held.vertices_are))

    places_long : length places ≡ vertices * vertices
    places_long = rw held.vertices_are held.classed.long

    block_end : block * (length kinds * width) + length kinds * width ≤ length owners * (length kinds * width)
    block_end = next_row block (length owners) (length kinds * width) (held.blocks_in t t_in)

    place : (r : ℕ) → r < size q.pattern → get_or (take vertices (drop (p * vertices) places)) r 0 ≡ get_or places (p * size q.pattern + r) 0
    place r r_in =
        get_or-take vertices (drop (p * vertices) places) r 0 (omega (arith, held.vertices_are)) ∙ get_or-drop (p * vertices) places r 0
        ∙ ap (λ n. get_or places (p * n + r) 0) held.vertices_are

    row : (i : ℕ) (k : PairKind) → i < length kinds → RowIs q k t (take width (drop ((block * length kinds + i) * width) pool))
        → RowIs q k t (take width (drop (i * width) (take (length kinds * width) (drop (block * (length kinds * width)) pool))))
    row i k i_in is =
        let ends = next_row i (length kinds) width i_in in
        let words = drop (block * (length kinds * width)) pool in
        row_same q k t (take width (drop ((block * length kinds + i) * width) pool)) (take width (drop (i * width) (take (length kinds * width) words)))
        (part_same width ((block * length kinds + i) * width) (i * width) pool (take (length kinds * width) words)
        (λ j j_in. get_or-take (length kinds * width) words (i * width + j) 0 (omega arith) ∙ get_or-drop (block * (length kinds * width)) pool (i * width + j) 0
        ∙ ap (λ n. get_or pool n 0) (omega arith))) is

-- the same where the parts are read one by one
pub at_read : (q : Problem) (vertices width : ℕ) (kinds : List PairKind) (places : List ℕ) (most : ℕ) (block_of owners counts in_counts pool : List ℕ) (both_ways : Bool)
    → Held q vertices width kinds places most block_of owners counts in_counts pool both_ways → (p t : ℕ) → p < size q.pattern → t < size q.target
    → slice_index_or (made_in block_of owners) t false ≡ true → (i s b n : ℕ) (ps words : List ℕ) → i ≡ p → s ≡ t → b ≡ get_or block_of s b → n ≡ length kinds * width → ps ≡ places → words ≡ pool
    → HeldAt q width kinds p t (take (i * vertices + vertices - i * vertices) (drop (i * vertices) ps)) (take (b * n + n - b * n) (drop (b * n) words))
at_read q vertices width kinds places most block_of owners counts in_counts pool both_ways held p t p_in t_in made i s b n ps words i_is s_is b_is n_is ps_is words_is =
    let s_in : s < length block_of = omega (arith, held.block_of_are) in
    let block : b ≡ get_or block_of t 0 = get_or_read block_of s b s_in b_is 0 ∙ ap (λ v. get_or block_of v 0) s_is in
    let places_few : i * vertices + vertices - i * vertices ≡ vertices = omega arith in
    let block_few : b * n + n - b * n ≡ n = omega arith in
    let owned : owns block_of owners t ≡ true = sym (owns_made block_of owners t (omega (arith, held.block_of_are))) ∙ made in
    rw (places_few, block_few, i_is, block, n_is, ps_is, words_is)
    (held_at q vertices width kinds places most block_of owners counts in_counts pool both_ways held p t p_in t_in owned)

-- what is held of a vertex at a value, by the names that its callers know
pub held_seen : {x y : Shape} → x ≡ y → {p t : ℕ} {at : At} → record { problem = y.problem; vertex = p; value = t } ≡ at → {own block : List ℕ} → HeldAt y.problem y.width y.kinds p t own block
    → HeldAt at.problem x.width x.kinds at.vertex at.value own block
held_seen {x} {y} same {p} {t} {at} is {own} {block} held =
    subst (λ (z : Shape). HeldAt at.problem z.width z.kinds at.vertex at.value own block) (sym same)
    (subst (λ (z : At). HeldAt z.problem y.width y.kinds z.vertex z.value own block) is held)

-- the row of a kind at t, from this word of its block on, is within the block
pub record RowGiven (q : Problem) (k : PairKind) (t from width : ℕ) (block : List ℕ) : Type 0 where
  pub ends : from + width ≤ length block
  pub long : length (take (from + width - from) (drop from block)) ≡ words_for (size q.target)
  pub row : RowIs q k t (take (from + width - from) (drop from block))

pub row_given : (q : Problem) (width : ℕ) (kinds : List PairKind) (p t : ℕ) (own block : List ℕ) → HeldAt q width kinds p t own block → (r i : ℕ) → i ≡ r → r < size q.pattern → (p ≡ r → ⊥)
    → RowGiven q (kind_of q p r) t (get_or own i 0 * width) width block
row_given q width kinds p t own block held r i i_is r_in apart =
    subst (λ (j : ℕ). RowGiven q (kind_of q p r) t (get_or own j 0 * width) width block) (sym i_is) (record {
      ends = ends;
      long = part_long (from + width - from) width from block few ends ∙ held.width_is;
      row = rw few ((held.rows (get_or own r 0)).each (kind_of q p r) kind);
    })
  where
    from : ℕ
    from = get_or own r 0 * width

    few : from + width - from ≡ width
    few = omega arith

    kind : slice_get kinds (get_or own r 0) ≡ Some (kind_of q p r)
    kind = held.each r r_in apart

    ends : from + width ≤ length block
    ends = omega (arith, held.block_long, next_row (get_or own r 0) (length kinds) width (slice_get_within kinds (get_or own r 0) (kind_of q p r) kind))

-- the kind of a pair stands among the kinds, and is what is read there
pub record KindGiven (kinds : List PairKind) (k : PairKind) (place : ℕ) : Type 0 where
  pub within : place < length kinds
  pub is : (kind : PairKind) → kind ≡ get_or kinds place kind → kind ≡ k

pub kind_given : (q : Problem) (width : ℕ) (kinds : List PairKind) (p t : ℕ) (own block : List ℕ) → HeldAt q width kinds p t own block → (r i : ℕ) → i ≡ r → r < size q.pattern → (p ≡ r → ⊥)
    → KindGiven kinds (kind_of q p r) (get_or own i 0)
kind_given q width kinds p t own block held r i i_is r_in apart =
    let kind : slice_get kinds (get_or own i 0) ≡ Some (kind_of q p r) = rw i_is (held.each r r_in apart) in
    record {
      within = slice_get_within kinds (get_or own i 0) (kind_of q p r) kind;
      is = λ read read_is. read_is ∙ get_or_from_slice_get kinds (get_or own i 0) (kind_of q p r) read kind;
    }

-- the kind of a pair, where the parts are read one by one
pub kind_read : (q : Problem) (vertices width : ℕ) (kinds : List PairKind) (places : List ℕ) (counted in_counted : Graph) (both_ways : Bool)
    → Shaped q vertices width kinds places counted in_counted both_ways → (problem : Problem) → q ≡ problem
    → (p r : ℕ) → p < size problem.pattern → r < size problem.pattern → (p ≡ r → ⊥)
    → (i j place : ℕ) (kind : PairKind) → i ≡ p → j ≡ r → place ≡ get_or places (i * vertices + j) place → kind ≡ get_or kinds place kind → kind ≡ kind_of problem p r
kind_read q vertices width kinds places counted in_counted both_ways held problem same p r p_in r_in apart i j place kind i_is j_is place_is kind_is =
    let p_below : p < size q.pattern = subst (λ (x : Problem). p < size x.pattern) (sym same) p_in in
    let r_below : r < size q.pattern = subst (λ (x : Problem). r < size x.pattern) (sym same) r_in in
    let number : i * vertices + j ≡ p * size q.pattern + r = rw (i_is, j_is, held.vertices_are) refl in
    let pair : p * size q.pattern + r < size q.pattern * size q.pattern = place_within (size q.pattern) (size q.pattern) p r p_below r_below in
    let inside : i * vertices + j < length places = omega (arith, number, pair, held.classed.long) in
    let place_at : place ≡ get_or places (p * size q.pattern + r) 0 = get_or_read places (i * vertices + j) place inside place_is 0 ∙ ap (λ n. get_or places n 0) number in
    let stands : slice_get kinds place ≡ Some (kind_of q p r) = rw place_at (held.classed.each p r r_below pair apart) in
    kind_is ∙ get_or_from_slice_get kinds place (kind_of q p r) kind stands ∙ ap (λ (x : Problem). kind_of x p r) same

-- a list that takes the place of another of its length
pub whole_after : (n : ℕ) (old new : List ℕ) → n ≡ length old → length new ≡ length old → take n (new ++ drop (length new) old) ≡ new
whole_after n old new n_is long =
    let e : n ≡ length new = omega arith in
    rw e (take-append-le (length new) new (drop (length new) old) (omega arith) ∙ take-length new)

-- the block that a vertex takes is its own
pub owns_taken : (block_of owners : List ℕ) (t block : ℕ) → t < length block_of → block < length owners → owns (set block_of t block) (set owners block t) t ≡ true
owns_taken block_of owners t block t_in b_in =
    let at : get_or (set block_of t block) t 0 ≡ block = get_or-set_same block_of t block 0 t_in in
    let is : get_or (set owners block t) block 0 ≡ t = get_or-set_same owners block t 0 b_in in
    rw (at, is) (eq-eqb t t refl)

-- another vertex that owns its block then owned it before, and it is another block
pub owned_before : (block_of owners : List ℕ) (t block s : ℕ) → block < length owners → (s ≡ t → ⊥) → owns (set block_of t block) (set owners block t) s ≡ true
    → (owns block_of owners s ≡ true) × (get_or block_of s 0 ≡ block → ⊥)
owned_before block_of owners t block s b_in ne owned = (owned_old, other)
  where
    at : get_or (set block_of t block) s 0 ≡ get_or block_of s 0
    at = get_or-set_other block_of t s block 0 ne

    now : get_or (set owners block t) (get_or block_of s 0) 0 ≡ s
    now = ap (λ i. get_or (set owners block t) i 0) (sym at) ∙ eqb-true (get_or (set owners block t) (get_or (set block_of t block) s 0) 0) s owned

    other : get_or block_of s 0 ≡ block → ⊥
    other e = ne (sym now ∙ ap (λ i. get_or (set owners block t) i 0) e ∙ get_or-set_same owners block t 0 b_in)

    owned_old : owns block_of owners s ≡ true
    owned_old = eq-eqb (get_or owners (get_or block_of s 0) 0) s (sym (get_or-set_other owners block (get_or block_of s 0) t 0 other) ∙ now)

-- words outside a block keep the rows of other blocks
pub other_block : (kinds width block b i : ℕ) (old new : List ℕ) → WordsStay (block * kinds * width) ((block * kinds + kinds) * width) old new → (b ≡ block → ⊥) → i < kinds
    → (v : ℕ) → has (take width (drop ((b * kinds + i) * width) new)) v ≡ has (take width (drop ((b * kinds + i) * width) old)) v
other_block kinds width block b i old new stay ne i_in =
    part_same width ((b * kinds + i) * width) ((b * kinds + i) * width) old new (λ j j_in. stay.each ((b * kinds + i) * width + j) (outside j j_in (cases_order b block)))
  where
    outside : (j : ℕ) → j < width → (b ≡ block) ⊎ ((b < block) ⊎ (block < b)) → ((b * kinds + i) * width + j < block * kinds * width) ⊎ ((block * kinds + kinds) * width ≤ (b * kinds + i) * width + j)
    outside j j_in (inl e) = absurd (ne e)
    outside j j_in (inr (inl less)) =
        let before = next_row b block kinds less in
        let ends = next_row (b * kinds + i) (block * kinds) width (omega arith) in
        inl (omega arith)
    outside j j_in (inr (inr more)) =
        let after = next_row block b kinds more in
        let starts = mul-le-mul_right {m = block * kinds + kinds} {n = b * kinds + i} width (omega arith) in
        inr (omega arith)

-- the rows after a vertex has taken a block
pub held_more : (q : Problem) (vertices width : ℕ) (kinds : List PairKind) (places : List ℕ) (most : ℕ) (block_of owners counts in_counts pool : List ℕ) (both_ways : Bool)
    → Held q vertices width kinds places most block_of owners counts in_counts pool both_ways → (t block : ℕ) (counts' in_counts' pool' : List ℕ) → t < size q.target → block < length owners
    → length counts' ≡ length counts → length in_counts' ≡ length in_counts → length pool' ≡ length pool → ((i : ℕ) → HasRow q kinds width t i (drop ((block * length kinds + i) * width) pool'))
    → WordsStay (block * length kinds * width) ((block * length kinds + length kinds) * width) pool pool'
    → Held q vertices width kinds places most (set block_of t block) (set owners block t) counts' in_counts' pool' both_ways
held_more q vertices width kinds places most block_of owners counts in_counts pool both_ways held t block counts' in_counts' pool' t_in b_in counts_long in_counts_long pool_long made stay = record {
  few_pattern = held.few_pattern;
  few_target = held.few_target;
  vertices_are = held.vertices_are;
  width_is = held.width_is;
  classed = held.classed;
  counts_are = counts_long ∙ held.counts_are;
  in_counts_are = λ told. in_counts_long ∙ held.in_counts_are told;
  block_of_are = length-set block_of t block ∙ held.block_of_are;
  owners_few = omega (arith, length-set owners block t, held.owners_few);
  most_few = held.most_few;
  owners_some = λ some. omega (arith, length-set owners block t, b_in);
  blocks_in = λ s s_in. blocks s s_in (cases_eq s t);
  pool_is = rw (length-set owners block t, pool_long) held.pool_is;
  rows = λ s i s_in owned. rows s i s_in owned (cases_eq s t);
}
  where
    t_within : t < length block_of
    t_within = omega (arith, held.block_of_are)

    blocks : (s : ℕ) → s < size q.target → (s ≡ t) ⊎ (s ≡ t → ⊥) → get_or (set block_of t block) s 0 < length (set owners block t)
    blocks s s_in (inl e) = rw (e, length-set owners block t) (omega (arith, get_or-set_same block_of t block 0 t_within))
    blocks s s_in (inr ne) = omega (arith, length-set owners block t, get_or-set_other block_of t s block 0 ne, held.blocks_in s s_in)

    rows : (s i : ℕ) → s < size q.target → owns (set block_of t block) (set owners block t) s ≡ true → (s ≡ t) ⊎ (s ≡ t → ⊥)
        → HasRow q kinds width s i (drop ((get_or (set block_of t block) s 0 * length kinds + i) * width) pool')
    rows s i s_in owned (inl e) =
        subst (λ (v : ℕ). HasRow q kinds width v i (drop ((get_or (set block_of t block) v 0 * length kinds + i) * width) pool')) (sym e)
        (subst (λ (b : ℕ). HasRow q kinds width t i (drop ((b * length kinds + i) * width) pool')) (sym (get_or-set_same block_of t block 0 t_within)) (made i))
    rows s i s_in owned (inr ne) =
        let before = owned_before block_of owners t block s b_in ne owned in
        subst (λ (b : ℕ). HasRow q kinds width s i (drop ((b * length kinds + i) * width) pool')) (sym (get_or-set_other block_of t s block 0 ne)) (record {
          each = λ k k_is. row_same q k s (take width (drop ((get_or block_of s 0 * length kinds + i) * width) pool)) (take width (drop ((get_or block_of s 0 * length kinds + i) * width) pool'))
              (other_block (length kinds) width block (get_or block_of s 0) i pool pool' stay before.1 (slice_get_within kinds i k k_is)) ((held.rows s i s_in before.0).each k k_is);
        })

-- rows and words by other names of the same kinds and the same count
pub row_named : (q : Problem) (width t i block len : ℕ) (ks kinds : List PairKind) (words : List ℕ) → ks ≡ kinds → len ≡ length kinds
    → HasRow q ks width t i (drop ((block * len + i) * width) words) → HasRow q kinds width t i (drop ((block * length kinds + i) * width) words)
row_named q width t i block len ks kinds words ks_is len_is row =
    subst (λ (n : ℕ). HasRow q kinds width t i (drop ((block * n + i) * width) words)) len_is
    (subst (λ (x : List PairKind). HasRow q x width t i (drop ((block * len + i) * width) words)) ks_is row)

pub stay_named : (width block len : ℕ) (ks kinds : List PairKind) (words old new : List ℕ) → ks ≡ kinds → len ≡ length kinds → words ≡ old
    → WordsStay (block * len * width) ((block * len + length ks) * width) words new → WordsStay (block * length kinds * width) ((block * length kinds + length kinds) * width) old new
stay_named width block len ks kinds words old new ks_is len_is words_is stay =
    subst (λ (x : List ℕ). WordsStay (block * length kinds * width) ((block * length kinds + length kinds) * width) x new) words_is
    (subst (λ (n : ℕ). WordsStay (block * n * width) ((block * n + length kinds) * width) words new) len_is
    (subst (λ (x : List PairKind). WordsStay (block * len * width) ((block * len + length x) * width) words new) ks_is stay))

-- the rows of a vertex that has taken a block are made
pub made_taken : (block_of owners : List ℕ) (s t block : ℕ) → s ≡ t → t < length block_of → block < length owners
    → slice_index_or (made_in (set block_of s block) (set owners block t)) t false ≡ true
made_taken block_of owners s t block same t_in b_in =
    subst (λ (v : ℕ). slice_index_or (made_in (set block_of v block) (set owners block t)) t false ≡ true) (sym same)
    (owns_made (set block_of t block) (set owners block t) t (omega (arith, length-set block_of t block)) ∙ owns_taken block_of owners t block t_in b_in)

-- so many words stand behind the old ones
pub record Lengthened (old new : List ℕ) (n : ℕ) : Type 0 where
  pub words : List ℕ
  pub is : new ≡ old ++ words
  pub long : length words ≡ n

pub lengthened_none : (old : List ℕ) → Lengthened old old 0
lengthened_none old = record { words = []; is = sym (append-nil old); long = refl }

pub lengthened_more : (old new new' : List ℕ) (n : ℕ) → Lengthened old new n → new' ≡ new ++ 0 ∷ [] → Lengthened old new' (n + 1)
lengthened_more old new new' n l is = record {
  words = l.words ++ 0 ∷ [];
  is = is ∙ ap (λ (xs : List ℕ). xs ++ 0 ∷ []) l.is ∙ append_assoc old l.words (0 ∷ []);
  long = length-append l.words (0 ∷ []) ∙ ap (λ (k : ℕ). k + 1) l.long;
}

pub lengthened_room : (owners old new : List ℕ) (words n : ℕ) → Lengthened old new n → length owners * words ≤ length old → length owners * words ≤ length new
lengthened_room owners old new words n l room = omega (arith, room, ap length l.is, length-append old l.words)

pub added_words : (owners owners' old new : List ℕ) (n : ℕ) → Lengthened old new n → owners' ≡ owners → IsAdded owners old owners' new
added_words owners owners' old new n l same = record { owners_are = inl same; words = l.words; pool_is = l.is }

pub added_block : (owners owners' old new : List ℕ) (n : ℕ) → Lengthened old new n → owners' ≡ owners ++ 65535 ∷ [] → IsAdded owners old owners' new
added_block owners owners' old new n l more = record { owners_are = inr more; words = l.words; pool_is = l.is }

pub added_room : (owners owners' old new : List ℕ) (words : ℕ) → Lengthened old new words → owners' ≡ owners ++ 65535 ∷ [] → length owners * words ≤ length old
    → length owners' * words ≤ length new
added_room owners owners' old new words l more room =
    let long : length owners' ≡ suc (length owners) = omega (arith, ap length more, length-append owners (65535 ∷ [])) in
    rw long (omega (arith, suc-mul (length owners) words, room, ap length l.is, length-append old l.words, l.long))

-- a block that is added is nobody's, and the rows of the others stay
pub held_added : (q : Problem) (vertices width : ℕ) (kinds : List PairKind) (places : List ℕ) (most : ℕ) (block_of owners counts in_counts pool : List ℕ) (both_ways : Bool)
    → Held q vertices width kinds places most block_of owners counts in_counts pool both_ways → (owners' pool' : List ℕ) → IsAdded owners pool owners' pool' → length owners' ≤ most
    → (words : ℕ) → words ≡ length kinds * width → length owners' * words ≤ length pool' → Held q vertices width kinds places most block_of owners' counts in_counts pool' both_ways
held_added q vertices width kinds places most block_of owners counts in_counts pool both_ways held owners' pool' added few words words_is room = record {
  few_pattern = held.few_pattern;
  few_target = held.few_target;
  vertices_are = held.vertices_are;
  width_is = held.width_is;
  classed = held.classed;
  counts_are = held.counts_are;
  in_counts_are = held.in_counts_are;
  block_of_are = held.block_of_are;
  owners_few = few;
  most_few = held.most_few;
  owners_some = λ some. omega (arith, more, held.owners_some some);
  blocks_in = λ t t_in. omega (arith, more, held.blocks_in t t_in);
  pool_is = subst (λ (n : ℕ). length owners' * n ≤ length pool') words_is room;
  rows = λ t i t_in owned. row t i t_in (ap (λ o. eqb o t) (sym (owner t t_in)) ∙ owned);
}
  where
    more_by : (owners' ≡ owners) ⊎ (owners' ≡ owners ++ 65535 ∷ []) → length owners ≤ length owners'
    more_by (inl e) = omega (arith, ap length e)
    more_by (inr e) = omega (arith, ap length e, length-append owners (65535 ∷ []))

    more : length owners ≤ length owners'
    more = more_by added.owners_are

    owner_by : (b : ℕ) → b < length owners → (owners' ≡ owners) ⊎ (owners' ≡ owners ++ 65535 ∷ []) → get_or owners' b 0 ≡ get_or owners b 0
    owner_by b b_in (inl e) = ap (λ (xs : List ℕ). get_or xs b 0) e
    owner_by b b_in (inr e) = ap (λ (xs : List ℕ). get_or xs b 0) e ∙ get_or_append_left owners (65535 ∷ []) 0 b b_in

    owner : (t : ℕ) → t < size q.target → get_or owners' (get_or block_of t 0) 0 ≡ get_or owners (get_or block_of t 0) 0
    owner t t_in = owner_by (get_or block_of t 0) (held.blocks_in t t_in) added.owners_are

    stays : (a : ℕ) → a + width ≤ length pool → (j : ℕ) → j < width → get_or pool' (a + j) 0 ≡ get_or pool (a + j) 0
    stays a ends j j_in = ap (λ (xs : List ℕ). get_or xs (a + j) 0) added.pool_is ∙ get_or_append_left pool added.words 0 (a + j) (omega arith)

    row : (t i : ℕ) → t < size q.target → owns block_of owners t ≡ true → HasRow q kinds width t i (drop ((get_or block_of t 0 * length kinds + i) * width) pool')
    row t i t_in owned = record {
      each = λ k k_is.
          let ends = row_within (length owners) (length kinds) width (get_or block_of t 0) i (held.blocks_in t t_in) (slice_get_within kinds i k k_is) in
          row_same q k t (take width (drop ((get_or block_of t 0 * length kinds + i) * width) pool)) (take width (drop ((get_or block_of t 0 * length kinds + i) * width) pool'))
          (part_same width ((get_or block_of t 0 * length kinds + i) * width) ((get_or block_of t 0 * length kinds + i) * width) pool pool' (stays ((get_or block_of t 0 * length kinds + i) * width) (omega (arith, ends, held.pool_is))))
          ((held.rows t i t_in owned).each k k_is);
    }

-- the rows before any is made: a block, if there is memory for any, has an owner that is no target vertex
pub held_none : (q : Problem) (vertices width : ℕ) (kinds : List PairKind) (places : List ℕ) (counted in_counted : Graph) (both_ways : Bool) → Shaped q vertices width kinds places counted in_counted both_ways
    → (n most words : ℕ) (block_of owners counts in_counts pool : List ℕ) → block_of ≡ replicate n 0 → n ≡ size q.target → most ≤ n → (0 < n → 0 < most) → length owners ≤ most
    → (0 < most → 0 < length owners) → ((k : ℕ) → k < length owners → get_or owners k 0 ≡ 65535) → length counts ≡ n → (both_ways ≡ false → length in_counts ≡ n)
    → words ≡ length kinds * width → length owners * words ≤ length pool → Held q vertices width kinds places most block_of owners counts in_counts pool both_ways
held_none q vertices width kinds places counted in_counted both_ways shaped n most words block_of owners counts in_counts pool block_of_is n_is most_few most_some few some nobody counts_long in_counts_long words_is room = record {
  few_pattern = shaped.few_pattern;
  few_target = shaped.few_target;
  vertices_are = shaped.vertices_are;
  width_is = shaped.width_is;
  classed = shaped.classed;
  counts_are = counts_long ∙ n_is;
  in_counts_are = λ told. in_counts_long told ∙ n_is;
  block_of_are = block_of_long ∙ n_is;
  owners_few = few;
  most_few = omega (arith, most_few, n_is);
  owners_some = λ more. some (most_some (omega (arith, more, n_is)));
  blocks_in = λ t t_in. omega (arith, first t t_in, any t t_in);
  pool_is = subst (λ (n : ℕ). length owners * n ≤ length pool) words_is room;
  rows = λ t i t_in owned. absurd (no_owner t t_in owned);
}
  where
    block_of_long : length block_of ≡ n
    block_of_long = ap length block_of_is ∙ length-replicate n 0

    any : (t : ℕ) → t < size q.target → 0 < length owners
    any t t_in = some (most_some (omega (arith, t_in, n_is)))

    first : (t : ℕ) → t < size q.target → get_or block_of t 0 ≡ 0
    first t t_in = ap (λ (xs : List ℕ). get_or xs t 0) block_of_is ∙ get_or-replicate n t 0 0 (omega arith)

    owner : (t : ℕ) → t < size q.target → get_or owners (get_or block_of t 0) 0 ≡ 65535
    owner t t_in = ap (λ i. get_or owners i 0) (first t t_in) ∙ nobody 0 (any t t_in)

    no_owner : (t : ℕ) → t < size q.target → owns block_of owners t ≡ true → ⊥
    no_owner t t_in owned =
        let is : get_or owners (get_or block_of t 0) 0 ≡ t = eqb-true (get_or owners (get_or block_of t 0) 0) t owned in
        omega (arith, owner t t_in, shaped.few_target)

-- the same of kinds by their parts, where what is held is said of them as they are seen
pub own_few_seen : (x s : Shape) (most : ℕ) (block_of owners counts in_counts pool : List ℕ) → s ≡ x
    → Held x.problem x.vertices x.width x.kinds x.places most block_of owners counts in_counts pool x.both_ways → (p r : ℕ) → p < size x.problem.pattern → r ≡ p → r * s.vertices + s.vertices ≤ 1048576
own_few_seen x s most block_of owners counts in_counts pool is held p r p_in r_is =
    subst (λ (y : Shape). r * y.vertices + y.vertices ≤ 1048576) (sym is) (own_few x.problem x.vertices x.width x.kinds x.places most block_of owners counts in_counts pool x.both_ways held p r p_in r_is)

pub block_few_seen : (x s : Shape) (most : ℕ) (block_of owners counts in_counts pool : List ℕ) → s ≡ x
    → Held x.problem x.vertices x.width x.kinds x.places most block_of owners counts in_counts pool x.both_ways → (t r b n : ℕ) → t < size x.problem.target → r ≡ t → b ≡ get_or block_of r b
    → n ≡ length s.kinds * s.width → b * n + n ≤ 1099511627776
block_few_seen x s most block_of owners counts in_counts pool is held t r b n t_in r_is b_is n_is =
    block_few x.problem x.vertices x.width x.kinds x.places most block_of owners counts in_counts pool x.both_ways held t r b n t_in r_is b_is (n_is ∙ ap (λ (y : Shape). length y.kinds * y.width) is)
