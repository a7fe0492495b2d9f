-- Two lists that hold a set, and what stands where.

use Rattle.std.proofs.Common.{◌≡◌, ℕ, zero, suc, ◌+◌, ◌-◌, ◌<◌, ◌≤◌, ◌||◌, Bool, true, false, not, eqb, ltb, leb, List, [], ◌∷◌, ◌++◌, length, get_or, set, take, drop, refl, sym, ap, ◌∙◌, subst, arith, ◌⊎◌, inl, inr}
use Rattle.std.proofs.lemmas.Bool.{cases_eq, cases_lt, eqb-true, eq-eqb, lt-ltb, le-ltb, lt-leb, le-leb, ltb-true, and_parts, or_cases, false≢true}
use Rattle.std.proofs.lemmas.List.{length-set, length-take-le, get_or-set_same, get_or-set_other, get_or-take, get_or-drop, length-drop, take-set-le}
use Rattle.std.proofs.lemmas.Grind.{take-set_at, get_or_default_zero}
use Rattle.sparse_set.specs.Removals.{State, among, has, without}
use Rattle.sparse_set.specs.Inside.{Held, state}

-- ---- standing in a list

-- what stands in a list has a place there
pub among_place : (xs : List ℕ) (p : ℕ) → among xs p ≡ true → (k : ℕ) × (k < length xs) × (get_or xs k 0 ≡ p)
among_place [] p h = cc
among_place (x ∷ xs) p h = by (or_cases (eqb x p) (among xs p) h) (among_place xs p)
  where
    by : (eqb x p ≡ true) ⊎ (among xs p ≡ true) → (among xs p ≡ true → (k : ℕ) × (k < length xs) × (get_or xs k 0 ≡ p)) → (k : ℕ) × (k < length (x ∷ xs)) × (get_or (x ∷ xs) k 0 ≡ p)
    by (inl e) rest = (0, omega arith, eqb-true x p e)
    by (inr e) rest = let later = rest e in (suc later.0, omega (arith, later.1), later.2)

-- and what has a place stands there
pub among_at : (xs : List ℕ) (k : ℕ) → k < length xs → among xs (get_or xs k 0) ≡ true
among_at [] k h = absurd (omega arith)
among_at (x ∷ xs) zero h = rw (eq-eqb x x refl) refl
among_at (x ∷ xs) (suc k) h = rw (among_at xs k (omega (arith, h))) (or_true (eqb x (get_or xs k 0)))
  where
    or_true : (b : Bool) → (b || true) ≡ true
    or_true true = refl
    or_true false = refl

-- the part of a list from a place on
pub rest_from : (xs : List ℕ) (n : ℕ) → take (length xs - n) (drop n xs) ≡ drop n xs
rest_from xs n = ap (λ (m : ℕ). take m (drop n xs)) (sym (length-drop n xs)) ∙ take_whole (drop n xs)
  where
    take_whole : (ys : List ℕ) → take (length ys) ys ≡ ys
    take_whole [] = refl
    take_whole (y ∷ ys) = ap (λ (zs : List ℕ). y ∷ zs) (take_whole ys)

-- ---- members

-- a number is a member just where its place is past those that were removed
pub member_by_place : (items places : List ℕ) (gone p : ℕ) → Held items places gone → p < length items → not (ltb (get_or places p 0) gone) ≡ has (state items gone) p
member_by_place items places gone p h p_in = rw (lt-ltb p (length items) p_in) (ap not (by (cases_lt (get_or places p 0) gone)))
  where
    by : (get_or places p 0 < gone) ⊎ (gone ≤ get_or places p 0) → ltb (get_or places p 0) gone ≡ among (take gone items) p
    by (inl l) = rw (lt-ltb (get_or places p 0) gone l)
        (sym (subst (λ (x : ℕ). among (take gone items) x ≡ true) (get_or-take gone items (get_or places p 0) 0 l ∙ h.item_at_place p p_in)
        (among_at (take gone items) (get_or places p 0) (omega (arith, l, length-take-le gone items h.within)))))
    by (inr far) = rw (le-ltb (get_or places p 0) gone far) (absent (among (take gone items) p) refl)
      where
        absent : (b : Bool) → among (take gone items) p ≡ b → false ≡ b
        absent false e = refl
        absent true e =
            let at = among_place (take gone items) p e in
            let k_in : at.0 < gone = omega (arith, at.1, length-take-le gone items h.within) in
            let same : get_or items at.0 0 ≡ p = sym (get_or-take gone items at.0 0 k_in) ∙ at.2 in
            absurd (omega (arith, far, k_in, h.place_of_item at.0 (omega (arith, k_in, h.within)), ap (λ (x : ℕ). get_or places x 0) same))

-- a member is a number below the count, and its place is past those that were removed
pub member_parts : (items places : List ℕ) (gone p : ℕ) → Held items places gone → has (state items gone) p ≡ true → (p < length items) × (gone ≤ get_or places p 0)
member_parts items places gone p h here =
    let p_in = ltb-true p (length items) (and_parts (ltb p (length items)) (not (among (take gone items) p)) here).0 in
    (p_in, by (cases_lt (get_or places p 0) gone) (member_by_place items places gone p h p_in ∙ here))
  where
    by : (get_or places p 0 < gone) ⊎ (gone ≤ get_or places p 0) → not (ltb (get_or places p 0) gone) ≡ true → gone ≤ get_or places p 0
    by (inl l) e = let f = rw (lt-ltb (get_or places p 0) gone l) at e in absurd (false≢true f)
    by (inr far) e = far

-- what stands past the removed ones is a member
pub member_at : (items places : List ℕ) (gone k : ℕ) → Held items places gone → k < length (drop gone items) → has (state items gone) (get_or (drop gone items) k 0) ≡ true
member_at items places gone k h k_in =
    let there : gone + k < length items = omega (arith, k_in, length-drop gone items) in
    rw (get_or-drop gone items k 0)
    (sym (member_by_place items places gone (get_or items (gone + k) 0) h (h.item (gone + k) there))
    ∙ ap not (ap (λ (x : ℕ). ltb x gone) (h.place_of_item (gone + k) there) ∙ le-ltb (gone + k) gone (omega arith)))

-- and each member stands there
pub member_place : (items places : List ℕ) (gone p : ℕ) → Held items places gone → has (state items gone) p ≡ true
    → (k : ℕ) × (k < length (drop gone items)) × (get_or (drop gone items) k 0 ≡ p)
member_place items places gone p h here =
    let parts = member_parts items places gone p h here in
    let at = get_or places p 0 in
    let k = at - gone in
    let sum : gone + k ≡ at = omega (arith, parts.1) in
    (k, omega (arith, parts.1, h.place p parts.0, length-drop gone items), get_or-drop gone items k 0 ∙ (ap (λ (i : ℕ). get_or items i 0) sum ∙ h.item_at_place p parts.0))

-- in one place only
pub member_once : (items places : List ℕ) (gone j k : ℕ) → Held items places gone → j < length (drop gone items) → k < length (drop gone items)
    → get_or (drop gone items) j 0 ≡ get_or (drop gone items) k 0 → j ≡ k
member_once items places gone j k h j_in k_in same =
    let j_at = h.place_of_item (gone + j) (omega (arith, j_in, length-drop gone items)) in
    let k_at = h.place_of_item (gone + k) (omega (arith, k_in, length-drop gone items)) in
    let items_same : get_or items (gone + j) 0 ≡ get_or items (gone + k) 0 = sym (get_or-drop gone items j 0) ∙ (same ∙ get_or-drop gone items k 0) in
    omega (arith, j_at, k_at, ap (λ (x : ℕ). get_or places x 0) items_same)

-- ---- a number changes places with the first member

-- what stands at k after two writes, the one at j the later
abbrev Written : List ℕ → (i a j b k : ℕ) → Type 0
Written xs i a j b k = ((k ≡ j) × (get_or (set (set xs i a) j b) k 0 ≡ b))
    ⊎ (((k ≡ j → ⊥) × (k ≡ i) × (get_or (set (set xs i a) j b) k 0 ≡ a)) ⊎ ((k ≡ j → ⊥) × (k ≡ i → ⊥) × (get_or (set (set xs i a) j b) k 0 ≡ get_or xs k 0)))

written : (xs : List ℕ) (i a j b k : ℕ) → i < length xs → j < length xs → Written xs i a j b k
written xs i a j b k i_in j_in = by (cases_eq k j) (cases_eq k i)
  where
    by : (k ≡ j) ⊎ (k ≡ j → ⊥) → (k ≡ i) ⊎ (k ≡ i → ⊥) → Written xs i a j b k
    by (inl e) y = inl (e, ap (λ (x : ℕ). get_or (set (set xs i a) j b) x 0) e ∙ get_or-set_same (set xs i a) j b 0 (omega (arith, j_in, length-set xs i a)))
    by (inr o) (inl e) = inr (inl (o, e, get_or-set_other (set xs i a) j k b 0 o ∙ (ap (λ (x : ℕ). get_or (set xs i a) x 0) e ∙ get_or-set_same xs i a 0 i_in)))
    by (inr o) (inr u) = inr (inr (o, u, get_or-set_other (set xs i a) j k b 0 o ∙ get_or-set_other xs i k a 0 u))

-- the number at the end of those that were removed, and what stood there at its place
pub held_moved : (items places : List ℕ) (gone p : ℕ) → Held items places gone → p < length items → gone ≤ get_or places p 0
    → Held (set (set items (get_or places p 0) (get_or items gone 0)) gone p) (set (set places (get_or items gone 0) (get_or places p 0)) p gone) (gone + 1)
held_moved items places gone p h p_in far = record {
  long = length-set (set places other from) p gone ∙ (length-set places other from ∙ (h.long ∙ sym long));
  within = omega (arith, gone_in, long);
  item = λ k k_in. item k (omega (arith, k_in, long)) (written items from other gone p k from_in gone_in);
  place = λ r r_in. place r (omega (arith, r_in, long)) (places_written r);
  place_of_item = λ k k_in. place_of_item k (omega (arith, k_in, long)) (written items from other gone p k from_in gone_in);
  item_at_place = λ r r_in. item_at_place r (omega (arith, r_in, long)) (places_written r);
}
  where
    from : ℕ
    from = get_or places p 0

    other : ℕ
    other = get_or items gone 0

    items_after : List ℕ
    items_after = set (set items from other) gone p

    places_after : List ℕ
    places_after = set (set places other from) p gone

    from_in : from < length items
    from_in = h.place p p_in

    gone_in : gone < length items
    gone_in = omega (arith, far, from_in)

    other_in : other < length items
    other_in = h.item gone gone_in

    long : length items_after ≡ length items
    long = length-set (set items from other) gone p ∙ length-set items from other

    places_written : (r : ℕ) → Written places other from p gone r
    places_written r = written places other from p gone r (omega (arith, other_in, h.long)) (omega (arith, p_in, h.long))

    item : (k : ℕ) → k < length items → Written items from other gone p k → get_or items_after k 0 < length items_after
    item k k_in (inl (e, is)) = omega (arith, is, p_in, long)
    item k k_in (inr (inl (o, e, is))) = omega (arith, is, other_in, long)
    item k k_in (inr (inr (o, u, is))) = omega (arith, is, h.item k k_in, long)

    place : (r : ℕ) → r < length items → Written places other from p gone r → get_or places_after r 0 < length items_after
    place r r_in (inl (e, is)) = omega (arith, is, gone_in, long)
    place r r_in (inr (inl (o, e, is))) = omega (arith, is, from_in, long)
    place r r_in (inr (inr (o, u, is))) = omega (arith, is, h.place r r_in, long)

    -- the place of what stands at k
    at_p : get_or places_after p 0 ≡ gone
    at_p = by (places_written p)
      where
        by : Written places other from p gone p → get_or places_after p 0 ≡ gone
        by (inl (e, is)) = is
        by (inr (inl (o, e, is))) = absurd (o refl)
        by (inr (inr (o, u, is))) = absurd (o refl)

    at_gone : get_or items_after gone 0 ≡ p
    at_gone = by (written items from other gone p gone from_in gone_in)
      where
        by : Written items from other gone p gone → get_or items_after gone 0 ≡ p
        by (inl (e, is)) = is
        by (inr (inl (o, e, is))) = absurd (o refl)
        by (inr (inr (o, u, is))) = absurd (o refl)

    place_of_item : (k : ℕ) → k < length items → Written items from other gone p k → get_or places_after (get_or items_after k 0) 0 ≡ k
    place_of_item k k_in (inl (e, is)) = ap (λ (x : ℕ). get_or places_after x 0) is ∙ (at_p ∙ sym e)
    place_of_item k k_in (inr (inl (o, e, is))) = ap (λ (x : ℕ). get_or places_after x 0) is ∙ by (places_written other)
      where
        by : Written places other from p gone other → get_or places_after other 0 ≡ k
        by (inl (same, it)) = absurd (o (e ∙ (ap (λ (x : ℕ). get_or places x 0) (sym same) ∙ h.place_of_item gone gone_in)))
        by (inr (inl (n, same, it))) = it ∙ sym e
        by (inr (inr (n, u, it))) = absurd (u refl)
    place_of_item k k_in (inr (inr (o, u, is))) = ap (λ (x : ℕ). get_or places_after x 0) is ∙ by (places_written (get_or items k 0))
      where
        by : Written places other from p gone (get_or items k 0) → get_or places_after (get_or items k 0) 0 ≡ k
        by (inl (same, it)) = absurd (u (sym (h.place_of_item k k_in) ∙ ap (λ (x : ℕ). get_or places x 0) same))
        by (inr (inl (n, same, it))) = absurd (o (sym (h.place_of_item k k_in) ∙ (ap (λ (x : ℕ). get_or places x 0) same ∙ h.place_of_item gone gone_in)))
        by (inr (inr (n, v, it))) = it ∙ h.place_of_item k k_in

    -- what stands at the place of r
    item_at_place : (r : ℕ) → r < length items → Written places other from p gone r → get_or items_after (get_or places_after r 0) 0 ≡ r
    item_at_place r r_in (inl (e, is)) = ap (λ (x : ℕ). get_or items_after x 0) is ∙ (at_gone ∙ sym e)
    item_at_place r r_in (inr (inl (o, e, is))) = ap (λ (x : ℕ). get_or items_after x 0) is ∙ by (written items from other gone p from from_in gone_in)
      where
        by : Written items from other gone p from → get_or items_after from 0 ≡ r
        by (inl (same, it)) = absurd (o (e ∙ (ap (λ (x : ℕ). get_or items x 0) (sym same) ∙ h.item_at_place p p_in)))
        by (inr (inl (n, same, it))) = it ∙ sym e
        by (inr (inr (n, u, it))) = absurd (u refl)
    item_at_place r r_in (inr (inr (o, u, is))) = ap (λ (x : ℕ). get_or items_after x 0) is ∙ by (written items from other gone p (get_or places r 0) from_in gone_in)
      where
        by : Written items from other gone p (get_or places r 0) → get_or items_after (get_or places r 0) 0 ≡ r
        by (inl (same, it)) = absurd (u (sym (h.item_at_place r r_in) ∙ ap (λ (x : ℕ). get_or items x 0) same))
        by (inr (inl (n, same, it))) = absurd (o (sym (h.item_at_place r r_in) ∙ (ap (λ (x : ℕ). get_or items x 0) same ∙ h.item_at_place p p_in)))
        by (inr (inr (n, v, it))) = it ∙ h.item_at_place r r_in

-- and those that were removed are one more
pub removed_moved : (items : List ℕ) (from other gone p : ℕ) → gone ≤ from → gone < length items
    → take (gone + 1) (set (set items from other) gone p) ≡ take gone items ++ p ∷ []
removed_moved items from other gone p far gone_in =
    take-set_at (set items from other) gone (gone + 1) p refl (omega (arith, gone_in, length-set items from other))
    ∙ ap (λ (xs : List ℕ). xs ++ p ∷ []) (take-set-le gone items from other far)

-- ---- as the code reads the two lists

-- what is read of a list of numbers
pub read_at : (xs : List ℕ) (i p r : ℕ) → i ≡ p → p < length xs → r ≡ get_or xs i r → r ≡ get_or xs p 0
read_at xs i p r same p_in is = is ∙ (ap (λ (k : ℕ). get_or xs k r) same ∙ get_or_default_zero xs p r p_in)

pub member_read : (items places : List ℕ) (gone p i r n : ℕ) → Held items places gone → p < length items → i ≡ p → r ≡ get_or places i r → n ≡ r
    → leb gone n ≡ has (state items gone) p
member_read items places gone p i r n h p_in same is from =
    let at : n ≡ get_or places p 0 = from ∙ read_at places i p r same (omega (arith, p_in, h.long)) is in
    rw at (by (cases_lt (get_or places p 0) gone) ∙ member_by_place items places gone p h p_in)
  where
    by : (get_or places p 0 < gone) ⊎ (gone ≤ get_or places p 0) → leb gone (get_or places p 0) ≡ not (ltb (get_or places p 0) gone)
    by (inl l) = rw (lt-ltb (get_or places p 0) gone l, lt-leb gone (get_or places p 0) l) refl
    by (inr far) = rw (le-ltb (get_or places p 0) gone far, le-leb gone (get_or places p 0) far) refl

-- two lists after the writes of a removal
pub held_written : (items places : List ℕ) (gone p place first i j k : ℕ) → Held items places gone → p < length items → gone ≤ get_or places p 0
    → place ≡ get_or places p 0 → first ≡ get_or items gone 0 → i ≡ place → j ≡ first → k ≡ p
    → Held (set (set items i first) gone p) (set (set places j place) k gone) (gone + 1)
held_written items places gone p place first i j k h p_in far place_is first_is i_is j_is k_is =
    rw (i_is, j_is, k_is, place_is, first_is) (held_moved items places gone p h p_in far)

pub state_written : (items places : List ℕ) (gone p place first i : ℕ) → Held items places gone → p < length items → gone ≤ get_or places p 0
    → place ≡ get_or places p 0 → i ≡ place → state (set (set items i first) gone p) (gone + 1) ≡ without (state items gone) p
state_written items places gone p place first i h p_in far place_is i_is =
    let gone_in : gone < length items = omega (arith, far, h.place p p_in) in
    let long : length (set (set items i first) gone p) ≡ length items = length-set (set items i first) gone p ∙ length-set items i first in
    let front = removed_moved items i first gone p (omega (arith, far, place_is, i_is)) gone_in in
    ap (λ (n : ℕ). with_count n (take (gone + 1) (set (set items i first) gone p))) long ∙ ap (with_count (length items)) front
  where
    with_count : ℕ → List ℕ → State
    with_count n xs = record { count = n; removed = xs }
