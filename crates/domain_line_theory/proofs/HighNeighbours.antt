-- Neighbours of high degree: how many there are, and when they are a crowd.
use Rattle.std.proofs.Common.{◌≡◌, ℕ, zero, suc, ◌+◌, ◌<◌, ◌≤◌, ◌==◌, nat_lt, Bool, true, false, ◌&&◌, ◌||◌, not, is_some, if◌then◌else◌, List, [], ◌∷◌, ◌++◌, length, map, slice_index, refl, sym, ap, ◌∙◌, arith, Option, Some, None, subst, inl, inr, ◌⊎◌}
use Rattle.std.proofs.lemmas.Bool.{and_parts, and_from, cases_lt, le-ltb, lt-ltb, ltb-true, eq-eqb, eqb-true, ne_eqb, or_cases}
use Rattle.graph_theory.specs.Graph.{Graph, size, edge}
use Rattle.graph_theory.specs.Embedding.{Problem, is_injective}
use Rattle.graph_theory.specs.Neighbours.{count, members, is_near, is_neighbour, degree, sequence, fails_at}
use Rattle.graph_theory.specs.Asked.{asked_degree_in, room_in, asked_sequence_in}
use Rattle.graph_theory.specs.Blocks.{in_block, has_near, has_block_in, has_block}
use Rattle.graph_theory.specs.declared.embedding.Maps.{Maps}
use Rattle.graph_theory.specs.declared.embedding.Maps.TheVariants.{Injective, Local, Any}
use Rattle.graph_theory.proofs.FallingLists.{at_least, falling_falls, at_least-falling, at_least-members, place_above, many_above, IsFalling}
use Rattle.graph_theory.proofs.Counts.{count-same, count-less}
use Rattle.graph_theory.proofs.NeighbourCounts.{count_looped, nothing_kept}
use Rattle.log_theory.specs.Lookups.{is_among, are_distinct}
use Rattle.encoding_theory.specs.Pairs.{is_kept, is_match, is_open, is_compatible}
use Rattle.domain_line_theory.specs.Crowds.{IsOneOf, IsCrowded, is_high, high_neighbours, high_count, is_place, is_high_place, high_places, place_count, crowd_block_in, crowd_block, HasAllLower}
use Rattle.domain_line_theory.specs.Laws.{DegreeLaws}

-- ---- members of a test

among_append : (v : ℕ) (xs ys : List ℕ) → is_among v (xs ++ ys) ≡ (is_among v xs || is_among v ys)
among_append v [] ys = refl
among_append v (x ∷ xs) ys = by (x == v) (among_append v xs ys)
  where
    by : (b : Bool) → is_among v (xs ++ ys) ≡ (is_among v xs || is_among v ys) → (b || is_among v (xs ++ ys)) ≡ ((b || is_among v xs) || is_among v ys)
    by true h = refl
    by false h = h

one_listed : (b : Bool) (n v : ℕ) → is_among v (if b then n ∷ [] else []) ≡ (b && (n == v))
one_listed true n v = by (n == v)
  where
    by : (c : Bool) → (c || false) ≡ c
    by true = refl
    by false = refl
one_listed false n v = refl

-- A member is below the bound and passes.
pub member_passes : (f : ℕ → Bool) (n v : ℕ) → is_among v (members f n) ≡ true → (v < n) × (f v ≡ true)
member_passes f zero v among = absurd cc
member_passes f (suc n) v among = by (member_passes f n v) (or_cases (is_among v (members f n)) (is_among v (if f n then n ∷ [] else [])) (sym (among_append v (members f n) (if f n then n ∷ [] else [])) ∙ among))
  where
    by : (is_among v (members f n) ≡ true → (v < n) × (f v ≡ true)) → (is_among v (members f n) ≡ true) ⊎ (is_among v (if f n then n ∷ [] else []) ≡ true) → (v < suc n) × (f v ≡ true)
    by later (inl low) = let h = later low in let l = h.0 in (omega (arith, l), h.1)
    by later (inr last) =
        let both = and_parts (f n) (n == v) (sym (one_listed (f n) n v) ∙ last) in
        let same : n ≡ v = eqb-true n v both.1 in
        (omega (arith, same), ap f (sym same) ∙ both.0)

-- What is below the bound and passes is a member.
pub passing_listed : (f : ℕ → Bool) (n v : ℕ) → v < n → f v ≡ true → is_among v (members f n) ≡ true
passing_listed f zero v v_in is = absurd (omega (arith, v_in))
passing_listed f (suc n) v v_in is = among_append v (members f n) (if f n then n ∷ [] else []) ∙ by (passing_listed f n v) (cases_lt v n)
  where
    or_right : (b c : Bool) → c ≡ true → (b || c) ≡ true
    or_right true c e = refl
    or_right false c e = e

    by : (v < n → f v ≡ true → is_among v (members f n) ≡ true) → (v < n) ⊎ (n ≤ v) → (is_among v (members f n) || is_among v (if f n then n ∷ [] else [])) ≡ true
    by later (inl low) = ap (λ (b : Bool). b || is_among v (if f n then n ∷ [] else [])) (later low is)
    by later (inr past) =
        let same : n ≡ v = omega (arith, v_in, past) in
        or_right (is_among v (members f n)) (is_among v (if f n then n ∷ [] else [])) (one_listed (f n) n v ∙ and_from (f n) (n == v) (ap f same ∙ is) (eq-eqb n v same))

-- No member stands twice, and they are as many as pass.
distinct_more : (xs : List ℕ) (v : ℕ) → are_distinct xs ≡ true → is_among v xs ≡ false → are_distinct (xs ++ v ∷ []) ≡ true
distinct_more [] v distinct other = refl
distinct_more (x ∷ xs) v distinct other = by (is_among x xs) refl (are_distinct xs) refl (x == v) refl (is_among v xs) refl distinct other (distinct_more xs v)
  where
    by : (b : Bool) → is_among x xs ≡ b → (c : Bool) → are_distinct xs ≡ c → (d : Bool) → (x == v) ≡ d → (e : Bool) → is_among v xs ≡ e → (not b && c) ≡ true → (d || e) ≡ false
        → (are_distinct xs ≡ true → is_among v xs ≡ false → are_distinct (xs ++ v ∷ []) ≡ true) → (not (is_among x (xs ++ v ∷ [])) && are_distinct (xs ++ v ∷ [])) ≡ true
    by true i c j d k e l h o later = absurd cc
    by false i false j d k e l h o later = absurd cc
    by false i true j true k e l h o later = absurd cc
    by false i true j false k true l h o later = absurd cc
    by false i true j false k false l h o later =
        let apart : (v == x) ≡ false = ne_eqb v x (λ (same : v ≡ x). let bad : false ≡ true = sym k ∙ eq-eqb x v (sym same) in absurd cc) in
        let none : is_among x (xs ++ v ∷ []) ≡ false = among_append x xs (v ∷ []) ∙ ap (λ (b : Bool). b || ((v == x) || false)) i ∙ ap (λ (b : Bool). b || false) apart in
        and_from (not (is_among x (xs ++ v ∷ []))) (are_distinct (xs ++ v ∷ [])) (ap not none) (later j l)

pub members_distinct : (f : ℕ → Bool) (n : ℕ) → are_distinct (members f n) ≡ true
members_distinct f zero = refl
members_distinct f (suc n) = by (f n) (members_distinct f n)
  where
    append_none : (xs : List ℕ) → xs ++ [] ≡ xs
    append_none [] = refl
    append_none (x ∷ xs) = ap (λ (ys : List ℕ). x ∷ ys) (append_none xs)

    past : (b : Bool) → is_among n (members f n) ≡ b → is_among n (members f n) ≡ false
    past true is = let l = (member_passes f n n is).0 in absurd (omega (arith, l))
    past false is = is

    by : (b : Bool) → are_distinct (members f n) ≡ true → are_distinct (members f n ++ (if b then n ∷ [] else [])) ≡ true
    by true h = distinct_more (members f n) n h (past (is_among n (members f n)) refl)
    by false h = ap are_distinct (append_none (members f n)) ∙ h

length_append : (xs ys : List ℕ) → length (xs ++ ys) ≡ length xs + length ys
length_append [] ys = omega arith
length_append (x ∷ xs) ys = let h = length_append xs ys in omega (arith, h)

pub members_count : (f : ℕ → Bool) (n : ℕ) → length (members f n) ≡ count f n
members_count f zero = refl
members_count f (suc n) = let a = length_append (members f n) (if f n then n ∷ [] else []) in let h = members_count f n in let o = one (f n) in omega (arith, a, h, o)
  where
    one : (b : Bool) → length (if b then n ∷ [] else []) ≡ (if b then 1 else 0)
    one true = refl
    one false = refl

-- ---- counts by degree

sequence_counts : (g : Graph) (a d : ℕ) → at_least d (sequence g a) ≡ high_count g a d
sequence_counts g a d = at_least-falling d (map (degree g) (members (is_neighbour g a) (size g))) ∙ at_least-members d (degree g) (is_neighbour g a) (size g)

sequence_falls : (g : Graph) (a : ℕ) → IsFalling (sequence g a)
sequence_falls g a = falling_falls (map (degree g) (members (is_neighbour g a) (size g)))

and_true : (b : Bool) → (b && true) ≡ b
and_true true = refl
and_true false = refl

-- All neighbours have a degree of 0 or more.
all_high : (g : Graph) (a : ℕ) → high_count g a 0 ≡ degree g a
all_high g a = count-same (is_high g a 0) (is_neighbour g a) (size g) (λ b b_in. ap (λ (x : Bool). is_neighbour g a b && not x) (le-ltb (degree g b) 0 (omega arith)) ∙ and_true (is_neighbour g a b))

-- ---- places by the kind of the maps

-- By injective maps they are the neighbours.
place_injective : (q : Problem) (u w : ℕ) → is_injective q.maps ≡ true → is_place q u w ≡ is_neighbour q.target u w
place_injective q u w is = ap (λ (i : Bool). not (i && (u == w)) && is_some (edge q.target u w)) is

places_injective : (q : Problem) (u d : ℕ) → is_injective q.maps ≡ true → place_count q u d ≡ high_count q.target u d
places_injective q u d is =
    count-same (is_high_place q u d) (is_high q.target u d) (size q.target)
    (λ w _. ap (λ (x : Bool). x && not (nat_lt (degree q.target w) d)) (place_injective q u w is))

-- By others they are the ends of its edges.
places_open : (q : Problem) (u : ℕ) → is_injective q.maps ≡ false → u < size q.target
    → place_count q u 0 ≡ (if is_some (edge q.target u u) then 1 else 0) + degree q.target u
places_open q u is u_in =
    count-same (is_high_place q u 0) (λ w. is_some (edge q.target u w)) (size q.target)
    (λ w _. ap (λ (i : Bool). (not (i && (u == w)) && is_some (edge q.target u w)) && not (nat_lt (degree q.target w) 0)) is
    ∙ ap (λ (x : Bool). is_some (edge q.target u w) && not x) (le-ltb (degree q.target w) 0 (omega arith)) ∙ and_true (is_some (edge q.target u w)))
    ∙ count_looped q.target u u_in

place_room : (k : Maps) (q : Problem) (u : ℕ) → q.maps ≡ k → u < size q.target → place_count q u 0 ≡ room_in k q.target u
place_room Injective q u is u_in = places_injective q u 0 (ap is_injective is) ∙ all_high q.target u
place_room Local q u is u_in = places_open q u (ap is_injective is) u_in
place_room Any q u is u_in = places_open q u (ap is_injective is) u_in

-- As many neighbours as need room have a degree of 0 or more.
asked_high : (k : Maps) (g : Graph) (p : ℕ) → asked_degree_in k g p ≤ high_count g p 0
asked_high Injective g p = let a = all_high g p in omega (arith, a)
asked_high Local g p = let a = all_high g p in omega (arith, a)
asked_high Any g p = omega arith

more_here : (xs ys : List ℕ) (i : ℕ) → IsFalling xs → IsFalling ys → fails_at xs ys i ≡ true → at_least (slice_index xs i) ys < at_least (slice_index xs i) xs
more_here xs ys i x_falls y_falls fails = by (nat_lt i (length xs)) refl fails (cases_lt (at_least (slice_index xs i) ys) (i + 1))
  where
    by : (b : Bool) → nat_lt i (length xs) ≡ b → (b && not (nat_lt i (length ys) && not (nat_lt (slice_index ys i) (slice_index xs i)))) ≡ true
        → (at_least (slice_index xs i) ys < i + 1) ⊎ (i + 1 ≤ at_least (slice_index xs i) ys) → at_least (slice_index xs i) ys < at_least (slice_index xs i) xs
    by false is h place = absurd cc
    by true is h (inl few) =
        let i_in : i < length xs = ltb-true i (length xs) is in
        let many = many_above (slice_index xs i) i xs x_falls i_in (omega arith) in
        omega (arith, few, many)
    by true is h (inr enough) =
        let there = place_above (slice_index xs i) i ys y_falls enough in
        let inside : nat_lt i (length ys) ≡ true = lt-ltb i (length ys) there.0 in
        let kept : nat_lt (slice_index ys i) (slice_index xs i) ≡ false = le-ltb (slice_index ys i) (slice_index xs i) there.1 in
        let bad : not (true && not false) ≡ true = ap (λ (b : Bool). not (b && not false)) (sym inside) ∙ ap (λ (b : Bool). not (nat_lt i (length ys) && not b)) (sym kept) ∙ h in
        absurd cc

-- ---- crowds

kept_stands : (e f : Option ℕ) → is_kept e f ≡ true → is_some e ≡ true → is_some f ≡ true
kept_stands None f h is = absurd cc
kept_stands (Some l) None h is = absurd cc
kept_stands (Some l) (Some k) h is = refl

match_stands : (b : Bool) (e f : Option ℕ) → is_match b e f ≡ true → is_some e ≡ true → is_some f ≡ true
match_stands false e f h is = kept_stands e f h is
match_stands true e f h is = kept_stands e f (and_parts (is_kept e f) (is_kept f e) h).0 is

-- A neighbour goes to a place.
pub place_compatible : (q : Problem) (p u r w : ℕ) → is_neighbour q.pattern p r ≡ true → is_compatible q p u r w ≡ true → is_place q u w ≡ true
place_compatible q p u r w near compatible =
    let s = and_parts (not (p == r)) (is_some (edge q.pattern p r)) near in
    let c = and_parts (is_open q u w) (is_match q.induced (edge q.pattern p r) (edge q.target u w) && is_match q.induced (edge q.pattern r p) (edge q.target w u)) compatible in
    let m = and_parts (is_match q.induced (edge q.pattern p r) (edge q.target u w)) (is_match q.induced (edge q.pattern r p) (edge q.target w u)) c.1 in
    and_from (is_open q u w) (is_some (edge q.target u w)) c.0 (match_stands q.induced (edge q.pattern p r) (edge q.target u w) m.0 s.1)

-- A neighbour is near.
near_of : (g : Graph) (a b : ℕ) → is_neighbour g a b ≡ true → is_near g a b ≡ true
near_of g a b h =
    let s = and_parts (not (a == b)) (is_some (edge g a b)) h in
    and_from (not (a == b)) (is_some (edge g a b) || is_some (edge g b a)) s.0 (ap (λ (x : Bool). x || is_some (edge g b a)) s.1)

-- The neighbours of p are in the block that they are counted in.
members_of : (k : Maps) (q : Problem) (p r : ℕ) → is_neighbour q.pattern p r ≡ true → in_block q (crowd_block_in k p) r ≡ true
members_of Injective q p r near = refl
members_of Local q p r near = near_of q.pattern p r near
members_of Any q p r near = refl

pub crowded : (q : Problem) (p u d : ℕ) (refused : List (ℕ × ℕ)) → place_count q u d < high_count q.pattern p d → HasAllLower q p u d refused
    → IsCrowded q (crowd_block q p) p u (high_neighbours q.pattern p d) (high_places q u d) refused
crowded q p u d refused fewer lower = record {
  distinct = members_distinct (is_high q.pattern p d) (size q.pattern);
  members = λ r among.
      members_of q.maps q p r
      (and_parts (is_neighbour q.pattern p r) (not (nat_lt (degree q.pattern r) d)) (member_passes (is_high q.pattern p d) (size q.pattern) r among).1).0;
  vertices_in = λ r among. (member_passes (is_high q.pattern p d) (size q.pattern) r among).0;
  covered = λ r w among w_in compatible.
      let m = member_passes (is_high q.pattern p d) (size q.pattern) r among in
      let near = place_compatible q p u r w (and_parts (is_neighbour q.pattern p r) (not (nat_lt (degree q.pattern r) d)) m.1).0 compatible in
      by r w w_in m near (cases_lt (degree q.target w) d);
  fewer =
      let a = members_count (is_high q.pattern p d) (size q.pattern) in
      let b = members_count (is_high_place q u d) (size q.target) in
      omega (arith, a, b, fewer);
}
  where
    by : (r w : ℕ) → w < size q.target → (r < size q.pattern) × (is_high q.pattern p d r ≡ true) → is_place q u w ≡ true → (degree q.target w < d) ⊎ (d ≤ degree q.target w)
        → (is_among w (high_places q u d) ≡ true) ⊎ IsOneOf r w refused
    by r w w_in m near (inl low) = inr (lower r w m.0 m.1 w_in near low)
    by r w w_in m near (inr high) =
        inl (passing_listed (is_high_place q u d) (size q.target) w w_in (and_from (is_place q u w) (not (nat_lt (degree q.target w) d)) near (ap not (le-ltb (degree q.target w) d high))))

-- Where more of them than one are counted there is the block.
has_two : (g : Graph) (p d : ℕ) → p < size g → 1 < high_count g p d → has_near g p ≡ true
has_two g p d p_in two =
    let more = count-less (is_high g p d) (is_near g p) (size g)
    (λ v _ h. near_of g p v (and_parts (is_neighbour g p v) (not (nat_lt (degree g v) d)) h).0) in
    and_from (nat_lt p (size g)) (nat_lt 1 (count (is_near g p) (size g))) (lt-ltb p (size g) p_in) (lt-ltb 1 (count (is_near g p) (size g)) (omega (arith, more, two)))

block_there : (k : Maps) (g : Graph) (p d : ℕ) → p < size g → 0 < asked_degree_in k g p → 1 < high_count g p d → has_block_in k g (crowd_block_in k p) ≡ true
block_there Injective g p d p_in asked two = refl
block_there Local g p d p_in asked two = has_two g p d p_in two
block_there Any g p d p_in asked two = absurd (omega (arith, asked))

-- ---- sequences

none_fails : (ts : List ℕ) (i : ℕ) → fails_at [] ts i ≡ true → ⊥
none_fails ts i h = let kept = nothing_kept ts i in let bad : true ≡ false = sym h ∙ kept in cc

sequence_fails : (k : Maps) (q : Problem) (p u i : ℕ) → q.maps ≡ k → fails_at (asked_sequence_in k q.pattern p) (sequence q.target u) i ≡ true
    → place_count q u (slice_index (asked_sequence_in k q.pattern p) i) < high_count q.pattern p (slice_index (asked_sequence_in k q.pattern p) i)
sequence_fails Injective q p u i is fails =
    let a = sequence_counts q.target u (slice_index (sequence q.pattern p) i) in
    let b = sequence_counts q.pattern p (slice_index (sequence q.pattern p) i) in
    let c = places_injective q u (slice_index (sequence q.pattern p) i) (ap is_injective is) in
    let h = more_here (sequence q.pattern p) (sequence q.target u) i (sequence_falls q.pattern p) (sequence_falls q.target u) fails in
    omega (arith, a, b, c, h)
sequence_fails Local q p u i is fails = absurd (none_fails (sequence q.target u) i fails)
sequence_fails Any q p u i is fails = absurd (none_fails (sequence q.target u) i fails)

pub degree_laws : (q : Problem) → DegreeLaws q
degree_laws q = record {
  degrees = λ p u u_in less. let a = place_room q.maps q u refl u_in in let b = asked_high q.maps q.pattern p in omega (arith, a, b, less);
  sequences = λ p u i fails. sequence_fails q.maps q p u i refl fails;
  crowd = crowded q;
  block = λ p u d p_in asked some fewer. block_there q.maps q.pattern p d p_in asked (omega (arith, some, fewer));
  none_lower = λ p u r w r_in high w_in near less. absurd (omega (arith, less));
}
