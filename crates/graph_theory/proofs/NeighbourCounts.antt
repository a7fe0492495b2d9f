-- An embedding whose images are all apart sends the neighbours of a vertex to neighbours of its image, one to one; so the counts of
-- neighbours never fall. One whose images are apart around each vertex sends them to the ends of its image's edges.

use Rattle.std.proofs.Common.{◌≡◌, ℕ, ◌+◌, ◌<◌, ◌≤◌, ◌==◌, nat_lt, Bool, true, false, ◌&&◌, ◌||◌, not, if◌then◌else◌, List, [], map, Option, Some, None, is_some, slice_index, refl, sym, ap, ◌∙◌, subst, zero-add, arith}
use Rattle.std.proofs.lemmas.Grind.{common_steps}
use Rattle.graph_theory.specs.Graph.{Graph, size, edge}
use Rattle.graph_theory.specs.Embedding.{Problem, near_both, differ_in, Embeds, Matches, KeepsEdge}
use Rattle.graph_theory.specs.Neighbours.{count, members, is_near, is_neighbour, degree, common, sequence, IsKeptBy}
use Rattle.graph_theory.specs.Asked.{asked_degree_in, room_in, asked_sequence_in, asked_shared_in}
use Rattle.graph_theory.specs.NeighbourLaws.{DegreeIsKept, SequenceIsKept, SharedAreKept, SharedIsSymmetric, AskedIsSymmetric, NeighbourLaws}
use Rattle.graph_theory.specs.declared.embedding.Maps.{Maps}
use Rattle.graph_theory.specs.declared.embedding.Maps.TheVariants.{Injective, Local, Any}
use Rattle.graph_theory.proofs.FallingLists.{IsFalling, at_least, at_least-falling, at_least-members, falling_falls, kept_by_counts}
use Rattle.graph_theory.proofs.Counts.{without, count-same, count-without, count_some, count-injects}

-- the parts of a test that holds
pub both_first : (a b : Bool) → (a && b) ≡ true → a ≡ true
both_first true b h = refl
both_first false b h = cc

pub both_second : (a b : Bool) → (a && b) ≡ true → b ≡ true
both_second true b h = h
both_second false b h = cc

pub both : (a b : Bool) → a ≡ true → b ≡ true → (a && b) ≡ true
both true true x y = refl
both true false x y = cc
both false b x y = cc

-- an edge that is kept stands
kept_stands : (e f : Option ℕ) → KeepsEdge e f → is_some e ≡ true → is_some f ≡ true
kept_stands None f k h = cc
kept_stands (Some l) f k h = rw k refl

matched_stands : (induced : Bool) (e f : Option ℕ) → Matches induced e f → is_some e ≡ true → is_some f ≡ true
matched_stands false e f k h = kept_stands e f k h
matched_stands true e f k h = kept_stands e f k.0 h

-- two numbers that the test tells apart, and back
apart_of : (a b : ℕ) → not (a == b) ≡ true → a ≡ b → ⊥
apart_of a b h e = absurd (by_test (a == b) (grind (arith, common_steps)) h)
  where
    by_test : (t : Bool) → t ≡ true → not t ≡ true → ⊥
    by_test true x y = cc
    by_test false x y = cc

told_apart : (a b : ℕ) → (a ≡ b → ⊥) → not (a == b) ≡ true
told_apart a b other = by_test (a == b) refl
  where
    by_test : (t : Bool) → (a == b) ≡ t → not (a == b) ≡ true
    by_test true is = absurd (other (grind (arith, common_steps)))
    by_test false is = rw is refl

-- all images are apart
abbrev AllApart : Problem → List ℕ → Type 0
AllApart q m = (p r : ℕ) → p < size q.pattern → r < size q.pattern → slice_index m p ≡ slice_index m r → p ≡ r

-- as those of an injective map are
all_apart : (q : Problem) (m : List ℕ) → q.maps ≡ Injective → Embeds q m → AllApart q m
all_apart q m is e p r p_in r_in same = e.distinct p r p_in r_in (ap (λ (k : Maps). differ_in k q.pattern p r) is) same

-- the image of a neighbour is a neighbour of the image
neighbour_kept : (q : Problem) (m : List ℕ) (p c : ℕ) → Embeds q m → AllApart q m → p < size q.pattern → c < size q.pattern
    → is_neighbour q.pattern p c ≡ true → is_neighbour q.target (slice_index m p) (slice_index m c) ≡ true
neighbour_kept q m p c e apart p_in c_in h =
    let other = apart_of p c (both_first _ _ h) in
    both _ _ (told_apart (slice_index m p) (slice_index m c) (λ same. other (apart p c p_in c_in same)))
    (matched_stands q.induced _ _ (e.edges p c p_in c_in) (both_second _ _ h))

degree_of_apart : (q : Problem) (m : List ℕ) (p : ℕ) → Embeds q m → AllApart q m → p < size q.pattern
    → degree q.pattern p ≤ degree q.target (slice_index m p)
degree_of_apart q m p e apart p_in =
    count-injects (is_neighbour q.pattern p) (is_neighbour q.target (slice_index m p)) (slice_index m) (size q.pattern) (size q.target)
    (λ c c_in h. (e.values c c_in, neighbour_kept q m p c e apart p_in c_in h))
    (λ c d c_in d_in _ _ same. apart c d c_in d_in same)

shared_of_apart : (q : Problem) (m : List ℕ) (p r : ℕ) → Embeds q m → AllApart q m → p < size q.pattern → r < size q.pattern
    → common q.pattern p r ≤ common q.target (slice_index m p) (slice_index m r)
shared_of_apart q m p r e apart p_in r_in =
    count-injects (λ c. is_neighbour q.pattern p c && is_neighbour q.pattern r c)
    (λ u. is_neighbour q.target (slice_index m p) u && is_neighbour q.target (slice_index m r) u) (slice_index m) (size q.pattern) (size q.target)
    (λ c c_in h. (
      e.values c c_in,
      both _ _ (neighbour_kept q m p c e apart p_in c_in (both_first _ _ h)) (neighbour_kept q m r c e apart r_in c_in (both_second _ _ h)),
    ))
    (λ c d c_in d_in _ _ same. apart c d c_in d_in same)

pub swapped : (a b : Bool) → (a && b) ≡ (b && a)
swapped true true = refl
swapped true false = refl
swapped false true = refl
swapped false false = refl

pub shared_is_symmetric : SharedIsSymmetric
shared_is_symmetric g a b =
    count-same (λ c. is_neighbour g a c && is_neighbour g b c) (λ c. is_neighbour g b c && is_neighbour g a c) (size g)
    (λ c _. swapped (is_neighbour g a c) (is_neighbour g b c))

-- neighbours of a degree from d on are sent to such neighbours
from_degree_kept : (q : Problem) (m : List ℕ) (p d : ℕ) → Embeds q m → AllApart q m → p < size q.pattern
    → count (λ c. is_neighbour q.pattern p c && not (nat_lt (degree q.pattern c) d)) (size q.pattern)
    ≤ count (λ u. is_neighbour q.target (slice_index m p) u && not (nat_lt (degree q.target u) d)) (size q.target)
from_degree_kept q m p d e apart p_in =
    count-injects (λ c. is_neighbour q.pattern p c && not (nat_lt (degree q.pattern c) d))
    (λ u. is_neighbour q.target (slice_index m p) u && not (nat_lt (degree q.target u) d)) (slice_index m) (size q.pattern) (size q.target)
    (λ c c_in h. (
      e.values c c_in,
      both _ _ (neighbour_kept q m p c e apart p_in c_in (both_first _ _ h)) (not_less d _ _ (degree_of_apart q m c e apart c_in) (both_second _ _ h)),
    ))
    (λ c v c_in v_in _ _ same. apart c v c_in v_in same)
  where
    not_less : (k x y : ℕ) → x ≤ y → not (nat_lt x k) ≡ true → not (nat_lt y k) ≡ true
    not_less k x y le h = grind (arith, common_steps)

-- the sequence counts them
at_least-sequence : (g : Graph) (a d : ℕ) → at_least d (sequence g a) ≡ count (λ c. is_neighbour g a c && not (nat_lt (degree g c) d)) (size g)
at_least-sequence g a d =
    at_least-falling d (map (degree g) (members (is_neighbour g a) (size g))) ∙ at_least-members d (degree g) (is_neighbour g a) (size g)

sequence_falls : (g : Graph) (a : ℕ) → IsFalling (sequence g a)
sequence_falls g a = falling_falls (map (degree g) (members (is_neighbour g a) (size g)))

sequence_of_apart : (q : Problem) (m : List ℕ) (p : ℕ) → Embeds q m → AllApart q m → p < size q.pattern
    → IsKeptBy (sequence q.pattern p) (sequence q.target (slice_index m p))
sequence_of_apart q m p e apart p_in =
    kept_by_counts (sequence q.pattern p) (sequence q.target (slice_index m p)) (sequence_falls q.pattern p) (sequence_falls q.target (slice_index m p))
    (λ d. subst (λ (n : ℕ). n ≤ at_least d (sequence q.target (slice_index m p))) (sym (at_least-sequence q.pattern p d))
    (subst (λ (n : ℕ). count (λ c. is_neighbour q.pattern p c && not (nat_lt (degree q.pattern c) d)) (size q.pattern) ≤ n)
    (sym (at_least-sequence q.target (slice_index m p) d)) (from_degree_kept q m p d e apart p_in)))

-- ---- images that are apart around each vertex

-- the ends of a vertex's edges are its neighbours, and itself where it has a loop
pub count_looped : (g : Graph) (t : ℕ) → t < size g
    → count (λ u. is_some (edge g t u)) (size g) ≡ (if is_some (edge g t t) then 1 else 0) + degree g t
count_looped g t t_in = by_loop (is_some (edge g t t)) refl
  where
    turned_round : (a : Bool) (u : ℕ) → (a && not (u == t)) ≡ (not (t == u) && a)
    turned_round true u = grind (arith, common_steps)
    turned_round false u = grind (arith, common_steps)

    beside : (u : ℕ) → is_some (edge g t t) ≡ false → is_some (edge g t u) ≡ is_neighbour g t u
    beside u none = by_place (t == u) refl
      where
        by_place : (b : Bool) → (t == u) ≡ b → is_some (edge g t u) ≡ (not b && is_some (edge g t u))
        by_place true is =
            let e : t ≡ u = grind (arith, common_steps) in
            subst (λ (v : ℕ). is_some (edge g t v) ≡ false) e none
        by_place false is = refl

    by_loop : (b : Bool) → is_some (edge g t t) ≡ b → count (λ u. is_some (edge g t u)) (size g) ≡ (if b then 1 else 0) + degree g t
    by_loop true is =
        count-without (λ u. is_some (edge g t u)) t (size g) t_in is
        ∙ ap (λ (n : ℕ). 1 + n) (count-same (without (λ u. is_some (edge g t u)) t) (is_neighbour g t) (size g) (λ u _. turned_round (is_some (edge g t u)) u))
    by_loop false is =
        count-same (λ u. is_some (edge g t u)) (is_neighbour g t) (size g) (λ u _. beside u is) ∙ sym (zero-add (degree g t))

-- a neighbour is near
near_of : (a b c : Bool) → (a && b) ≡ true → (a && (b || c)) ≡ true
near_of true true c h = refl
near_of true false c h = cc
near_of false b c h = cc

-- two neighbours of a vertex have two images
neighbours_apart : (q : Problem) (m : List ℕ) (p c d : ℕ) → q.maps ≡ Local → Embeds q m → p < size q.pattern → c < size q.pattern → d < size q.pattern
    → is_neighbour q.pattern p c ≡ true → is_neighbour q.pattern p d ≡ true → slice_index m c ≡ slice_index m d → c ≡ d
neighbours_apart q m p c d is e p_in c_in d_in first second same =
    let two : near_both q.pattern c d p ≡ true =
    both (is_near q.pattern p c) (is_near q.pattern p d)
    (near_of (not (p == c)) (is_some (edge q.pattern p c)) (is_some (edge q.pattern c p)) first)
    (near_of (not (p == d)) (is_some (edge q.pattern p d)) (is_some (edge q.pattern d p)) second) in
    e.distinct c d c_in d_in (subst (λ (k : Maps). differ_in k q.pattern c d ≡ true) (sym is) (count_some (near_both q.pattern c d) p (size q.pattern) p_in two)) same

degree_of_local : (q : Problem) (m : List ℕ) (p : ℕ) → q.maps ≡ Local → Embeds q m → p < size q.pattern
    → degree q.pattern p ≤ room_in Local q.target (slice_index m p)
degree_of_local q m p is e p_in =
    subst (λ (n : ℕ). degree q.pattern p ≤ n) (count_looped q.target (slice_index m p) (e.values p p_in))
    (count-injects (is_neighbour q.pattern p) (λ u. is_some (edge q.target (slice_index m p) u)) (slice_index m) (size q.pattern) (size q.target)
    (λ c c_in h. (e.values c c_in, matched_stands q.induced _ _ (e.edges p c p_in c_in) (both_second _ _ h)))
    (λ c d c_in d_in first second same. neighbours_apart q m p c d is e p_in c_in d_in first second same))

-- ---- by the kind of the maps

degree_by_maps : (k : Maps) (q : Problem) (m : List ℕ) (p : ℕ) → q.maps ≡ k → Embeds q m → p < size q.pattern
    → asked_degree_in k q.pattern p ≤ room_in k q.target (slice_index m p)
degree_by_maps Injective q m p is e p_in = degree_of_apart q m p e (all_apart q m is e) p_in
degree_by_maps Local q m p is e p_in = degree_of_local q m p is e p_in
degree_by_maps Any q m p is e p_in = omega arith

pub degree_is_kept : DegreeIsKept
degree_is_kept q m p e p_in = degree_by_maps q.maps q m p refl e p_in

-- an empty sequence is kept by any
pub nothing_kept : (ts : List ℕ) → IsKeptBy [] ts
nothing_kept ts i = grind (arith, common_steps)

sequence_by_maps : (k : Maps) (q : Problem) (m : List ℕ) (p : ℕ) → q.maps ≡ k → Embeds q m → p < size q.pattern
    → IsKeptBy (asked_sequence_in k q.pattern p) (sequence q.target (slice_index m p))
sequence_by_maps Injective q m p is e p_in = sequence_of_apart q m p e (all_apart q m is e) p_in
sequence_by_maps Local q m p is e p_in = nothing_kept (sequence q.target (slice_index m p))
sequence_by_maps Any q m p is e p_in = nothing_kept (sequence q.target (slice_index m p))

pub sequence_is_kept : SequenceIsKept
sequence_is_kept q m p e p_in = sequence_by_maps q.maps q m p refl e p_in

shared_by_maps : (k : Maps) (q : Problem) (m : List ℕ) (p r : ℕ) → q.maps ≡ k → Embeds q m → p < size q.pattern → r < size q.pattern
    → asked_shared_in k q.pattern p r ≤ common q.target (slice_index m p) (slice_index m r)
shared_by_maps Injective q m p r is e p_in r_in = shared_of_apart q m p r e (all_apart q m is e) p_in r_in
shared_by_maps Local q m p r is e p_in r_in = omega arith
shared_by_maps Any q m p r is e p_in r_in = omega arith

pub shared_are_kept : SharedAreKept
shared_are_kept q m p r e p_in r_in = shared_by_maps q.maps q m p r refl e p_in r_in

asked_symmetric_by : (k : Maps) (g : Graph) (p r : ℕ) → asked_shared_in k g p r ≡ asked_shared_in k g r p
asked_symmetric_by Injective g p r = shared_is_symmetric g p r
asked_symmetric_by Local g p r = refl
asked_symmetric_by Any g p r = refl

pub asked_is_symmetric : AskedIsSymmetric
asked_is_symmetric q p r = asked_symmetric_by q.maps q.pattern p r

pub neighbour_laws_hold : NeighbourLaws
neighbour_laws_hold = record {
  degrees = degree_is_kept;
  sequences = sequence_is_kept;
  shared = shared_are_kept;
  symmetric = shared_is_symmetric;
  asked_symmetric = asked_is_symmetric;
}
