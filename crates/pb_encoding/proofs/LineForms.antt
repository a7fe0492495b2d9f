-- Which form stands at a place: the place's group, and the pair by its number.

use Rattle.std.proofs.Common.{◌≡◌, ℕ, zero, suc, ◌+◌, ◌*◌, ◌/◌, ◌%◌, ◌<◌, Bool, true, List, length, get_or, slice_get, Some, None, refl, sym, subst, ap, ◌∙◌, arith}
use Rattle.std.proofs.Math.Nat.{div-add-mod}
use Rattle.std.proofs.lemmas.Nat.{div-add-mod'}
use Rattle.std.proofs.lemmas.Option.{slice_get-get_or}
use Rattle.graph_theory.specs.Graph.{size}
use Rattle.graph_theory.specs.Embedding.{Problem, is_local}
use Rattle.graph_theory.specs.Blocks.{has_near, has_block_in, has_block}
use Rattle.graph_theory.specs.declared.embedding.Maps.{Maps}
use Rattle.graph_theory.specs.declared.embedding.Maps.TheVariants.{Injective, Local, Any}
use Rattle.graph_rows.specs.Orders.{IsOrder}
use Rattle.graph_theory.specs.Neighbours.{count, members}
use Rattle.encoding_theory.specs.Pairs.{is_edge_pair, is_non_edge_pair}
use Rattle.encoding_theory.specs.Encoding.{at_least, at_most, at_most_in, is_refused, refusal, pair_form, less_from, less_to, encoding}
use Rattle.encoding_theory.specs.Places.{at_least_place, at_most_place, at_most_place_in, refused_start, refused_place, edge_start, edge_place, non_edge_start, non_edge_place, less_start, less_from_place, less_to_place}
use Rattle.encoding_theory.proofs.Indicators.{in_rows}
use Rattle.encoding_theory.proofs.PlaceProofs.{place_laws}
use Rattle.pb_encoding.specs.Numbers.{by_number, refused_numbers, edge_numbers, non_edge_numbers, centres_in, centres, block_count_in, block_count}
use Rattle.pb_encoding.specs.Lines.{PairIsIn}
use Rattle.pb_encoding.proofs.Members.{members_get}
use Rattle.pb_encoding.proofs.Counts.{counted_places, less_places, inside_of}

-- ---- groups 1 and 2

pub even_line : (q : Problem) (place : ℕ) → place < 2 * size q.pattern → place % 2 ≡ 0 → slice_get (encoding q) place ≡ Some (at_least q (place / 2))
even_line q place inside even =
    let e : 2 * (place / 2) + place % 2 ≡ place = div-add-mod place 2 in
    let c : at_least_place q (place / 2) ≡ 2 * (place / 2) = (counted_places q).at_least (place / 2) in
    let same : place ≡ at_least_place q (place / 2) = omega arith in
    ap (slice_get (encoding q)) same ∙ (place_laws q).at_least (place / 2) (omega arith)

pub odd_line : (q : Problem) (place : ℕ) → place < 2 * size q.pattern → (place % 2 ≡ 0 → ⊥) → slice_get (encoding q) place ≡ Some (at_most q (place / 2))
odd_line q place inside odd =
    let e : 2 * (place / 2) + place % 2 ≡ place = div-add-mod place 2 in
    let c : at_least_place q (place / 2) ≡ 2 * (place / 2) = (counted_places q).at_least (place / 2) in
    let low : place % 2 < 2 = omega arith in
    let one : place % 2 ≡ 1 = odd_is_one (place % 2) low odd in
    let same : place ≡ at_most_place q (place / 2) = omega arith in
    ap (slice_get (encoding q)) same ∙ (place_laws q).at_most (place / 2) (omega arith)
  where
    odd_is_one : (n : ℕ) → n < 2 → (n ≡ 0 → ⊥) → n ≡ 1
    odd_is_one zero low odd = absurd (odd refl)
    odd_is_one (suc n) low odd = omega arith

-- by injective maps
pub target_form : (q : Problem) (t : ℕ) → Injective ≡ q.maps → t < size q.target → slice_get (encoding q) (2 * size q.pattern + t) ≡ Some (at_most_in q None t)
target_form q t is t_in =
    let there : has_block q None ≡ true = ap (λ (k : Maps). has_block_in k q.pattern None) (sym is) in
    let c = (counted_places q).at_most_in None t in
    let same : 2 * size q.pattern + t ≡ at_most_place_in q None t = omega (arith, c) in
    ap (slice_get (encoding q)) same ∙ (place_laws q).at_most_in None t there t_in

-- How far the places of blocks go, by the kind of the maps.
pub whole_inside : (q : Problem) (place : ℕ) → Injective ≡ q.maps → place < block_count q * size q.target → place < size q.target
whole_inside q place is low =
    let l : place < 1 * size q.target = subst (λ (k : Maps). place < block_count_in k (length (centres q)) * size q.target) (sym is) low in
    omega (arith, l)

pub local_inside : (q : Problem) (place : ℕ) (ns : List ℕ) → Local ≡ q.maps → ns ≡ centres q → place < block_count q * size q.target → place < length ns * size q.target
local_inside q place ns is listed low =
    subst (λ (xs : List ℕ). place < length xs * size q.target) (sym listed)
    (subst (λ (k : Maps). place < block_count_in k (length (centres q)) * size q.target) (sym is) low)

pub none_inside : (q : Problem) (place : ℕ) → Any ≡ q.maps → place < block_count q * size q.target → ⊥
none_inside q place is low =
    let l : place < 0 * size q.target = subst (λ (k : Maps). place < block_count_in k (length (centres q)) * size q.target) (sym is) low in
    omega (arith, l)

-- What the k-th centre says: a vertex with a block around it, and as many before it.
pub record CentreAt (q : Problem) (k c : ℕ) : Type 0 where
  pub below : c < size q.pattern
  pub there : has_block q (Some c) ≡ true
  pub place : k ≡ count (has_near q.pattern) c

centre_in : (k : Maps) (q : Problem) (i : ℕ) → q.maps ≡ k → is_local k ≡ true → i < length (centres_in k q.pattern) → CentreAt q i (get_or (centres_in k q.pattern) i 0)
centre_in Injective q i is local low = absurd cc
centre_in Any q i is local low = absurd cc
centre_in Local q i is local low =
    let s = members_get (has_near q.pattern) (size q.pattern) i (get_or (members (has_near q.pattern) (size q.pattern)) i 0)
    (slice_get-get_or (members (has_near q.pattern) (size q.pattern)) i 0 low) in
    record {
      below = s.below;
      there = subst (λ (k : Maps). has_block_in k q.pattern (Some (get_or (members (has_near q.pattern) (size q.pattern)) i 0)) ≡ true) (sym is) s.passes;
      place = s.place;
    }

pub centre_at : (q : Problem) (ns : List ℕ) (i : ℕ) → is_local q.maps ≡ true → ns ≡ centres q → i < length ns → CentreAt q i (get_or ns i 0)
centre_at q ns i local is low =
    subst (λ (xs : List ℕ). CentreAt q i (get_or xs i 0)) (sym is) (centre_in q.maps q i refl local (subst (λ (xs : List ℕ). i < length xs) is low))

-- by local ones
pub near_form : (q : Problem) (place c : ℕ) → place % size q.target < size q.target → CentreAt q (place / size q.target) c
    → slice_get (encoding q) (2 * size q.pattern + place) ≡ Some (at_most_in q (Some c) (place % size q.target))
near_form q place c low at =
    let e = (counted_places q).at_most_in (Some c) (place % size q.target) in
    let b = (counted_places q).block c in
    let whole : place / size q.target * size q.target + place % size q.target ≡ place = div-add-mod' place (size q.target) in
    let same : count (has_near q.pattern) c * size q.target ≡ place / size q.target * size q.target = ap (λ (n : ℕ). n * size q.target) (sym at.place) in
    let here : 2 * size q.pattern + place ≡ at_most_place_in q (Some c) (place % size q.target) = omega (arith, e, b, whole, same) in
    ap (slice_get (encoding q)) here ∙ (place_laws q).at_most_in (Some c) (place % size q.target) at.there low

pub rows_in : (n w place : ℕ) → place < n * w → (place / w < n) × (place % w < w)
rows_in n w place low = in_rows n w place low

-- ---- group 3

-- What the k-th number says: a refused pair, in range, with its form.
pub record RefusedAt (q : Problem) (k number : ℕ) : Type 0 where
  pub row : number / size q.target < size q.pattern
  pub column : number % size q.target < size q.target
  pub form : slice_get (encoding q) (refused_start q + k) ≡ Some (refusal q (number / size q.target) (number % size q.target))

pub refused_form : (q : Problem) (numbers : List ℕ) (k : ℕ) → numbers ≡ refused_numbers q → k < length numbers → RefusedAt q k (get_or numbers k 0)
refused_form q numbers k is inside = subst (λ (ns : List ℕ). RefusedAt q k (get_or ns k 0)) (sym is) at
  where
    number : ℕ
    number = get_or (refused_numbers q) k 0

    at : RefusedAt q k number
    at =
        let inside_there : k < length (refused_numbers q) = subst (λ (ns : List ℕ). k < length ns) is inside in
        let s = members_get (by_number (is_refused q) (size q.target)) (size q.pattern * size q.target) k number (slice_get-get_or (refused_numbers q) k 0 inside_there) in
        let r = in_rows (size q.pattern) (size q.target) number s.below in
        let c = (counted_places q).refused (number / size q.target) (number % size q.target) r.1 in
        let whole : number / size q.target * size q.target + number % size q.target ≡ number = div-add-mod' number (size q.target) in
        let here : k ≡ count (by_number (is_refused q) (size q.target)) (number / size q.target * size q.target + number % size q.target) =
        s.place ∙ sym (ap (count (by_number (is_refused q) (size q.target))) whole) in
        let same : refused_start q + k ≡ refused_place q (number / size q.target) (number % size q.target) = omega arith in
        record {
          row = r.0;
          column = r.1;
          form = ap (slice_get (encoding q)) same ∙ (place_laws q).refused (number / size q.target) (number % size q.target) r.0 r.1 s.passes;
        }

-- ---- groups 4 and 5

-- What a place in a group of pairs says: a pair that passes, in range, a target vertex, and as many before it.
pub record PairAt (test : ℕ → ℕ → Bool) (q : Problem) (place number : ℕ) : Type 0 where
  pub row : number / size q.pattern < size q.pattern
  pub column : number % size q.pattern < size q.pattern
  pub target : place % size q.target < size q.target
  pub passes : test (number / size q.pattern) (number % size q.pattern) ≡ true
  pub counted : count (by_number test (size q.pattern)) (number / size q.pattern * size q.pattern + number % size q.pattern) * size q.target + place % size q.target ≡ place

pair_at_place : (test : ℕ → ℕ → Bool) (q : Problem) (numbers : List ℕ) (place : ℕ)
    → numbers ≡ members (by_number test (size q.pattern)) (size q.pattern * size q.pattern) → place < length numbers * size q.target
    → PairAt test q place (get_or numbers (place / size q.target) 0)
pair_at_place test q numbers place is inside =
    let r = in_rows (length numbers) (size q.target) place inside in
    subst (λ (ns : List ℕ). PairAt test q place (get_or ns (place / size q.target) 0)) (sym is) (at r.1 (subst (λ (ns : List ℕ). place / size q.target < length ns) is r.0))
  where
    all : List ℕ
    all = members (by_number test (size q.pattern)) (size q.pattern * size q.pattern)

    number : ℕ
    number = get_or (members (by_number test (size q.pattern)) (size q.pattern * size q.pattern)) (place / size q.target) 0

    at : place % size q.target < size q.target → place / size q.target < length (members (by_number test (size q.pattern)) (size q.pattern * size q.pattern)) → PairAt test q place number
    at low there =
        let s = members_get (by_number test (size q.pattern)) (size q.pattern * size q.pattern) (place / size q.target) number
        (slice_get-get_or (members (by_number test (size q.pattern)) (size q.pattern * size q.pattern)) (place / size q.target) 0 there) in
        let r = in_rows (size q.pattern) (size q.pattern) number s.below in
        let whole : number / size q.pattern * size q.pattern + number % size q.pattern ≡ number = div-add-mod' number (size q.pattern) in
        let here : count (by_number test (size q.pattern)) (number / size q.pattern * size q.pattern + number % size q.pattern) ≡ place / size q.target =
        ap (count (by_number test (size q.pattern))) whole ∙ sym s.place in
        record {
          row = r.0;
          column = r.1;
          target = low;
          passes = s.passes;
          counted = ap (λ (n : ℕ). n * size q.target + place % size q.target) here ∙ div-add-mod' place (size q.target);
        }

pub edge_pair_at : (q : Problem) (numbers : List ℕ) (place : ℕ) → numbers ≡ edge_numbers q → place < length numbers * size q.target
    → PairAt (is_edge_pair q) q place (get_or numbers (place / size q.target) 0)
edge_pair_at q numbers place is inside = pair_at_place (is_edge_pair q) q numbers place is inside

pub non_edge_pair_at : (q : Problem) (numbers : List ℕ) (place : ℕ) → numbers ≡ non_edge_numbers q → place < length numbers * size q.target
    → PairAt (is_non_edge_pair q) q place (get_or numbers (place / size q.target) 0)
non_edge_pair_at q numbers place is inside = pair_at_place (is_non_edge_pair q) q numbers place is inside

-- the form at a place of the pairs with an edge
pub edge_form : (q : Problem) (place number : ℕ) → PairAt (is_edge_pair q) q place number
    → slice_get (encoding q) (edge_start q + place) ≡ Some (pair_form q (number / size q.pattern) (number % size q.pattern) (place % size q.target))
edge_form q place number at =
    let c = (counted_places q).edge (number / size q.pattern) (number % size q.pattern) (place % size q.target) at.column in
    let d = at.counted in
    let same : edge_start q + place ≡ edge_place q (number / size q.pattern) (number % size q.pattern) (place % size q.target) = omega arith in
    ap (slice_get (encoding q)) same
    ∙ (place_laws q).edge (number / size q.pattern) (number % size q.pattern) (place % size q.target) at.row at.column at.target at.passes

-- and of the pairs without one
pub non_edge_form : (q : Problem) (place number : ℕ) → PairAt (is_non_edge_pair q) q place number
    → slice_get (encoding q) (non_edge_start q + place) ≡ Some (pair_form q (number / size q.pattern) (number % size q.pattern) (place % size q.target))
non_edge_form q place number at =
    let c = (counted_places q).non_edge (number / size q.pattern) (number % size q.pattern) (place % size q.target) at.column in
    let d = at.counted in
    let same : non_edge_start q + place ≡ non_edge_place q (number / size q.pattern) (number % size q.pattern) (place % size q.target) = omega arith in
    ap (slice_get (encoding q)) same
    ∙ (place_laws q).non_edge (number / size q.pattern) (number % size q.pattern) (place % size q.target) at.row at.column at.target at.passes

-- its vertices are in range
pub in_range : (test : ℕ → ℕ → Bool) (q : Problem) (place number : ℕ) → PairAt test q place number
    → PairIsIn q (number / size q.pattern) (place % size q.target) × (number % size q.pattern < size q.pattern)
in_range test q place number at = (record { vertex = at.row; target = at.target }, at.column)

-- ---- group 6

-- What a place in the group says: a pair by its number, and how far its forms have come.
pub record LessAt (q : Problem) (ns : List (ℕ × ℕ)) (place w : ℕ) : Type 0 where
  pub below : place / (2 * w) < length q.less
  pub rest : place % (2 * w) < 2 * w
  pub pair : slice_get q.less (place / (2 * w)) ≡ Some (get_or ns (place / (2 * w)) (0, 0))
  pub whole : place ≡ place / (2 * w) * (2 * w) + place % (2 * w)

pub less_at_place : (q : Problem) (ns : List (ℕ × ℕ)) (place w : ℕ) → ns ≡ q.less → place < length q.less * (2 * w) → LessAt q ns place w
less_at_place q ns place w is inside =
    let r = in_rows (length q.less) (2 * w) place inside in
    record {
      below = r.0;
      rest = r.1;
      pair = slice_get-get_or q.less (place / (2 * w)) (0, 0) r.0 ∙ ap (λ (xs : List (ℕ × ℕ)). Some (get_or xs (place / (2 * w)) (0, 0))) (sym is);
      whole = sym (div-add-mod' place (2 * w));
    }

pub from_form : (q : Problem) (k t place : ℕ) (x : ℕ × ℕ) → IsOrder (size q.pattern) q.less → k < length q.less → slice_get q.less k ≡ Some x → t < size q.target
    → place ≡ k * (2 * size q.target) + t → slice_get (encoding q) (less_start q + place) ≡ Some (less_from q x t)
from_form q k t place x order k_in is t_in made =
    let e = (less_places q (inside_of q order)).from k x t (omega (arith, k_in)) in
    let here : less_start q + place ≡ less_from_place q k x t = omega (arith, e, made) in
    ap (slice_get (encoding q)) here ∙ (place_laws q).less_from k x t k_in is (inside_of q order k x is) t_in

pub to_form : (q : Problem) (k t place : ℕ) (x : ℕ × ℕ) → IsOrder (size q.pattern) q.less → k < length q.less → slice_get q.less k ≡ Some x → t < size q.target
    → place ≡ k * (2 * size q.target) + size q.target + t → slice_get (encoding q) (less_start q + place) ≡ Some (less_to q x t)
to_form q k t place x order k_in is t_in made =
    let e = (less_places q (inside_of q order)).to k x t (omega (arith, k_in)) in
    let here : less_start q + place ≡ less_to_place q k x t = omega (arith, e, made) in
    ap (slice_get (encoding q)) here ∙ (place_laws q).less_to k x t k_in is (inside_of q order k x is) t_in
