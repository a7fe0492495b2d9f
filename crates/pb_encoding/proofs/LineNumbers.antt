-- The numbers of lines, from what is kept of an encoding.

use Rattle.std.proofs.Common.{◌≡◌, ℕ, suc, ◌+◌, ◌-◌, ◌*◌, ◌^◌, ◌≤◌, ◌<◌, Bool, true, false, List, length, get_or, slice_get, Some, None, refl, sym, subst, ap, ◌∙◌, arith}
use Rattle.std.specs.Prelude.{Contains}
use Rattle.std.proofs.Math.Nat.{mul-le-mul, mul-le-mul_right, suc-mul}
use Rattle.std.proofs.lemmas.Nat.{div-mul-add, mod-mul-add}
use Rattle.std.proofs.lemmas.Bool.{false_from_ne_true}
use Rattle.std.proofs.lemmas.Option.{slice_get_within, get_or_from_slice_get}
use Rattle.graph_theory.specs.Graph.{size}
use Rattle.graph_theory.specs.Embedding.{Problem}
use Rattle.graph_theory.specs.Blocks.{has_near, has_block_in, has_block}
use Rattle.graph_theory.specs.declared.embedding.Maps.{Maps}
use Rattle.graph_theory.specs.declared.embedding.Maps.TheVariants.{Injective, Local, Any}
use Rattle.graph_theory.proofs.BlockProofs.{near_in}
use Rattle.graph_rows.specs.Orders.{IsOrder}
use Rattle.graph_theory.specs.Neighbours.{count, members}
use Rattle.proof_theory.specs.Forms.{Form}
use Rattle.encoding_theory.specs.Pairs.{is_edge_pair, is_non_edge_pair}
use Rattle.encoding_theory.specs.Encoding.{is_refused, encoding}
use Rattle.encoding_theory.specs.Places.{at_least_place, at_most_place, at_most_place_in, refused_start, refused_place, edge_start, edge_place, non_edge_start, non_edge_place, less_start, less_from_place, less_to_place}
use Rattle.pb_encoding.specs.Numbers.{by_number, refused_numbers, edge_numbers, non_edge_numbers, centres_in, centres, IsKept}
use Rattle.pb_encoding.proofs.Members.{StandsAt, members_get, members_at, members_rise}
use Rattle.pb_encoding.proofs.Counts.{starts, all_forms, counted_places, less_places, inside_of}
use Rattle.pb_encoding.proofs.Bounds.{Few, few}

-- the form of a line is the one at its place
pub form_at : (q : Problem) (place line : ℕ) (f : Form) → line ≡ place + 1 → slice_get (encoding q) place ≡ Some f → slice_get (encoding q) (line - 1) ≡ Some f
form_at q place line f is h = let e : line - 1 ≡ place = omega arith in ap (slice_get (encoding q)) e ∙ h

-- Within the limits there are few lines.
pub encoding_few : (q : Problem) → size q.pattern ≤ 1024 → size q.target ≤ 8192 → IsOrder (size q.pattern) q.less → length (encoding q) < 2 ^ 36
encoding_few q ps ts order =
    let a = all_forms q (inside_of q order) in
    let s = (starts q).less in
    let b = few q ps ts in
    let blocks = b.block_forms in
    let r = b.refused in
    let e = b.edge_forms in
    let n = b.non_edge_forms in
    let wide : 2 * size q.target ≤ 16384 = omega (arith, ts) in
    let m : length q.less * (2 * size q.target) ≤ 64 * 16384 = mul-le-mul order.few wide in
    omega (arith, a, s, blocks, r, e, n, m, ps)

-- ---- pairs by number

-- the number of a pair in range is in range
pub number_in : (rows width p t : ℕ) → p < rows → t < width → p * width + t < rows * width
number_in rows width p t p_in t_in =
    let m : suc p * width ≤ rows * width = mul-le-mul_right width (let e : suc p ≤ rows = omega arith in e) in
    let s = suc-mul p width in
    omega arith

-- its test is that of the pair
pub at_number : (test : ℕ → ℕ → Bool) (width p t : ℕ) → t < width → by_number test width (p * width + t) ≡ test p t
at_number test width p t t_in = rw (div-mul-add p width t t_in, mod-mul-add p width t t_in) refl

-- a list of numbers rises
pub rises : (f : ℕ → Bool) (n : ℕ) (ns : List ℕ) → ns ≡ members f n → (i j : ℕ) → i ≤ j → j < length ns → get_or ns i 0 ≤ get_or ns j 0
rises f n ns is i j le inside =
    subst (λ (xs : List ℕ). get_or xs i 0 ≤ get_or xs j 0) (sym is) (members_rise f n i j le (subst (λ (xs : List ℕ). j < length xs) is inside))

-- a number that passes stands in it
pub stands : (f : ℕ → Bool) (n : ℕ) (ns : List ℕ) (i : ℕ) → ns ≡ members f n → i < n → f i ≡ true → slice_get ns (count f i) ≡ Some i
stands f n ns i is i_in passes = ap (λ (xs : List ℕ). slice_get xs (count f i)) is ∙ members_at f n i i_in passes

pub contained : (ns : List ℕ) (k i : ℕ) → slice_get ns k ≡ Some i → Contains ns i
contained ns k i h = (k, slice_get_within ns k i h, get_or_from_slice_get ns k i i h)

-- at its count
pub stands_at : (f : ℕ → Bool) (n : ℕ) (ns : List ℕ) (k i : ℕ) → ns ≡ members f n → slice_get ns k ≡ Some i → StandsAt f n k i
stands_at f n ns k i is h = members_get f n k i (sym (ap (λ (xs : List ℕ). slice_get xs k) is) ∙ h)

-- ---- lines

pub at_least_line : (q : Problem) (p : ℕ) → 2 * p + 1 ≡ at_least_place q p + 1
at_least_line q p = let e = (counted_places q).at_least p in omega arith

pub at_most_line : (q : Problem) (p : ℕ) → 2 * p + 2 ≡ at_most_place q p + 1
at_most_line q p = let e = (counted_places q).at_least p in omega arith

-- of the block of all vertices
pub whole_line : (q : Problem) (start targets t : ℕ) → start ≡ 2 * size q.pattern → start + (0 * targets + t) + 1 ≡ at_most_place_in q None t + 1
whole_line q start targets t is = let e = (counted_places q).at_most_in None t in omega (arith, e, is)

-- of the block around a centre: it stands among the centres, at the count of those before it
centre_listed : (k : Maps) (q : Problem) (c : ℕ) → has_block_in k q.pattern (Some c) ≡ true
    → slice_get (centres_in k q.pattern) (count (has_near q.pattern) c) ≡ Some c
centre_listed Injective q c there = absurd cc
centre_listed Local q c there = members_at (has_near q.pattern) (size q.pattern) c (near_in q.pattern c there) there
centre_listed Any q c there = absurd cc

pub centre_contained : (q : Problem) (ns : List ℕ) (c number : ℕ) → ns ≡ centres q → has_block q (Some c) ≡ true → number ≡ c → Contains ns number
centre_contained q ns c number is there made =
    contained ns (count (has_near q.pattern) c) number (ap (λ (xs : List ℕ). slice_get xs (count (has_near q.pattern) c)) is ∙ centre_listed q.maps q c there ∙ ap Some (sym made))

centres_rise_in : (k : Maps) (q : Problem) (i j : ℕ) → i ≤ j → j < length (centres_in k q.pattern) → get_or (centres_in k q.pattern) i 0 ≤ get_or (centres_in k q.pattern) j 0
centres_rise_in Injective q i j le inside = absurd (omega (arith, inside))
centres_rise_in Local q i j le inside = members_rise (has_near q.pattern) (size q.pattern) i j le inside
centres_rise_in Any q i j le inside = absurd (omega (arith, inside))

pub centres_rise : (q : Problem) (ns : List ℕ) → ns ≡ centres q → (i j : ℕ) → i ≤ j → j < length ns → get_or ns i 0 ≤ get_or ns j 0
centres_rise q ns is i j le inside =
    subst (λ (xs : List ℕ). get_or xs i 0 ≤ get_or xs j 0) (sym is) (centres_rise_in q.maps q i j le (subst (λ (xs : List ℕ). j < length xs) is inside))

centre_counted : (k : Maps) (q : Problem) (c place : ℕ) → has_block_in k q.pattern (Some c) ≡ true → slice_get (centres_in k q.pattern) place ≡ Some c
    → place ≡ count (has_near q.pattern) c
centre_counted Injective q c place there h = absurd cc
centre_counted Local q c place there h = (members_get (has_near q.pattern) (size q.pattern) place c h).place
centre_counted Any q c place there h = absurd cc

pub near_line : (q : Problem) (ns : List ℕ) (start targets t c k number : ℕ) → start ≡ 2 * size q.pattern → targets ≡ size q.target → ns ≡ centres q
    → has_block q (Some c) ≡ true → number ≡ c → slice_get ns k ≡ Some number → start + (k * targets + t) + 1 ≡ at_most_place_in q (Some c) t + 1
near_line q ns start targets t c k number begins wide is there made h =
    let place : k ≡ count (has_near q.pattern) c =
    centre_counted q.maps q c k there (ap (λ (xs : List ℕ). slice_get xs k) (sym is) ∙ h ∙ ap Some made) in
    let e = (counted_places q).at_most_in (Some c) t in
    let n = (counted_places q).block c in
    let m : k * targets ≡ count (has_near q.pattern) c * size q.target = ap (λ (x : ℕ). x * targets) place ∙ ap (λ (w : ℕ). count (has_near q.pattern) c * w) wide in
    omega (arith, e, n, m, begins)

-- of a pair that is to be in order, where all are of pattern vertices
pub from_line : (q : Problem) (start targets t k : ℕ) (x : ℕ × ℕ) → IsOrder (size q.pattern) q.less → k ≤ length q.less → start ≡ less_start q → targets ≡ size q.target
    → start + k * (2 * targets) + t + 1 ≡ less_from_place q k x t + 1
from_line q start targets t k x order k_in begins wide =
    let e = (less_places q (inside_of q order)).from k x t k_in in
    let m : k * (2 * targets) ≡ k * (2 * size q.target) = ap (λ (w : ℕ). k * (2 * w)) wide in
    omega (arith, e, m, begins)

pub to_line : (q : Problem) (start targets t k : ℕ) (x : ℕ × ℕ) → IsOrder (size q.pattern) q.less → k ≤ length q.less → start ≡ less_start q → targets ≡ size q.target
    → start + (k * (2 * targets) + targets) + t + 1 ≡ less_to_place q k x t + 1
to_line q start targets t k x order k_in begins wide =
    let e = (less_places q (inside_of q order)).to k x t k_in in
    let m : k * (2 * targets) ≡ k * (2 * size q.target) = ap (λ (w : ℕ). k * (2 * w)) wide in
    omega (arith, e, m, begins, wide)

-- the place of a number among the refused ones gives the line of its pair
pub refused_line : (q : Problem) (ns : List ℕ) (targets p t k number : ℕ) → targets ≡ size q.target → ns ≡ refused_numbers q → t < size q.target
    → number ≡ p * targets + t → slice_get ns k ≡ Some number → (refused_start q + k + 1 ≡ refused_place q p t + 1) × (is_refused q p t ≡ true)
refused_line q ns targets p t k number width is t_in made h =
    let s = stands_at (by_number (is_refused q) (size q.target)) (size q.pattern * size q.target) ns k number is h in
    let here : number ≡ p * size q.target + t = made ∙ ap (λ (w : ℕ). p * w + t) width in
    let place : k ≡ count (by_number (is_refused q) (size q.target)) (p * size q.target + t) = s.place ∙ ap (count (by_number (is_refused q) (size q.target))) here in
    let c = (counted_places q).refused p t t_in in
    (omega arith, sym (at_number (is_refused q) (size q.target) p t t_in) ∙ sym (ap (by_number (is_refused q) (size q.target)) here) ∙ s.passes)

-- where it has no place, the pair is allowed
pub not_refused : (q : Problem) (ns : List ℕ) (targets p t number : ℕ) → targets ≡ size q.target → ns ≡ refused_numbers q → p < size q.pattern → t < size q.target
    → number ≡ p * targets + t → ((k : ℕ) → slice_get ns k ≡ Some number → ⊥) → is_refused q p t ≡ false
not_refused q ns targets p t number width is p_in t_in made none = false_from_ne_true (is_refused q p t) (λ refused.
    let here : number ≡ p * size q.target + t = made ∙ ap (λ (w : ℕ). p * w + t) width in
    let f = stands (by_number (is_refused q) (size q.target)) (size q.pattern * size q.target) ns (p * size q.target + t) is
    (number_in (size q.pattern) (size q.target) p t p_in t_in) (at_number (is_refused q) (size q.target) p t t_in ∙ refused) in
    none _ (f ∙ ap Some (sym here)))

-- a pair that passes stands in the list of such pairs
pub pair_contained : (test : ℕ → ℕ → Bool) (q : Problem) (ns : List ℕ) (vertices p r number : ℕ) → vertices ≡ size q.pattern
    → ns ≡ members (by_number test (size q.pattern)) (size q.pattern * size q.pattern) → p < size q.pattern → r < size q.pattern → test p r ≡ true
    → number ≡ p * vertices + r → Contains ns number
pair_contained test q ns vertices p r number width is p_in r_in passes made =
    let here : number ≡ p * size q.pattern + r = made ∙ ap (λ (w : ℕ). p * w + r) width in
    contained ns _ number
    (stands (by_number test (size q.pattern)) (size q.pattern * size q.pattern) ns (p * size q.pattern + r) is
    (number_in (size q.pattern) (size q.pattern) p r p_in r_in) (at_number test (size q.pattern) p r r_in ∙ passes)
    ∙ ap Some (sym here))

-- and its place there is the count of those before it
pub pair_counted : (test : ℕ → ℕ → Bool) (q : Problem) (ns : List ℕ) (vertices targets p r t k number : ℕ) → vertices ≡ size q.pattern → targets ≡ size q.target
    → ns ≡ members (by_number test (size q.pattern)) (size q.pattern * size q.pattern)
    → number ≡ p * vertices + r → slice_get ns k ≡ Some number
    → k * targets + t ≡ count (by_number test (size q.pattern)) (p * size q.pattern + r) * size q.target + t
pair_counted test q ns vertices targets p r t k number width wide is made h =
    let s = stands_at (by_number test (size q.pattern)) (size q.pattern * size q.pattern) ns k number is h in
    let here : number ≡ p * size q.pattern + r = made ∙ ap (λ (w : ℕ). p * w + r) width in
    let place : k ≡ count (by_number test (size q.pattern)) (p * size q.pattern + r) = s.place ∙ ap (count (by_number test (size q.pattern))) here in
    ap (λ (c : ℕ). c * targets + t) place ∙ ap (λ (w : ℕ). count (by_number test (size q.pattern)) (p * size q.pattern + r) * w + t) wide

pub edge_line : (q : Problem) (ns : List ℕ) (vertices targets p r t k number : ℕ) → vertices ≡ size q.pattern → targets ≡ size q.target → ns ≡ edge_numbers q
    → r < size q.pattern → number ≡ p * vertices + r → slice_get ns k ≡ Some number → edge_start q + (k * targets + t) + 1 ≡ edge_place q p r t + 1
edge_line q ns vertices targets p r t k number width wide is r_in made h =
    let c = pair_counted (is_edge_pair q) q ns vertices targets p r t k number width wide is made h in
    let e = (counted_places q).edge p r t r_in in
    omega arith

pub non_edge_line : (q : Problem) (ns : List ℕ) (vertices targets p r t k number : ℕ) → vertices ≡ size q.pattern → targets ≡ size q.target → ns ≡ non_edge_numbers q
    → r < size q.pattern → number ≡ p * vertices + r → slice_get ns k ≡ Some number → non_edge_start q + (k * targets + t) + 1 ≡ non_edge_place q p r t + 1
non_edge_line q ns vertices targets p r t k number width wide is r_in made h =
    let c = pair_counted (is_non_edge_pair q) q ns vertices targets p r t k number width wide is made h in
    let e = (counted_places q).non_edge p r t r_in in
    omega arith

-- ---- what is kept, of an encoding that is seen as its problem

-- the pairs that are to be in order, as a call gives them
pub order_seen : (q seen : Problem) (pairs : List (ℕ × ℕ)) → q ≡ seen → pairs ≡ q.less → IsOrder (size q.pattern) pairs → IsOrder (size seen.pattern) seen.less
order_seen q seen pairs is are order =
    subst (λ (p : Problem). IsOrder (size p.pattern) p.less) is (subst (λ (xs : List (ℕ × ℕ)). IsOrder (size q.pattern) xs) are order)

pub kept : (q seen : Problem) (vertices targets : ℕ) (refused edges non_edges around : List ℕ) → q ≡ seen
    → IsKept q vertices targets refused edges non_edges around → IsKept seen vertices targets refused edges non_edges around
kept q seen vertices targets refused edges non_edges around is h = subst (λ (p : Problem). IsKept p vertices targets refused edges non_edges around) is h

pub kept_few : (q : Problem) (vertices targets : ℕ) (refused edges non_edges around : List ℕ) → IsKept q vertices targets refused edges non_edges around → Few q
kept_few q vertices targets refused edges non_edges around k =
    few q (subst (λ (n : ℕ). n ≤ 1024) k.vertices_are k.vertices_few) (subst (λ (n : ℕ). n ≤ 8192) k.targets_are k.targets_few)
