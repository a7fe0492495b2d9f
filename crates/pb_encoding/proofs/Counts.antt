-- Places of forms as counts of pairs.

use Rattle.std.proofs.Common.{◌≡◌, ℕ, zero, suc, ◌+◌, ◌*◌, ◌≤◌, ◌<◌, nat_lt, Bool, true, false, if◌then◌else◌, List, [], ◌∷◌, ◌++◌, length, slice_get, Option, Some, None, refl, sym, ap, ◌∙◌, arith, length-append}
use Rattle.std.proofs.Math.Nat.{suc-mul, add-mul}
use Rattle.std.proofs.lemmas.Nat.{div-mul-add, mod-mul-add}
use Rattle.graph_theory.specs.Graph.{size}
use Rattle.graph_theory.specs.Embedding.{Problem}
use Rattle.graph_theory.specs.Blocks.{has_near}
use Rattle.graph_theory.specs.declared.embedding.Maps.{Maps}
use Rattle.graph_theory.specs.declared.embedding.Maps.TheVariants.{Injective, Local, Any}
use Rattle.std.proofs.lemmas.Bool.{lt-ltb, and_from}
use Rattle.graph_rows.specs.Orders.{IsOrder}
use Rattle.graph_theory.specs.Neighbours.{count, members}
use Rattle.encoding_theory.specs.Variables.{collect, when}
use Rattle.encoding_theory.specs.Pairs.{is_edge_pair, is_non_edge_pair}
use Rattle.encoding_theory.specs.Encoding.{vertex_forms, vertex_group, block_at, block_forms, near_forms, target_group_in, target_group, is_refused, refusal, refused_at, refused_of, refused_group, pair_at, pair_forms, pair_group, edge_group, non_edge_group, less_from_at, less_to_at, less_forms, is_inside, less_of, less_at, less_group, encoding}
use Rattle.encoding_theory.specs.Places.{at_least_place, target_start, block_start, at_most_place_in, refused_start, refused_place, pair_place, edge_start, edge_place, non_edge_start, non_edge_place, less_start, less_from_place, less_to_place}
use Rattle.encoding_theory.proofs.Indicators.{length-collect}
use Rattle.pb_encoding.specs.Numbers.{by_number, refused_numbers, edge_numbers, non_edge_numbers, centres_in, block_count_in, block_count}
use Rattle.pb_encoding.proofs.Members.{length-members}

-- ---- counting by number

-- one row more, up to a place in it
count_along : (test : ℕ → ℕ → Bool) (width n t : ℕ) → t ≤ width → count (by_number test width) (n * width + t) ≡ count (by_number test width) (n * width) + count (test n) t
count_along test width n zero le = let e : n * width + 0 ≡ n * width = omega arith in ap (count (by_number test width)) e ∙ (let f : count (by_number test width) (n * width) ≡ count (by_number test width) (n * width) + 0 = omega arith in f)
count_along test width n (suc t) le =
    let low : t < width = omega arith in
    let next : n * width + suc t ≡ suc (n * width + t) = omega arith in
    let here : by_number test width (n * width + t) ≡ test n t = rw (div-mul-add n width t low, mod-mul-add n width t low) refl in
    let h = count_along test width n t (omega arith) in
    let one : ◌≡◌ {A = ℕ} (if by_number test width (n * width + t) then 1 else 0) (if test n t then 1 else 0) = ap (λ (b : Bool). if b then 1 else 0) here in
    ap (count (by_number test width)) next ∙ (let g : (if by_number test width (n * width + t) then 1 else 0) + count (by_number test width) (n * width + t) ≡ count (by_number test width) (n * width) + ((if test n t then 1 else 0) + count (test n) t) = omega arith in g)

-- ---- lengths

length_when : {X : Type 0} (b : Bool) (xs : List X) (n : ℕ) → length xs ≡ n → length (when b xs) ≡ (if b then 1 else 0) * n
length_when true xs n e = let f : 1 * n ≡ n = omega arith in e ∙ sym f
length_when false xs n e = let f : 0 * n ≡ 0 = omega arith in sym f

-- parts of one length, each there where a test is passed
length_collect-when : {X : Type 0} (test : ℕ → Bool) (part : ℕ → List X) (w n : ℕ) → ((i : ℕ) → length (part i) ≡ w) → length (collect (λ i. when (test i) (part i)) n) ≡ count test n * w
length_collect-when test part w zero each = let e : 0 * w ≡ 0 = omega arith in sym e
length_collect-when test part w (suc n) each =
    let h = length_collect-when test part w n each in
    let e = length-append (collect (λ i. when (test i) (part i)) n) (when (test n) (part n)) in
    let k = length_when (test n) (part n) w (each n) in
    let m = add-mul (if test n then 1 else 0) (count test n) w in
    omega arith

-- rows of such parts
length_rows : {X : Type 0} (test : ℕ → ℕ → Bool) (part : ℕ → ℕ → List X) (width w n : ℕ) → ((p i : ℕ) → length (part p i) ≡ w)
    → length (collect (λ p. collect (λ i. when (test p i) (part p i)) width) n) ≡ count (by_number test width) (n * width) * w
length_rows test part width w zero each =
    let e : 0 * width ≡ 0 = omega arith in
    let f : 0 * w ≡ 0 = omega arith in
    sym (ap (λ (c : ℕ). count (by_number test width) c * w) e ∙ f)
length_rows test part width w (suc n) each =
    let h = length_rows test part width w n each in
    let e = length-append (collect (λ p. collect (λ i. when (test p i) (part p i)) width) n) (collect (λ i. when (test n i) (part n i)) width) in
    let k = length_collect-when (test n) (part n) w width (each n) in
    let s : suc n * width ≡ n * width + width = suc-mul n width in
    let c = ap (count (by_number test width)) s ∙ count_along test width n width (omega arith) in
    let d = ap (λ (x : ℕ). x * w) c in
    let m = add-mul (count (by_number test width) (n * width)) (count (test n) width) w in
    omega arith

-- ---- groups

length_vertices : (q : Problem) (n : ℕ) → length (collect (vertex_forms q) n) ≡ 2 * n
length_vertices q n = let e = length-collect (vertex_forms q) n 2 (λ p. refl) in omega arith

length_block : (q : Problem) (b : Option ℕ) (n : ℕ) → length (collect (block_at q b) n) ≡ n
length_block q b n = let e = length-collect (block_at q b) n 1 (λ p. refl) in omega arith

length_near : (q : Problem) (n : ℕ) → length (collect (near_forms q) n) ≡ count (has_near q.pattern) n * size q.target
length_near q n = length_collect-when (has_near q.pattern) (λ c. block_forms q (Some c)) (size q.target) n (λ c. length_block q (Some c) (size q.target))

length_targets_in : (k : Maps) (q : Problem) → length (target_group_in k q) ≡ block_count_in k (length (centres_in k q.pattern)) * size q.target
length_targets_in Injective q = let e = length_block q None (size q.target) in omega (arith, e)
length_targets_in Local q =
    let m = length-members (has_near q.pattern) (size q.pattern) in
    length_near q (size q.pattern) ∙ ap (λ (n : ℕ). n * size q.target) (sym m)
length_targets_in Any q = omega arith

length_targets : (q : Problem) → length (target_group q) ≡ block_count q * size q.target
length_targets q = length_targets_in q.maps q

-- the forms of a pair that is to be in order
length_from : (q : Problem) (x : ℕ × ℕ) (n : ℕ) → length (collect (less_from_at q x) n) ≡ n
length_from q x n = let e = length-collect (less_from_at q x) n 1 (λ t. refl) in omega arith

length_to : (q : Problem) (x : ℕ × ℕ) (n : ℕ) → length (collect (less_to_at q x) n) ≡ n
length_to q x n = let e = length-collect (less_to_at q x) n 1 (λ t. refl) in omega arith

-- All pairs that are to be in order are of pattern vertices.
abbrev pub AllInside : Problem → Type 0
AllInside q = (k : ℕ) (x : ℕ × ℕ) → slice_get q.less k ≡ Some x → is_inside q x ≡ true

pub inside_of : (q : Problem) → IsOrder (size q.pattern) q.less → AllInside q
inside_of q order k x is =
    and_from (nat_lt x.0 (size q.pattern)) (nat_lt x.1 (size q.pattern)) (lt-ltb x.0 (size q.pattern) (order.first k x is)) (lt-ltb x.1 (size q.pattern) (order.second k x is))

length_less_of : (q : Problem) (o : Option (ℕ × ℕ)) (x : ℕ × ℕ) → o ≡ Some x → is_inside q x ≡ true → length (less_of q o) ≡ 2 * size q.target
length_less_of q o x is inside =
    let a = length-append (collect (less_from_at q x) (size q.target)) (collect (less_to_at q x) (size q.target)) in
    let f = length_from q x (size q.target) in
    let t = length_to q x (size q.target) in
    ap (λ (y : Option (ℕ × ℕ)). length (less_of q y)) is ∙ ap (λ (b : Bool). length (when b (less_forms q x))) inside ∙ (let z : length (less_forms q x) ≡ 2 * size q.target = omega (arith, a, f, t) in z)

some_at : {X : Type 0} (xs : List X) (k : ℕ) → k < length xs → (x : X) × (slice_get xs k ≡ Some x)
some_at [] k low = absurd (omega (arith, low))
some_at (y ∷ ys) zero low = (y, refl)
some_at (y ∷ ys) (suc k) low = some_at ys k (omega (arith, low))

length_less : (q : Problem) → AllInside q → (n : ℕ) → n ≤ length q.less → length (collect (less_at q) n) ≡ n * (2 * size q.target)
length_less q inside zero le = let e : 0 * (2 * size q.target) ≡ 0 = omega arith in sym e
length_less q inside (suc n) le =
    let h = length_less q inside n (omega (arith, le)) in
    let w = some_at q.less n (omega (arith, le)) in
    let o = length_less_of q (slice_get q.less n) w.0 w.1 (inside n w.0 w.1) in
    let e = length-append (collect (less_at q) n) (less_at q n) in
    let s = suc-mul n (2 * size q.target) in
    omega (arith, h, o, e, s)

length_pair_forms : (q : Problem) (p r n : ℕ) → length (collect (pair_at q p r) n) ≡ n
length_pair_forms q p r n = let e = length-collect (pair_at q p r) n 1 (λ t. refl) in omega arith

-- the refusals before that of p at t
length_refused : (q : Problem) (p t : ℕ) → t ≤ size q.target
    → length (collect (refused_of q) p) + length (collect (refused_at q p) t) ≡ count (by_number (is_refused q) (size q.target)) (p * size q.target + t)
length_refused q p t le =
    let rows = length_rows (is_refused q) (λ r u. refusal q r u ∷ []) (size q.target) 1 p (λ r u. refl) in
    let row = length_collect-when (is_refused q p) (λ u. refusal q p u ∷ []) 1 t (λ u. refl) in
    let c = count_along (is_refused q) (size q.target) p t le in
    omega arith

-- the forms of pairs before that of p and r at t
length_pairs : (test : ℕ → ℕ → Bool) (q : Problem) (p r t : ℕ) → r ≤ size q.pattern
    → pair_place test q p r t ≡ count (by_number test (size q.pattern)) (p * size q.pattern + r) * size q.target + t
length_pairs test q p r t le =
    let rows = length_rows test (λ x y. pair_forms q x y) (size q.pattern) (size q.target) p (λ x y. length_pair_forms q x y (size q.target)) in
    let row = length_collect-when (test p) (λ y. pair_forms q p y) (size q.target) r (λ y. length_pair_forms q p y (size q.target)) in
    let last = length_pair_forms q p r t in
    let c = ap (λ (x : ℕ). x * size q.target) (count_along test (size q.pattern) p r le) in
    let m = add-mul (count (by_number test (size q.pattern)) (p * size q.pattern)) (count (test p) r) (size q.target) in
    omega arith

length_refused_group : (q : Problem) → length (refused_group q) ≡ length (refused_numbers q)
length_refused_group q =
    let rows = length_rows (is_refused q) (λ r u. refusal q r u ∷ []) (size q.target) 1 (size q.pattern) (λ r u. refl) in
    let m = length-members (by_number (is_refused q) (size q.target)) (size q.pattern * size q.target) in
    omega arith

length_pair_group : (test : ℕ → ℕ → Bool) (q : Problem)
    → length (pair_group test q) ≡ length (members (by_number test (size q.pattern)) (size q.pattern * size q.pattern)) * size q.target
length_pair_group test q =
    let m = length-members (by_number test (size q.pattern)) (size q.pattern * size q.pattern) in
    length_rows test (λ x y. pair_forms q x y) (size q.pattern) (size q.target) (size q.pattern) (λ x y. length_pair_forms q x y (size q.target))
    ∙ ap (λ (c : ℕ). c * size q.target) (sym m)

-- ---- places, as the code counts them

-- Where the groups begin, and how many forms there are.
pub record Starts (q : Problem) : Type 0 where
  pub targets : target_start q ≡ 2 * size q.pattern
  pub refused : refused_start q ≡ 2 * size q.pattern + block_count q * size q.target
  pub edges : edge_start q ≡ 2 * size q.pattern + block_count q * size q.target + length (refused_numbers q)
  pub non_edges : non_edge_start q ≡ 2 * size q.pattern + block_count q * size q.target + length (refused_numbers q) + length (edge_numbers q) * size q.target
  pub less : less_start q ≡ 2 * size q.pattern + block_count q * size q.target + length (refused_numbers q) + length (edge_numbers q) * size q.target + length (non_edge_numbers q) * size q.target
  pub all : length (encoding q) ≡ less_start q + length (less_group q)

pub starts : (q : Problem) → Starts q
starts q =
    let v = length_vertices q (size q.pattern) in
    let t = length_targets q in
    let r = length_refused_group q in
    let e = length_pair_group (is_edge_pair q) q in
    let n = length_pair_group (is_non_edge_pair q) q in
    let a = length-append (vertex_group q) (target_group q ++ (refused_group q ++ (edge_group q ++ (non_edge_group q ++ less_group q)))) in
    let b = length-append (target_group q) (refused_group q ++ (edge_group q ++ (non_edge_group q ++ less_group q))) in
    let c = length-append (refused_group q) (edge_group q ++ (non_edge_group q ++ less_group q)) in
    let d = length-append (edge_group q) (non_edge_group q ++ less_group q) in
    let f = length-append (non_edge_group q) (less_group q) in
    record { targets = v; refused = omega arith; edges = omega arith; non_edges = omega arith; less = omega arith; all = omega arith }

-- How many there are where all pairs that are to be in order are of pattern vertices.
pub all_forms : (q : Problem) → AllInside q → length (encoding q) ≡ less_start q + length q.less * (2 * size q.target)
all_forms q inside =
    let s = (starts q).all in
    let l = length_less q inside (length q.less) (omega arith) in
    omega (arith, s, l)

-- Where each form stands.
pub record CountedPlaces (q : Problem) : Type 0 where
  pub at_least : (p : ℕ) → at_least_place q p ≡ 2 * p
  pub at_most_in : (b : Option ℕ) (t : ℕ) → at_most_place_in q b t ≡ 2 * size q.pattern + (block_start q b + t)
  pub block : (c : ℕ) → block_start q (Some c) ≡ count (has_near q.pattern) c * size q.target
  pub refused : (p t : ℕ) → t < size q.target
      → refused_place q p t ≡ refused_start q + count (by_number (is_refused q) (size q.target)) (p * size q.target + t)
  pub edge : (p r t : ℕ) → r < size q.pattern
      → edge_place q p r t ≡ edge_start q + (count (by_number (is_edge_pair q) (size q.pattern)) (p * size q.pattern + r) * size q.target + t)
  pub non_edge : (p r t : ℕ) → r < size q.pattern
      → non_edge_place q p r t ≡ non_edge_start q + (count (by_number (is_non_edge_pair q) (size q.pattern)) (p * size q.pattern + r) * size q.target + t)

pub counted_places : (q : Problem) → CountedPlaces q
counted_places q = record {
  at_least = λ p. length_vertices q p;
  at_most_in = λ b t. let v = length_vertices q (size q.pattern) in let e = length_block q b t in omega (arith, v, e);
  block = λ c. length_near q c;
  refused = λ p t low. ap (λ (n : ℕ). refused_start q + n) (length_refused q p t (omega arith));
  edge = λ p r t low. ap (λ (n : ℕ). edge_start q + n) (length_pairs (is_edge_pair q) q p r t (omega arith));
  non_edge = λ p r t low. ap (λ (n : ℕ). non_edge_start q + n) (length_pairs (is_non_edge_pair q) q p r t (omega arith));
}

-- Where the forms of pairs that are to be in order stand.
pub record LessPlaces (q : Problem) : Type 0 where
  pub from : (k : ℕ) (x : ℕ × ℕ) (t : ℕ) → k ≤ length q.less → less_from_place q k x t ≡ less_start q + (k * (2 * size q.target) + t)
  pub to : (k : ℕ) (x : ℕ × ℕ) (t : ℕ) → k ≤ length q.less → less_to_place q k x t ≡ less_start q + (k * (2 * size q.target) + size q.target + t)

pub less_places : (q : Problem) → AllInside q → LessPlaces q
less_places q inside = record {
  from = λ k x t le. let h = length_less q inside k le in let f = length_from q x t in omega (arith, h, f);
  to = λ k x t le.
      let h = length_less q inside k le in
      let f = length_from q x (size q.target) in
      let g = length_to q x t in
      omega (arith, h, f, g);
}
