-- How often a vertex is around a place: what the sums of a line count, and how little that is where too few neighbours are shared.
use Rattle.std.proofs.Common.{◌≡◌, ℕ, zero, suc, ◌+◌, ◌*◌, ◌≤◌, ◌<◌, ◌==◌, Bool, true, false, ◌&&◌, not, is_some, Option, Some, None, List, ◌++◌, ℤ, pos, negsuc, ◌+ℤ◌, ◌≤ℤ◌, refl, sym, ap, ◌∙◌, arith}
use Rattle.std.proofs.lemmas.Int.{ints}
use Rattle.std.proofs.lemmas.Bool.{ltb-true, ne_eqb, and_parts, and_from, not_from_false}
use Rattle.graph_theory.specs.Graph.{size, edge}
use Rattle.graph_theory.specs.Embedding.{Problem, is_injective, Matches}
use Rattle.graph_theory.specs.Neighbours.{count, is_neighbour, degree, common}
use Rattle.proof_theory.specs.Forms.{Form, Holds}
use Rattle.proof_theory.proofs.Sorting.{value-sorted, value-append}
use Rattle.encoding_theory.specs.Variables.{variable}
use Rattle.encoding_theory.specs.Pairs.{is_open, is_compatible}
use Rattle.encoding_theory.specs.Encoding.{terms_where, pair_form}
use Rattle.encoding_theory.proofs.Counting.{some_passes}
use Rattle.encoding_theory.proofs.FormMeanings.{value_up, value_down}
use Rattle.encoding_theory.proofs.PairTests.{compatible_injective, apart_open}
use Rattle.pair_line_theory.specs.Operations.{sum_where}
use Rattle.pair_line_theory.specs.Rows.{is_shared, lets, spread_form, around_form}
use Rattle.pair_line_theory.proofs.Totals.{one_if, total_where, total_le, total_add, total_constant, total_one, total_swap, count_le, count_both_le, count_but_one}
use Rattle.pair_line_theory.proofs.Values.{IsWorth, worth_where, bound_where, worth_pair, values_of, values_where, held_where}

-- ---- neighbours

-- An edge that is kept is there.
some_kept : (b : Bool) (e f : Option ℕ) → is_some e ≡ true → Matches b e f → is_some f ≡ true
some_kept b None f there m = absurd cc
some_kept false (Some l) f there m = ap is_some m
some_kept true (Some l) f there m = ap is_some m.0

-- Beside p at t its neighbours are at neighbours of t.
pub near_out : (q : Problem) (p t m w : ℕ) → is_injective q.maps ≡ true → is_neighbour q.pattern p m ≡ true → is_compatible q p t m w ≡ true → is_neighbour q.target t w ≡ true
near_out q p t m w inj joins goes =
    let c = compatible_injective q p t m w inj goes in
    let apart = apart_open q t w inj (and_parts (is_open q t w) _ goes).0 in
    let j = and_parts (not (p == m)) (is_some (edge q.pattern p m)) joins in
    and_from (not (t == w)) (is_some (edge q.target t w)) (not_from_false (t == w) (ne_eqb t w apart)) (some_kept q.induced (edge q.pattern p m) (edge q.target t w) j.1 c.out)

-- And where a neighbour of r is at w, r is at those of which w is a neighbour.
near_back : (q : Problem) (r m w u : ℕ) → is_injective q.maps ≡ true → is_neighbour q.pattern r m ≡ true → is_compatible q m w r u ≡ true → is_neighbour q.target u w ≡ true
near_back q r m w u inj joins goes =
    let c = compatible_injective q m w r u inj goes in
    let apart = apart_open q w u inj (and_parts (is_open q w u) _ goes).0 in
    let j = and_parts (not (r == m)) (is_some (edge q.pattern r m)) joins in
    and_from (not (u == w)) (is_some (edge q.target u w)) (not_from_false (u == w) (ne_eqb u w (λ (e : u ≡ w). apart (sym e)))) (some_kept q.induced (edge q.pattern r m) (edge q.target u w) j.1 c.back)

lets_near : (q : Problem) (p r w u : ℕ) → is_injective q.maps ≡ true → lets q p r w u ≡ true → is_neighbour q.target u w ≡ true
lets_near q p r w u inj is =
    let some = some_passes (λ m. is_shared q.pattern p r m && is_compatible q m w r u) (size q.pattern) (ltb-true 0 (count (λ m. is_shared q.pattern p r m && is_compatible q m w r u) (size q.pattern)) is) in
    let both = and_parts (is_shared q.pattern p r some.number) (is_compatible q some.number w r u) some.passes in
    near_back q r some.number w u inj (and_parts (is_neighbour q.pattern p some.number) (is_neighbour q.pattern r some.number) both.0).1 both.1

pub worth_spread : (q : Problem) (a : ℕ → Bool) (p r w : ℕ) → IsWorth a (spread_form q p r w) (held_where q a (is_shared q.pattern p r) w) (values_where q a (lets q p r w) r)
worth_spread q a p r w = record {
  worth =
      let downs : List (ℕ × ℤ) = terms_where (negsuc 0) (is_shared q.pattern p r) (λ m. variable q m w) (size q.pattern) in
      let ups : List (ℕ × ℤ) = terms_where (pos 1) (lets q p r w) (variable q r) (size q.target) in
      let e = value-sorted a (downs ++ ups) in
      let s = value-append a downs ups in
      let d = value_down a (is_shared q.pattern p r) (λ m. variable q m w) (size q.pattern) in
      let u = value_up a (lets q p r w) (variable q r) (size q.target) in
      omega (arith, ints);
}

-- ---- around a place

-- How often r is let be where it is by neighbours of t, each counted.
abbrev pub times_around : Problem → (ℕ → Bool) → ℕ → ℕ → ℕ → ℕ
times_around q a p t r = total_where (is_neighbour q.target t) (λ w. values_where q a (lets q p r w) r) (size q.target)

-- Where p is at t, the sums leave as many as are shared, and how often r is around.
pub around_says : (q : Problem) (a : ℕ → Bool) (p t r : ℕ) (base : Form) (taken given : ℕ) → is_injective q.maps ≡ true → a (variable q p t) ≡ true → IsWorth a base taken given
    → Holds (around_form q p t r base) a → (base.bound +ℤ pos (taken + common q.pattern p r)) ≤ℤ pos (given + times_around q a p t r)
around_says q a p t r base taken given inj is wb holds =
    let middle : Form = sum_where (is_shared q.pattern p r) (λ m. pair_form q p m t) base (size q.pattern) in
    let wm : IsWorth a middle (taken + total_where (is_shared q.pattern p r) (λ m. one_if (a (variable q p t))) (size q.pattern))
    (given + total_where (is_shared q.pattern p r) (λ m. values_where q a (is_compatible q p t m) m) (size q.pattern)) =
    worth_where a (is_shared q.pattern p r) (λ m. pair_form q p m t) base taken given (λ m. one_if (a (variable q p t))) (λ m. values_where q a (is_compatible q p t m) m) (size q.pattern) wb
    (λ m low shares. worth_pair q a p m t) in
    let ww = worth_where a (is_neighbour q.target t) (spread_form q p r) middle
    (taken + total_where (is_shared q.pattern p r) (λ m. one_if (a (variable q p t))) (size q.pattern))
    (given + total_where (is_shared q.pattern p r) (λ m. values_where q a (is_compatible q p t m) m) (size q.pattern))
    (λ w. held_where q a (is_shared q.pattern p r) w) (λ w. values_where q a (lets q p r w) r) (size q.target) wm (λ w low near. worth_spread q a p r w) in
    let worth = ww.worth in
    let within = total_le (is_shared q.pattern p r) (λ m. values_where q a (is_compatible q p t m) m) (λ m. values_where q a (is_neighbour q.target t) m) (size q.pattern)
    (λ m low shares. count_le (λ w. is_compatible q p t m w && a (variable q m w)) (λ w. is_neighbour q.target t w && a (variable q m w)) (size q.target)
    (λ w w_in both. let b = and_parts (is_compatible q p t m w) (a (variable q m w)) both in
    and_from (is_neighbour q.target t w) (a (variable q m w)) (near_out q p t m w inj (and_parts (is_neighbour q.pattern p m) (is_neighbour q.pattern r m) shares).0 b.0) b.1)) in
    let swapped = total_swap (is_shared q.pattern p r) (is_neighbour q.target t) (λ m w. a (variable q m w)) (size q.pattern) (size q.target) in
    let ones = total_constant (is_shared q.pattern p r) (one_if (a (variable q p t))) (size q.pattern) in
    let one : one_if (a (variable q p t)) ≡ 1 = ap one_if is in
    let counted : count (is_shared q.pattern p r) (size q.pattern) * one_if (a (variable q p t)) ≡ common q.pattern p r =
    ap (λ (x : ℕ). count (is_shared q.pattern p r) (size q.pattern) * x) one ∙ (let z : count (is_shared q.pattern p r) (size q.pattern) * 1 ≡ common q.pattern p r = omega arith in z) in
    let low = bound_where (is_shared q.pattern p r) (λ m. pair_form q p m t) base (size q.pattern) (λ m. refl) in
    let high = bound_where (is_neighbour q.target t) (spread_form q p r) middle (size q.target) (λ w. refl) in
    let reached = holds.reached in
    omega (arith, ints)

-- Each neighbour of t lets r be there once at most for each value.
pub around_at_most : (q : Problem) (a : ℕ → Bool) (p t r : ℕ) → times_around q a p t r ≤ degree q.target t * values_of q a r
around_at_most q a p t r =
    let each = total_le (is_neighbour q.target t) (λ w. values_where q a (lets q p r w) r) (λ w. values_of q a r) (size q.target) (λ w low near. count_both_le (lets q p r w) (λ u. a (variable q r u)) (size q.target)) in
    let all = total_constant (is_neighbour q.target t) (values_of q a r) (size q.target) in
    omega (arith, each, all)

-- And where u is a value, only those that are shared with it count it.
pub around_few : (q : Problem) (a : ℕ → Bool) (p t r u : ℕ) → is_injective q.maps ≡ true → u < size q.target → a (variable q r u) ≡ true
    → times_around q a p t r + degree q.target t ≤ common q.target t u + degree q.target t * values_of q a r
around_few q a p t r u inj u_in is =
    let near : ℕ → Bool = is_neighbour q.target t in
    let each = total_le near (λ w. values_where q a (lets q p r w) r + 1) (λ w. one_if (lets q p r w u) + values_of q a r) (size q.target)
    (λ w low n. count_but_one (lets q p r w) (λ i. a (variable q r i)) (size q.target) u u_in is) in
    let left = total_add near (λ w. values_where q a (lets q p r w) r) (λ w. 1) (size q.target) in
    let ones = total_constant near 1 (size q.target) in
    let right = total_add near (λ w. one_if (lets q p r w u)) (λ w. values_of q a r) (size q.target) in
    let all = total_constant near (values_of q a r) (size q.target) in
    let both = total_one near (λ w. lets q p r w u) (size q.target) in
    let shared = count_le (λ w. near w && lets q p r w u) (λ w. near w && is_neighbour q.target u w) (size q.target)
    (λ w w_in h. let b = and_parts (near w) (lets q p r w u) h in and_from (near w) (is_neighbour q.target u w) b.0 (lets_near q p r w u inj b.1)) in
    omega (arith, each, left, ones, right, all, both, shared)
