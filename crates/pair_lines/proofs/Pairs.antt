-- A neighbour's pair has lines, seen from either vertex; and where no vertex is shared none is counted.
use Rattle.std.proofs.Common.{◌≡◌, ℕ, zero, suc, ◌+◌, ◌<◌, ◌==◌, Bool, true, false, ◌||◌, not, is_some, if◌then◌else◌, refl, sym, arith}
use Rattle.std.proofs.lemmas.Bool.{and_parts, and_from, eqb-false, ne_eqb, not-true, not_from_false}
use Rattle.graph_theory.specs.Graph.{edge}
use Rattle.graph_theory.specs.Embedding.{Problem}
use Rattle.graph_theory.specs.Neighbours.{count, is_neighbour}
use Rattle.encoding_theory.specs.Pairs.{is_linked, is_edge_pair}
use Rattle.pair_line_theory.specs.Rows.{is_shared}

or_left : (b c : Bool) → b ≡ true → (b || c) ≡ true
or_left true c e = refl
or_left false c e = absurd cc

or_right : (b c : Bool) → c ≡ true → (b || c) ≡ true
or_right true c e = refl
or_right false c e = e

-- From the first of two vertices to one that they share.
pub shared_first : (q : Problem) (p r m : ℕ) → is_shared q.pattern p r m ≡ true → is_edge_pair q p m ≡ true
shared_first q p r m is =
    let near = and_parts (not (p == m)) (is_some (edge q.pattern p m)) (and_parts (is_neighbour q.pattern p m) (is_neighbour q.pattern r m) is).0 in
    and_from (not (p == m)) (is_linked q.pattern p m) near.0 (or_left (is_some (edge q.pattern p m)) (is_some (edge q.pattern m p)) near.1)

-- From one that they share to the second.
pub shared_second : (q : Problem) (p r m : ℕ) → is_shared q.pattern p r m ≡ true → is_edge_pair q m r ≡ true
shared_second q p r m is =
    let near = and_parts (not (r == m)) (is_some (edge q.pattern r m)) (and_parts (is_neighbour q.pattern p m) (is_neighbour q.pattern r m) is).1 in
    let other = eqb-false r m (not-true (r == m) near.0) in
    and_from (not (m == r)) (is_linked q.pattern m r) (not_from_false (m == r) (ne_eqb m r (λ (e : m ≡ r). other (sym e)))) (or_right (is_some (edge q.pattern m r)) (is_some (edge q.pattern r m)) near.1)

pub count_none : (f : ℕ → Bool) (n : ℕ) → ((i : ℕ) → i < n → f i ≡ false) → count f n ≡ 0
count_none f zero none = refl
count_none f (suc n) none = by (f n) (none n (omega arith)) (count_none f n (λ i low. none i (omega (arith, low))))
  where
    by : (b : Bool) → b ≡ false → count f n ≡ 0 → let P : ℕ → ℕ → Type 0 = λ x y. x ≡ y in P ((if b then 1 else 0) + count f n) 0
    by true e h = absurd cc
    by false e h = omega (arith, h)
