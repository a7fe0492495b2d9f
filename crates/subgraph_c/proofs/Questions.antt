-- The problem that a call asks, from what its parts say.

use Rattle.std.specs.Prelude.{◌≡◌, ℕ, ◌+◌, ◌<◌, true, false, List, [], ◌∷◌, ◌++◌, length, take, slice_get, Some, None}
use Rattle.std.specs.List.{list_any}
use Rattle.std.proofs.Common.{zero, suc, get_or, sym, ap, subst, ◌∙◌}
use Rattle.std.proofs.lemmas.Bool.{eq-eqb, or_parts}
use Rattle.std.proofs.lemmas.List.{take_more, map-append, length-map}
use Rattle.std.proofs.lemmas.List.Elements.{All-push, All-head, All-tail}
use Rattle.graph_theory.specs.Graph.{Graph, size}
use Rattle.graph_theory.specs.Embedding.{Problem}
use Rattle.graph_rows.specs.Orders.{IsOrder}
use Rattle.subgraph_c.specs.declared.passed.Options.{Options}
use Rattle.subgraph_c.specs.declared.passed.Pair.{Pair}
use Rattle.subgraph_c.specs.Asking.{AreInRange, HasBoth, HaveVertices, is_one, pair_of, pairs_of, problem_of}

-- The pair at a place is of two vertices of the graph.
both_at : (g : Graph) (less : List Pair) (k : ℕ) (x : ℕ × ℕ) → slice_get (pairs_of less) k ≡ Some x → HaveVertices g less
    → (x.0 < size g) × (x.1 < size g)
both_at g [] k x there all = let no : None ≡ Some x = there in cc
both_at g (y ∷ ys) zero x there all =
    let same : pair_of y ≡ x = cc in
    subst (λ (z : ℕ × ℕ). (z.0 < size g) × (z.1 < size g)) same (All-head (HasBoth g) y ys all)
both_at g (y ∷ ys) (suc k) x there all = both_at g ys k x there (All-tail (HasBoth g) y ys all)

-- No pair of them names one vertex twice.
two_at : (less : List Pair) (k : ℕ) (x : ℕ × ℕ) → list_any is_one less ≡ false → slice_get (pairs_of less) k ≡ Some x → x.0 ≡ x.1 → ⊥
two_at [] k x none there e = let no : None ≡ Some x = there in cc
two_at (y ∷ ys) zero x none there e =
    let same : pair_of y ≡ x = cc in
    let twice : y.first ≡ y.second = subst (λ (z : ℕ × ℕ). z.0 ≡ z.1) (sym same) e in
    let no : is_one y ≡ false = (or_parts (is_one y) (list_any is_one ys) none).0 in
    let yes : is_one y ≡ true = eq-eqb y.first y.second twice in
    let clash : true ≡ false = sym yes ∙ no in
    cc
two_at (y ∷ ys) (suc k) x none there e = two_at ys k x (or_parts (is_one y) (list_any is_one ys) none).1 there e

-- Pairs in range, of vertices that stand in the graph, are an order.
pub is_order : (g : Graph) (o : Options) (less : List Pair) → AreInRange o less → HaveVertices g less → IsOrder (size g) (pairs_of less)
is_order g o less in_range have = record {
  few = rw (length-map less pair_of) in_range.few;
  first = λ k x at. (both_at g less k x at have).0;
  second = λ k x at. (both_at g less k x at have).1;
  two = λ k x at. two_at less k x in_range.two at;
}

-- So they are for the problem of that pattern, which has no order yet.
pub order_of : (q : Problem) (g h : Graph) (o : Options) (less : List Pair) → q ≡ problem_of g h o [] → (pairs : List (ℕ × ℕ)) → pairs ≡ pairs_of less
    → AreInRange o less → HaveVertices g less → IsOrder (size q.pattern) pairs
order_of q g h o less is pairs same in_range have =
    subst (λ (p : Problem). IsOrder (size p.pattern) pairs) (sym is)
    (subst (λ (xs : List (ℕ × ℕ)). IsOrder (size g) xs) (sym same) (is_order g o less in_range have))

-- One pair more that names two vertices of the graph.
pub next_pair : (g : Graph) (less : List Pair) (xs more : List (ℕ × ℕ)) (i : ℕ) (d : Pair) → i < length less → xs ≡ pairs_of (take i less)
    → HaveVertices g (take i less) → HasBoth g (get_or less i d) → more ≡ xs ++ pair_of (get_or less i d) ∷ []
    → (more ≡ pairs_of (take (i + 1) less)) × HaveVertices g (take (i + 1) less)
next_pair g less xs more i d below before have both is =
    let next = take_more less i d below in (
      is ∙ ap (λ ys. ys ++ pair_of (get_or less i d) ∷ []) before ∙ sym (map-append pair_of (take i less) (get_or less i d ∷ [])) ∙ ap pairs_of (sym next),
      subst (λ (ys : List Pair). HaveVertices g ys) (sym next) (All-push (HasBoth g) (take i less) (get_or less i d) have both),
    )
