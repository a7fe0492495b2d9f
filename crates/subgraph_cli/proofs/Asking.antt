-- The problem that two files ask, with the pairs that the words name.

use Rattle.std.specs.Prelude.{◌≡◌, ◌≢◌, ℕ, ◌+◌, ◌<◌, ◌≤◌, List, [], ◌∷◌, ◌++◌, length, take, Option, refl}
use Rattle.std.proofs.Common.{get_or, sym, ap, subst, ◌∙◌}
use Rattle.std.proofs.lemmas.List.{take_more}
use Rattle.std.proofs.lemmas.List.Elements.{All-push}
use Rattle.graph_theory.specs.Graph.{Graph, size}
use Rattle.graph_theory.specs.Embedding.{Problem}
use Rattle.graph_rows.specs.Orders.{IsOrder}
use Rattle.command_line.specs.Pairs.{AreNamed}
use Rattle.command_line.specs.Questions.{Question}
use Rattle.subgraph_cli.specs.Questions.{HoldsGraph, HasBoth, HaveVertices, Asks, problem_of}
use Rattle.subgraph_cli.proofs.OneProblem.{all_at}

-- Pairs that words may name, of vertices that stand in the graph, are an order.
pub is_order : (g : Graph) (less : List (ℕ × ℕ)) → AreNamed less → HaveVertices g less → IsOrder (size g) less
is_order g less named have = record {
  few = named.few;
  first = λ k x at. (all_at (HasBoth g) less k x at have).0;
  second = λ k x at. (all_at (HasBoth g) less k x at have).1;
  two = λ k x at. all_at (λ y. y.0 ≢ y.1) less k x at named.two;
}

-- So they are for the problem of that pattern, which has no order yet.
pub order_of : (q r : Problem) (ask : Question) → q ≡ r → (pairs : List (ℕ × ℕ)) → pairs ≡ ask.less → AreNamed ask.less → HaveVertices r.pattern ask.less
    → IsOrder (size q.pattern) pairs
order_of q r ask is pairs same named have =
    subst (λ (p : Problem). IsOrder (size p.pattern) pairs) (sym is)
    (subst (λ (xs : List (ℕ × ℕ)). IsOrder (size r.pattern) xs) (sym same) (is_order r.pattern ask.less named have))

-- One pair more that names two vertices of the graph.
pub next_pair : (g : Graph) (less xs more : List (ℕ × ℕ)) (i : ℕ) (d : ℕ × ℕ) → i < length less → xs ≡ take i less → HaveVertices g (take i less)
    → HasBoth g (get_or less i d) → more ≡ xs ++ get_or less i d ∷ [] → (more ≡ take (i + 1) less) × HaveVertices g (take (i + 1) less)
next_pair g less xs more i d below before have both is =
    let next = take_more less i d below in (
      is ∙ ap (λ ys. ys ++ get_or less i d ∷ []) before ∙ sym next,
      subst (λ (ys : List (ℕ × ℕ)). HaveVertices g ys) (sym next) (All-push (HasBoth g) (take i less) (get_or less i d) have both),
    )

-- The problem of two graphs, where their files hold them and the pairs are good.
pub asks_of : (pattern target : Option (List ℕ)) (g h : Graph) (q : Problem) (ask : Question) → q ≡ problem_of g h ask → HoldsGraph pattern ask.format 1024 g
    → HoldsGraph target ask.format 8192 h → length ask.less ≤ 64 → HaveVertices g ask.less → Asks pattern target ask q
asks_of pattern target g h q ask is pattern_is target_is few have = subst (λ (r : Problem). Asks pattern target ask r) (sym is) record {
  pattern_is = pattern_is;
  target_is = target_is;
  induced_is = refl;
  maps_are = refl;
  less_is = refl;
  few = few;
  vertices = have;
}
