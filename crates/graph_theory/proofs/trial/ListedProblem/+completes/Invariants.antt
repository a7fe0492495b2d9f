use Rattle.std.proofs.Common.{◌≡◌, ℕ, ◌-◌, ◌<◌, ◌++◌, ◌∷◌, [], length}
use Rattle.graph_theory.specs.Graph.{size}
use Rattle.graph_theory.specs.PlainSteps.{Completes}
use Rattle.graph_theory.proofs.trial.ListedProblem.+completes.Given as goal

abbrev pub decreases-completes : goal.decreases-completes
decreases-completes l = size l.self.now.pattern - length l.map.now.items

abbrev pub invariant-loop-t : goal.invariant-loop-t
invariant-loop-t l = record {
  same : l.map.items ≡ l.fn.map.items;
  none : (u : ℕ) → u < l.t → Completes l.self l.path (l.fn.map.items ++ u ∷ []) → ⊥;
}
