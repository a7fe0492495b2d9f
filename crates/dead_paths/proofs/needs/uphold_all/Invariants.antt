use Rattle.std.proofs.Common.{ℕ, ◌<◌, List}
use Rattle.graph_theory.specs.Graph.{size}
use Rattle.nogood_watch.specs.Nogoods.{literal}
use Rattle.dead_theory.specs.Changes.{IsUpheld}
use Rattle.dead_theory.specs.Walks.{IsWithin}
use Rattle.dead_paths.specs.Choosing.{values_of, AreAt}
use Rattle.dead_paths.proofs.needs.uphold_all.Given as goal

abbrev pub invariant-loop-x : goal.invariant-loop-x
invariant-loop-x l = record {
  upheld : (path : List (ℕ × ℕ)) → AreAt l.walk.at.now path → (k : ℕ) → k < l.x-index → IsUpheld path l.but (values_of (size l.walk.q.now.target) l.marked l.needed) (literal l.pairs k);
  more : IsWithin (values_of (size l.walk.q.now.target) l.initial.marked l.initial.needed) (values_of (size l.walk.q.now.target) l.marked l.needed);
}
