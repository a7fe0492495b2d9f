use Rattle.std.proofs.Common.{◌≡◌, ◌<◌, ◌≤◌, ◌-◌, ◌++◌, true}
use Rattle.graph_theory.specs.Graph.{size}
use Rattle.graph_theory.specs.Neighbours.{is_neighbour}
use Rattle.log_theory.specs.declared.step.Op.TheVariants.{Push}
use Rattle.pair_line_theory.specs.Operations.{adds_where}
use Rattle.pair_lines.specs.Choices.{spread_ref}
use Rattle.pair_lines.proofs.ops.add_spreads.Given as goal

abbrev pub invariant-loop-w : goal.invariant-loop-w
invariant-loop-w l = record {
  added : l.ops.items ≡ l.fn.ops.items ++ adds_where (is_neighbour l.known.target l.pair.t) (λ w. Push (spread_ref l.known l.spreads l.sharing l.pair.p l.pair.r w)) l.w;
  within : l.w ≤ size l.known.target;
  member : l.w < size l.known.target → is_neighbour l.known.target l.pair.t l.w ≡ true;
}

abbrev pub decreases-loop-w : goal.decreases-loop-w
decreases-loop-w l = size l.known.target - l.w
