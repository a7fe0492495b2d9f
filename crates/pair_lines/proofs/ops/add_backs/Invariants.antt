use Rattle.std.proofs.Common.{◌≡◌, ◌<◌, ◌≤◌, ◌-◌, ◌++◌, true}
use Rattle.graph_theory.specs.Graph.{size}
use Rattle.log_theory.specs.declared.step.Op.TheVariants.{Push}
use Rattle.pair_line_theory.specs.Operations.{adds_where}
use Rattle.pair_line_theory.specs.Rows.{edge_line, is_shared}
use Rattle.pair_lines.proofs.ops.add_backs.Given as goal

abbrev pub invariant-loop-m : goal.invariant-loop-m
invariant-loop-m l = record {
  added : l.ops.items ≡ l.fn.ops.items ++ adds_where (is_shared l.known.pattern l.p l.r) (λ m. Push (edge_line l.known m l.r l.w)) l.m;
  within : l.m ≤ size l.known.pattern;
  member : l.m < size l.known.pattern → is_shared l.known.pattern l.p l.r l.m ≡ true;
}

abbrev pub decreases-loop-m : goal.decreases-loop-m
decreases-loop-m l = size l.known.pattern - l.m
