use Rattle.std.proofs.Common.{◌≡◌, ◌++◌, not}
use Rattle.graph_theory.specs.Graph.{size}
use Rattle.log_theory.specs.declared.step.Op.TheVariants.{Axiom}
use Rattle.pair_line_theory.specs.Operations.{adds_where}
use Rattle.pair_line_theory.specs.Rows.{is_shared, there}
use Rattle.pair_lines.specs.Choices.{IsNext}
use Rattle.pair_lines.proofs.ops.add_others.Given as goal

abbrev pub invariant-loop-v : goal.invariant-loop-v
invariant-loop-v l = record {
  added : l.ops.items ≡ l.fn.ops.items ++ adds_where (λ v. not (is_shared l.known.pattern l.p l.r v)) (λ v. Axiom (there l.known l.w v)) l.v;
  next : IsNext (is_shared l.known.pattern l.p l.r) l.v (size l.known.pattern) l.shared;
}
