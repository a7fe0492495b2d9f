use Rattle.std.proofs.Common.{ℕ, arith}
use Rattle.graph_theory.specs.Graph.{size}
use Rattle.log_theory.specs.declared.step.Op.TheVariants.{Push}
use Rattle.pair_line_theory.specs.Rows.{edge_line, is_shared}
use Rattle.pair_lines.proofs.Walking.{adds_none, adds_next}
use Rattle.pair_lines.proofs.ops.add_backs.Goals as goal

pub loop-m-init : goal.loop-m-init
loop-m-init c = record {
  added = adds_none (is_shared c.args.known.now.pattern c.args.p c.args.r) (λ (m : ℕ). Push (edge_line c.args.known.now m c.args.r c.args.w)) (size c.args.known.now.pattern) c.next_shared-m.result c.args.ops.now.items c.next_shared-m.ensures;
  within = c.next_shared-m.ensures.high;
  member = c.next_shared-m.ensures.passes;
}

pub loop-m-preserved : goal.loop-m-preserved
loop-m-preserved c = record {
  added = adds_next (is_shared c.args.known.now.pattern c.args.p c.args.r) (λ (m : ℕ). Push (edge_line c.args.known.now m c.args.r c.args.w)) (size c.args.known.now.pattern) c.loop-m.m c.next_shared-m-in-loop-m.result c.args.ops.now.items c.loop-m.ops.items c.add_edge.new.ops.items
      (c.loop-m.invariant.member (omega (arith, c.loop-m-test.true, c.vertices.ensures.size))) c.next_shared-m-in-loop-m.ensures c.loop-m.invariant.added c.in_ok-add_edge.ensures;
  within = c.next_shared-m-in-loop-m.ensures.high;
  member = c.next_shared-m-in-loop-m.ensures.passes;
}
