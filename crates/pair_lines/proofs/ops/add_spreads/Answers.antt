use Rattle.std.proofs.Common.{ℕ, arith}
use Rattle.graph_theory.specs.Graph.{size}
use Rattle.graph_theory.specs.Neighbours.{is_neighbour}
use Rattle.log_theory.specs.declared.step.Op.TheVariants.{Push}
use Rattle.pair_lines.specs.Choices.{spread_ref}
use Rattle.pair_lines.proofs.Walking.{adds_none, adds_next}
use Rattle.pair_lines.proofs.ops.add_spreads.Goals as goal

pub loop-w-init : goal.loop-w-init
loop-w-init c = record {
  added = adds_none (is_neighbour c.args.known.now.target c.args.pair.t) (λ (w : ℕ). Push (spread_ref c.args.known.now c.args.spreads.now c.args.sharing c.args.pair.p c.args.pair.r w)) (size c.args.known.now.target) c.next_near-w.result c.args.ops.now.items c.next_near-w.ensures;
  within = c.next_near-w.ensures.high;
  member = c.next_near-w.ensures.passes;
}

pub loop-w-preserved : goal.loop-w-preserved
loop-w-preserved c = record {
  added = adds_next (is_neighbour c.args.known.now.target c.args.pair.t) (λ (w : ℕ). Push (spread_ref c.args.known.now c.args.spreads.now c.args.sharing c.args.pair.p c.args.pair.r w)) (size c.args.known.now.target) c.loop-w.w c.next_near-w-in-loop-w.result c.args.ops.now.items c.loop-w.ops.items c.add_spread.new.ops.items
      (c.loop-w.invariant.member (omega (arith, c.loop-w-test.true, c.targets.ensures.size))) c.next_near-w-in-loop-w.ensures c.loop-w.invariant.added c.in_ok-add_spread.ensures;
  within = c.next_near-w-in-loop-w.ensures.high;
  member = c.next_near-w-in-loop-w.ensures.passes;
}
