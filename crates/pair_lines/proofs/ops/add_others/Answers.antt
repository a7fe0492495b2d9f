use Rattle.std.proofs.Common.{◌≡◌, ℕ, ◌<◌, true, arith, sym, subst}
use Rattle.graph_theory.specs.Graph.{size}
use Rattle.log_theory.specs.declared.step.Op.TheVariants.{Axiom}
use Rattle.pair_line_theory.specs.Rows.{is_shared, there}
use Rattle.pair_lines.proofs.Walking.{adds_other, adds_no_other, next_later}
use Rattle.pair_lines.proofs.ops.add_others.Goals as goal

pub loop-v-preserved : goal.loop-v-preserved
loop-v-preserved c =
    let before : c.loop-v.v < c.loop-v.shared = omega (arith, c.loop-v.invariant.next.low, c.if-v-shared.false) in
    record {
      added = adds_other (is_shared c.args.known.now.pattern c.args.p c.args.r) (λ v. Axiom (there c.args.known.now c.args.w v)) (size c.args.known.now.pattern) c.loop-v.v c.loop-v.shared c.args.ops.now.items c.loop-v.ops.items c.add_there.new.ops.items
          c.loop-v.invariant.next before c.loop-v.invariant.added c.in_ok-add_there.ensures;
      next = next_later _ _ _ _ c.loop-v.invariant.next before;
    }

pub loop-v-preserved-then-v-shared : goal.loop-v-preserved-then-v-shared
loop-v-preserved-then-v-shared c =
    let low : c.loop-v.v < size c.args.known.now.pattern = subst (λ (n : ℕ). c.loop-v.v < n) c.vertices-v-end.ensures.size c.loop-v-test.true in
    record {
      added = adds_no_other (is_shared c.args.known.now.pattern c.args.p c.args.r) (λ v. Axiom (there c.args.known.now c.args.w v)) c.loop-v.v c.args.ops.now.items c.loop-v.ops.items
          (subst (λ (v : ℕ). is_shared c.args.known.now.pattern c.args.p c.args.r v ≡ true) (sym c.if-v-shared.true) (c.loop-v.invariant.next.passes (subst (λ (v : ℕ). v < size c.args.known.now.pattern) c.if-v-shared.true low)))
          c.loop-v.invariant.added;
      next = c.next_shared-shared-then-v-shared.ensures;
    }
