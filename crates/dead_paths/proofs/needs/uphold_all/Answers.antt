use Rattle.std.proofs.Common.{◌<◌, ℕ, length, subst, arith}
use Rattle.graph_theory.specs.Graph.{size}
use Rattle.nogood_watch.specs.Nogoods.{literal}
use Rattle.dead_theory.specs.Changes.{IsUpheld}
use Rattle.dead_paths.specs.Choosing.{values_of}
use Rattle.dead_paths.proofs.HeldPairs.{literal_at, each_next, upheld_more}
use Rattle.dead_paths.proofs.Resting.{rows_again}
use Rattle.dead_paths.proofs.needs.uphold_all.Goals as goal

pub loop-x-init : goal.loop-x-init
loop-x-init c = record { upheld = λ path here k below. absurd (omega (arith, below)); more = λ r u is. is }

pub uphold-requires-clause-held : goal.uphold-requires-clause-held
uphold-requires-clause-held c =
    rows_again (size c.args.walk.now.q.now.target) c.args.marked.now c.loop-x.marked c.args.needed.now c.loop-x.needed (omega (arith, c.loop-x.auto.marked)) (omega (arith, c.loop-x.auto.needed)) c.requires.held

pub uphold-requires-clause-vertex : goal.uphold-requires-clause-vertex
uphold-requires-clause-vertex c =
    let h = c.requires.vertices c.loop-x.x-index c.loop-x-test.true in
    let below : (literal c.args.pairs.now c.loop-x.x-index).0 < length c.loop-x.marked = omega (arith, h, c.loop-x.auto.marked) in
    subst (λ (x : ℕ × ℕ). x.0 < length c.loop-x.marked) (literal_at c.args.pairs.now c.loop-x.x-index (0, 0) c.loop-x-test.true) below

pub uphold-requires-clause-value : goal.uphold-requires-clause-value
uphold-requires-clause-value c =
    subst (λ (x : ℕ × ℕ). x.1 < size c.args.walk.now.q.now.target) (literal_at c.args.pairs.now c.loop-x.x-index (0, 0) c.loop-x-test.true) (c.requires.values c.loop-x.x-index c.loop-x-test.true)

pub loop-x-preserved : goal.loop-x-preserved
loop-x-preserved c = record {
  upheld = λ path here.
      each_next c.args.pairs.now (IsUpheld path c.args.but (values_of (size c.args.walk.now.q.now.target) c.uphold.new.marked c.uphold.new.needed)) c.loop-x.x-index _ (literal_at c.args.pairs.now c.loop-x.x-index _ c.loop-x-test.true) (c.uphold.ensures.upheld path here)
      (λ k below. upheld_more path c.args.but (values_of (size c.args.walk.now.q.now.target) c.loop-x.marked c.loop-x.needed) (values_of (size c.args.walk.now.q.now.target) c.uphold.new.marked c.uphold.new.needed) (literal c.args.pairs.now k) c.uphold.ensures.more (c.loop-x.invariant.upheld path here k below));
  more = λ r u is. c.uphold.ensures.more r u (c.loop-x.invariant.more r u is);
}

pub returns-clause-upheld : goal.returns-clause-upheld
returns-clause-upheld c = λ path here k below. c.loop-x.invariant.upheld path here k (omega (arith, below, c.loop-x-test.false))
