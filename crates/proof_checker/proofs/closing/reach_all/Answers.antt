use Rattle.std.proofs.Common.{arith, refl}
use Rattle.proof_checker.proofs.Passing.{reach_more}
use Rattle.proof_checker.proofs.closing.reach_all.Goals as goal

pub loop-i-preserved : goal.loop-i-preserved
loop-i-preserved c =
    let m = c.max-most.ensures in
    let n = c.loop-i.invariant.inside in
    let s = c.loop-i.invariant.small in
    let k = c.reach.ensures.small in
    record {
      reach = reach_more c.loop-i.most c.max-most.result c.reach.result c.args.constraints.now c.loop-i.i c.index-constraints-i.result c.index-constraints-i.result.terms c.loop-i-test.true n c.index-constraints-i.is refl c.reach.ensures.reaches (omega arith) (omega arith) c.loop-i.invariant.reach;
      small = omega arith;
      inside = omega arith;
    }
