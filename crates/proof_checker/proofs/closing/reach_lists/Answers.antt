use Rattle.std.proofs.Common.{arith}
use Rattle.proof_checker.proofs.Passing.{lists_reach_more}
use Rattle.proof_checker.proofs.closing.reach_lists.Goals as goal

pub loop-i-preserved : goal.loop-i-preserved
loop-i-preserved c =
    let m = c.max-most.ensures in
    let n = c.loop-i.invariant.inside in
    let s = c.loop-i.invariant.small in
    let k = c.reach_slots.ensures.small in
    record {
      reach = lists_reach_more (λ v. v.items) c.args.lists.now c.loop-i.i c.index-lists-i.result c.deref.result.now c.loop-i.most c.max-most.result c.reach_slots.result c.loop-i-test.true n c.index-lists-i.is c.deref.ensures.value c.reach_slots.ensures.reach (omega arith) (omega arith) c.loop-i.invariant.reach;
      small = omega arith;
      inside = omega arith;
    }
