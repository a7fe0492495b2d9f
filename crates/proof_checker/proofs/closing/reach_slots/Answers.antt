use Rattle.std.proofs.Common.{arith, sym}
use Rattle.proof_checker.proofs.Passing.{slot_reach_more}
use Rattle.proof_checker.proofs.closing.reach_slots.Goals as goal

pub loop-i-preserved-in-Some : goal.loop-i-preserved-in-Some
loop-i-preserved-in-Some c =
    let m = c.max-most.ensures in
    let n = c.loop-i.invariant.inside in
    let s = c.loop-i.invariant.small in
    let k = c.reach.ensures.small in
    record {
      reach = slot_reach_more c.loop-i.most c.max-most.result c.args.slots.now c.loop-i.i c.index-slots-i.result c.in-Some.next.now c.reach.result c.loop-i-test.true n c.index-slots-i.is (sym c.in-Some.ensures) c.reach.ensures.reaches (omega arith) (omega arith) c.loop-i.invariant.reach;
      small = omega arith;
      inside = omega arith;
    }
