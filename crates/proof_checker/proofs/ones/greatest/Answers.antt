use Rattle.std.proofs.Common.{ℕ, List, arith, sym, subst}
use Rattle.proof_checker.specs.Ones.{AreUpTo}
use Rattle.pb_propagation.proofs.Backwards.{from_place}
use Rattle.proof_checker.proofs.Claims.{up_to_wider}
use Rattle.proof_checker.proofs.ones.greatest.Goals as goal

pub loop-i-preserved : goal.loop-i-preserved
loop-i-preserved c =
    let m = c.max-most.ensures in
    let n = c.loop-i.invariant.inside in
    record {
      above = subst (λ (vs : List ℕ). AreUpTo c.max-most.result vs) (sym (from_place c.args.ones.now c.loop-i.i 0 c.loop-i-test.true n)) (omega arith, up_to_wider c.loop-i.most c.max-most.result _ (omega arith) c.loop-i.invariant.above);
      inside = omega arith;
    }
