use Rattle.std.proofs.Common.{arith, sym}
use Rattle.nogood_watch.proofs.Covering.{has_at, has_none}
use Rattle.nogood_watch.specs.Nogoods.{literal}
use Rattle.nogood_watch.proofs.Visits.{pair_is}
use Rattle.nogood_watch.proofs.thinning.is_among.Goals as goal

pub returns-then-literals-k-2 : goal.returns-then-literals-k-2
returns-then-literals-k-2 c =
    sym (has_at c.args.literals.now c.loop-k.k c.args.literal c.loop-k-test.true (pair_is (literal c.args.literals.now c.loop-k.k) c.args.literal c.if-literals-k.true c.if-literals-k-2.true))

pub returns : goal.returns
returns c = sym (has_none c.args.literals.now c.args.literal (λ j h. c.loop-k.invariant j (omega (arith, h, c.loop-k-test.false))))
