use Rattle.propagation.proofs.Holding.{holds_all, holds_same}
use Rattle.propagation.proofs.nogoods.Nogoods.take_rows.Goals as goal

pub returns-clause-nogoods : goal.returns-clause-nogoods
returns-clause-nogoods c = c.thin.ensures.nogoods _ c.loop-k.invariant.nogoods

pub returns-clause-holds : goal.returns-clause-holds
returns-clause-holds c =
    holds_same c.args.rows.now _ _ c.thin.ensures.same (holds_all c.args.rows.now c.loop-k.k _ c.loop-k-test.false c.loop-k.invariant.within c.loop-k.invariant.holds)
