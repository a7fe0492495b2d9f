use Rattle.std.proofs.Common.{arith, refl}
use Rattle.propagation.proofs.Taking.{left_first, left_more, left_all, stands_at}
use Rattle.propagation.proofs.removal.take_values.Goals as goal

pub loop-u-init : goal.loop-u-init
loop-u-init g c = left_first _ _ _ _ c.args.near.now c.remove-was_there.ensures.keeps

pub remove-was_near-requires-clause-t_in : goal.remove-was_near-requires-clause-t_in
remove-was_near-requires-clause-t_in g c =
    omega (arith, c.requires.near_in _ (stands_at c.args.near.now c.loop-u.u-index c.loop-u-test.true), c.loop-u.invariant.shrinks.values_same)

pub loop-u-preserved : goal.loop-u-preserved
loop-u-preserved g c =
    left_more _ _ _ _ _ c.loop-u.u-index _ c.args.near.now c.loop-u.invariant c.remove-was_near.ensures.keeps c.loop-u-test.true refl

pub returns : goal.returns
returns g c = left_all _ _ _ _ c.loop-u.u-index c.args.near.now c.loop-u.invariant c.loop-u-test.false
