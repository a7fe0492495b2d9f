use Rattle.std.proofs.lemmas.Result.{err_from_is_err_and}
use Rattle.std.proofs.Common.{Ok}
use Rattle.log_growth.proofs.Going.{goes_as}
use Rattle.pair_lines.specs.Claims.{AreSpreads, IsNotBoth, HasSpreadOps}
use Rattle.pair_lines.proofs.Spreading.{two_may, two_are_ops}
use Rattle.pair_lines.proofs.spreads.ops_of_two.Goals as goal

pub returns-in_err-clause-clause-goes : goal.returns-in_err-clause-clause-goes
returns-in_err-clause-clause-goes g c = λ f frame.
    rw (err_from_is_err_and c.from_residual.result c.from_residual.ensures.1).1
    (goes_as f (g.K.Keeper.kept c.args.keeper.now) (g.K.Keeper.kept c.keep_not_both.new.keeper) (AreSpreads f c.args.known.now c.args.spreads.now)
    (IsNotBoth f c.args.known.now c.args.two.0 c.args.two.1 c.args.w c.keep_not_both.new.spreads c.keep_not_both.result) (AreSpreads f c.args.known.now c.args.spreads.now)
    (λ forms. AreSpreads f c.args.known.now c.keep_not_both.new.spreads forms × Unit {0}) (λ forms h. h) (λ forms k. (k.0, tt)) (c.keep_not_both.ensures.goes f frame))

pub returns-clause-goes : goal.returns-clause-goes
returns-clause-goes g c = λ f frame.
    goes_as f (g.K.Keeper.kept c.args.keeper.now) (g.K.Keeper.kept c.keep_not_both.new.keeper) (AreSpreads f c.args.known.now c.args.spreads.now)
    (IsNotBoth f c.args.known.now c.args.two.0 c.args.two.1 c.args.w c.keep_not_both.new.spreads (Ok c.in_ok-clause.clause)) (AreSpreads f c.args.known.now c.args.spreads.now)
    (HasSpreadOps f c.args.known.now c.args.pair.p c.args.pair.r c.args.w c.keep_not_both.new.spreads c.two_ops.result) (λ forms h. h)
    (λ forms k. (
      k.0,
      two_may c.args.known.now c.in_limits.ensures c.args.pair c.requires.pair c.args.w c.requires.w_in (g.K.Keeper.owner c.args.keeper.now) f frame forms c.args.two.0 c.args.two.1 c.in_ok-clause.clause c.two_ops.result c.requires.two c.in_ok-clause.ensures.name k.1 c.two_ops.ensures,
    ))
    (c.in_ok-clause.ensures.goes f frame)

pub returns-clause-ops : goal.returns-clause-ops
returns-clause-ops g c = two_are_ops c.args.known.now c.in_limits.ensures c.args.pair c.args.w c.in_ok-clause.clause c.two_ops.result c.requires.pair c.requires.w_in c.in_ok-clause.ensures.name c.two_ops.ensures
