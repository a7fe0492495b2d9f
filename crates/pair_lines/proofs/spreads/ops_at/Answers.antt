use Rattle.std.proofs.Common.{refl}
use Rattle.log_growth.proofs.Going.{goes_stay}
use Rattle.pair_lines.specs.Claims.{AreSpreads, HasSpreadOps}
use Rattle.pair_lines.proofs.Spreading.{many_may, many_ops}
use Rattle.pair_lines.proofs.spreads.ops_at.Goals as goal

pub returns-in-None-clause-goes : goal.returns-in-None-clause-goes
returns-in-None-clause-goes g c = λ f frame.
    goes_stay f (g.K.Keeper.kept c.args.keeper.now) (g.K.Keeper.kept c.args.keeper.now) (AreSpreads f c.args.known.now c.args.spreads.now) (HasSpreadOps f c.args.known.now c.args.pair.p c.args.pair.r c.args.w c.args.spreads.now c.spread_ops.result) refl
    (λ forms h. (h, many_may c.args.known.now c.in_limits.ensures c.args.pair c.requires.pair c.args.w c.requires.w_in (g.K.Keeper.owner c.args.keeper.now) f frame forms c.spread_ops.result c.spread_ops.ensures))

pub returns-in-None-clause-ops : goal.returns-in-None-clause-ops
returns-in-None-clause-ops g c = many_ops c.args.known.now c.in_limits.ensures c.args.pair c.args.w c.spread_ops.result c.requires.pair c.requires.w_in c.spread_ops.ensures
