use Rattle.log_growth.proofs.Going.{goes_same}
use Rattle.pair_lines.specs.Claims.{AreSpreads}
use Rattle.pair_lines.proofs.row.keep_spreads.Goals as goal

pub returns-in-Nothing-clause-goes : goal.returns-in-Nothing-clause-goes
returns-in-Nothing-clause-goes g c = λ f frame. goes_same f (g.K.Keeper.kept c.args.keeper.now) (AreSpreads f c.args.known.now c.args.spreads.now)

pub returns-in-One-clause-goes : goal.returns-in-One-clause-goes
returns-in-One-clause-goes g c = λ f frame. goes_same f (g.K.Keeper.kept c.args.keeper.now) (AreSpreads f c.args.known.now c.args.spreads.now)
