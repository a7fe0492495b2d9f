use Rattle.std.proofs.lemmas.Result.{err_from_is_err_and}
use Rattle.pair_lines.proofs.Following.{lines_join, lines_stop}
use Rattle.pair_lines.proofs.row.line_by.Goals as goal

pub returns-in_err-keep_spreads-clause-goes : goal.returns-in_err-keep_spreads-clause-goes
returns-in_err-keep_spreads-clause-goes g c = λ f frame.
    let e = err_from_is_err_and c.from_residual.result c.from_residual.ensures.1 in
    rw e.1 (lines_stop c.args.known.now c.args.pair.p c.args.pair.t c.args.pair.r f (g.K.Keeper.owner c.args.keeper.now) (g.K.Keeper.kept c.args.keeper.now) (g.K.Keeper.kept c.keep_spreads.new.keeper) c.args.spreads.now c.keep_spreads.new.spreads
    e.0 frame c.keep_spreads.ensures.goes)

pub returns-clause-goes : goal.returns-clause-goes
returns-clause-goes g c = λ f frame.
    lines_join c.args.known.now c.args.pair.p c.args.pair.t c.args.pair.r f (g.K.Keeper.owner c.args.keeper.now) (g.K.Keeper.owner c.keep_spreads.new.keeper) (g.K.Keeper.kept c.args.keeper.now) (g.K.Keeper.kept c.keep_spreads.new.keeper)
    (g.K.Keeper.kept c.keep_row.new.keeper) c.args.spreads.now c.keep_spreads.new.spreads c.keep_row.result c.keep_spreads.ensures.rest.owner frame c.keep_spreads.ensures.goes c.keep_row.ensures.goes
