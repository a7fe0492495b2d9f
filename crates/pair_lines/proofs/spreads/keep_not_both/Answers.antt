use Rattle.std.proofs.Common.{refl, sym, Ok, arith}
use Rattle.std.proofs.lemmas.Result.{err_from_is_err_and}
use Rattle.log_growth.proofs.Going.{goes_stay}
use Rattle.pair_lines.specs.Claims.{AreSpreads, IsNotBoth}
use Rattle.pair_lines.proofs.Spreading.{not_both_beside, not_both_refused, not_both_added}
use Rattle.pair_lines.proofs.Failing.{if_ok_failed}
use Rattle.journals.proofs.Rests.{rest_same}
use Rattle.pair_lines.proofs.spreads.keep_not_both.Goals as goal

pub returns-in-Some-clause-goes : goal.returns-in-Some-clause-goes
returns-in-Some-clause-goes g c = λ f frame.
    goes_stay f (g.K.Keeper.kept c.args.keeper.now) (g.K.Keeper.kept c.args.keeper.now) (AreSpreads f c.args.known.now c.args.spreads.now) (IsNotBoth f c.args.known.now c.args.m c.args.n c.args.w c.args.spreads.now (Ok c.in-Some.name)) refl
    (λ forms h. (h, h.apart c.args.m c.args.n c.args.w c.in-Some.name (let o = c.requires.order in let l = c.requires.n_in in omega (arith, o, l)) c.requires.n_in c.requires.w_in (sym c.in-Some.ensures.name)))

pub returns-in_err-name-clause-goes : goal.returns-in_err-name-clause-goes
returns-in_err-name-clause-goes g c = λ f frame.
    let err = err_from_is_err_and c.from_residual.result c.from_residual.ensures.1 in
    rw err.1 (not_both_refused f c.args.known.now c.args.spreads.now c.args.spreads.now c.args.m c.args.n c.args.w c.make_not_both.result err.0 (g.K.Keeper.kept c.args.keeper.now) (g.K.Keeper.kept c.make_not_both.new.keeper) refl
    (not_both_beside f c.args.known.now c.args.spreads.now c.args.m c.args.n c.args.w c.make_not_both.result (g.K.Keeper.kept c.args.keeper.now) (g.K.Keeper.kept c.make_not_both.new.keeper) (c.make_not_both.ensures.goes f frame)))

pub returns-in_err-add_not_both-clause-goes : goal.returns-in_err-add_not_both-clause-goes
returns-in_err-add_not_both-clause-goes g c = λ f frame.
    let err = err_from_is_err_and c.from_residual-in_err-add_not_both.result c.from_residual-in_err-add_not_both.ensures.1 in
    rw err.1 (not_both_refused f c.args.known.now c.args.spreads.now c.add_not_both.new.self c.args.m c.args.n c.args.w c.make_not_both.result err.0 (g.K.Keeper.kept c.args.keeper.now) (g.K.Keeper.kept c.make_not_both.new.keeper) c.in_err-add_not_both.ensures.refused
    (not_both_beside f c.args.known.now c.args.spreads.now c.args.m c.args.n c.args.w c.make_not_both.result (g.K.Keeper.kept c.args.keeper.now) (g.K.Keeper.kept c.make_not_both.new.keeper) (c.make_not_both.ensures.goes f frame)))

pub returns-clause-goes : goal.returns-clause-goes
returns-clause-goes g c = λ f frame.
    not_both_added f c.args.known.now c.in_limits.ensures c.args.spreads.now c.add_not_both.new.self c.args.m c.args.n c.args.w c.in_ok-name.name (g.K.Keeper.kept c.args.keeper.now) (g.K.Keeper.kept c.make_not_both.new.keeper)
    (let o = c.requires.order in let l = c.requires.n_in in omega (arith, o, l)) c.requires.n_in c.requires.w_in c.in_ok-add_not_both.ensures.added
    (not_both_beside f c.args.known.now c.args.spreads.now c.args.m c.args.n c.args.w (Ok c.in_ok-name.name) (g.K.Keeper.kept c.args.keeper.now) (g.K.Keeper.kept c.make_not_both.new.keeper) (c.in_ok-name.ensures.goes f frame))

pub returns-in-Some-clause-rest : goal.returns-in-Some-clause-rest
returns-in-Some-clause-rest g c = rest_same

pub returns-in-Some-clause-stay : goal.returns-in-Some-clause-stay
returns-in-Some-clause-stay g c = λ k h. h

pub returns-in-Some-clause-name : goal.returns-in-Some-clause-name
returns-in-Some-clause-name g c = c.in-Some.ensures.fits

pub returns-in_err-name-clause-rest : goal.returns-in_err-name-clause-rest
returns-in_err-name-clause-rest g c = c.make_not_both.ensures.rest

pub returns-in_err-name-clause-stay : goal.returns-in_err-name-clause-stay
returns-in_err-name-clause-stay g c = λ k h. h

pub returns-in_err-name-clause-name : goal.returns-in_err-name-clause-name
returns-in_err-name-clause-name g c = if_ok_failed c.from_residual.result _ _ c.from_residual.ensures.1

pub returns-in_err-add_not_both-clause-rest : goal.returns-in_err-add_not_both-clause-rest
returns-in_err-add_not_both-clause-rest g c = c.make_not_both.ensures.rest

pub returns-in_err-add_not_both-clause-name : goal.returns-in_err-add_not_both-clause-name
returns-in_err-add_not_both-clause-name g c = if_ok_failed c.from_residual-in_err-add_not_both.result _ _ c.from_residual-in_err-add_not_both.ensures.1

pub returns-clause-rest : goal.returns-clause-rest
returns-clause-rest g c = c.make_not_both.ensures.rest

pub returns-clause-name : goal.returns-clause-name
returns-clause-name g c = c.in_ok-name.ensures.name

pub add_not_both-requires-clause-name : goal.add_not_both-requires-clause-name
add_not_both-requires-clause-name g c = c.in_ok-name.ensures.name

pub make_not_both-requires-clause-order : goal.make_not_both-requires-clause-order
make_not_both-requires-clause-order g c = c.requires.order

pub make_not_both-requires-clause-n_in : goal.make_not_both-requires-clause-n_in
make_not_both-requires-clause-n_in g c = c.requires.n_in

pub make_not_both-requires-clause-w_in : goal.make_not_both-requires-clause-w_in
make_not_both-requires-clause-w_in g c = c.requires.w_in
