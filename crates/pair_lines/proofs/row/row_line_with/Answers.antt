use Rattle.std.proofs.Common.{refl, subst, sym}
use Rattle.std.proofs.lemmas.Result.{err_from_is_err_and}
use Rattle.log_growth.proofs.Going.{goes_stay}
use Rattle.pair_lines.specs.declared.sharing.Asked.{Asked}
use Rattle.pair_lines.specs.Choices.{IsAsked}
use Rattle.pair_lines.specs.Claims.{AreTurned}
use Rattle.pair_lines.proofs.Turning.{row_out, row_back}
use Rattle.pair_lines.proofs.Failing.{if_ok_failed}
use Rattle.pair_line_theory.specs.Laws.{IsPlace}
use Rattle.graph_theory.specs.Embedding.{Problem}
use Rattle.journals.proofs.Rests.{rest_same}
use Rattle.pair_lines.proofs.row.row_line_with.Goals as goal

pub returns-in_err-shared-clause-goes : goal.returns-in_err-shared-clause-goes
returns-in_err-shared-clause-goes g c = λ w frame.
    rw (err_from_is_err_and c.from_residual.result c.from_residual.ensures.1).1
    (goes_stay w (g.K.Keeper.kept c.args.keeper.now) (g.K.Keeper.kept c.args.keeper.now) (AreTurned w c.args.q.now c.args.spreads.now) (λ forms. AreTurned w c.args.q.now c.args.spreads.now forms × Unit {0}) refl (λ forms h. (h, tt)))

pub returns-in-Out-clause-goes : goal.returns-in-Out-clause-goes
returns-in-Out-clause-goes g c = λ w frame.
    row_out w c.args.q.now c.new-out.result c.args.pair.p c.args.pair.t c.args.pair.r (g.K.Keeper.owner c.args.keeper.now) (g.K.Keeper.kept c.args.keeper.now) (g.K.Keeper.kept c.line_by.new.keeper) c.args.spreads.now c.line_by.new.spreads c.line_by.result
    c.new-out.ensures c.requires.placed frame
    (subst (λ (a : Asked). IsAsked c.args.q.now c.args.pair.p c.args.pair.r a) c.in-Out.is c.in_ok-shared.ensures).1 c.line_by.ensures.goes

pub returns-in-In-clause-goes : goal.returns-in-In-clause-goes
returns-in-In-clause-goes g c = λ w frame.
    row_back w c.args.q.now c.new-back.result c.args.pair.p c.args.pair.t c.args.pair.r (g.K.Keeper.owner c.args.keeper.now) (g.K.Keeper.kept c.args.keeper.now) (g.K.Keeper.kept c.line_by-in-In.new.keeper) c.args.spreads.now c.line_by-in-In.new.spreads
    c.line_by-in-In.result c.new-back.ensures c.requires.placed frame
    (subst (λ (a : Asked). IsAsked c.args.q.now c.args.pair.p c.args.pair.r a) c.in-In.is c.in_ok-shared.ensures).1 c.line_by-in-In.ensures.goes

pub returns-in_err-shared-clause-rest : goal.returns-in_err-shared-clause-rest
returns-in_err-shared-clause-rest g c = rest_same

pub returns-in_err-shared-clause-name : goal.returns-in_err-shared-clause-name
returns-in_err-shared-clause-name g c = if_ok_failed c.from_residual.result _ _ c.from_residual.ensures.1

pub asked_of-requires-clause-others : goal.asked_of-requires-clause-others
asked_of-requires-clause-others g c = c.requires.placed.others

pub returns-in-Out-clause-rest : goal.returns-in-Out-clause-rest
returns-in-Out-clause-rest g c = c.line_by.ensures.rest

pub returns-in-Out-clause-name : goal.returns-in-Out-clause-name
returns-in-Out-clause-name g c = c.line_by.ensures.name

pub returns-in-In-clause-rest : goal.returns-in-In-clause-rest
returns-in-In-clause-rest g c = c.line_by-in-In.ensures.rest

pub returns-in-In-clause-name : goal.returns-in-In-clause-name
returns-in-In-clause-name g c = c.line_by-in-In.ensures.name

pub asked_of-requires-clause-p_in : goal.asked_of-requires-clause-p_in
asked_of-requires-clause-p_in g c = c.requires.placed.first

pub returns-in-Both-clause-rest : goal.returns-in-Both-clause-rest
returns-in-Both-clause-rest g c = c.lines_both.ensures.rest

pub returns-in-Both-clause-name : goal.returns-in-Both-clause-name
returns-in-Both-clause-name g c = c.lines_both.ensures.name

pub returns-in-Both-clause-goes : goal.returns-in-Both-clause-goes
returns-in-Both-clause-goes g c = c.lines_both.ensures.goes

pub asked_of-requires-clause-out : goal.asked_of-requires-clause-out
asked_of-requires-clause-out g c = c.new-out.ensures

pub asked_of-requires-clause-back : goal.asked_of-requires-clause-back
asked_of-requires-clause-back g c = c.new-back.ensures

pub asked_of-requires-clause-r_in : goal.asked_of-requires-clause-r_in
asked_of-requires-clause-r_in g c = c.requires.placed.second

pub lines_both-requires-clause-encoding : goal.lines_both-requires-clause-encoding
lines_both-requires-clause-encoding g c = c.requires.encoding

pub lines_both-requires-clause-placed : goal.lines_both-requires-clause-placed
lines_both-requires-clause-placed g c = c.requires.placed

pub line_by-requires-clause-placed : goal.line_by-requires-clause-placed
line_by-requires-clause-placed g c = subst (λ (x : Problem). IsPlace x c.args.pair.p c.args.pair.t c.args.pair.r) (sym c.new-out.ensures) c.requires.placed

pub lines_both-requires-clause-injective : goal.lines_both-requires-clause-injective
lines_both-requires-clause-injective g c = (subst (λ (a : Asked). IsAsked c.args.q.now c.args.pair.p c.args.pair.r a) c.in-Both.is c.in_ok-shared.ensures).2
