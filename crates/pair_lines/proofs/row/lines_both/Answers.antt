use Rattle.std.proofs.Common.{Ok, ◌∙◌, sym, subst}
use Rattle.std.proofs.lemmas.Result.{err_from_is_err_and}
use Rattle.graph_theory.specs.Embedding.{Problem}
use Rattle.pair_lines.specs.Choices.{IsSharing}
use Rattle.pair_lines.proofs.Turning.{first_stops, lines_pair, second_stops, both_join}
use Rattle.pair_lines.proofs.Failing.{if_ok_failed}
use Rattle.pair_line_theory.specs.Laws.{IsPlace}
use Rattle.journals.proofs.Rests.{rest_then}
use Rattle.pair_lines.proofs.row.lines_both.Goals as goal

pub line_by-requires-clause-shared : goal.line_by-requires-clause-shared
line_by-requires-clause-shared g c = subst (λ (x : Problem). IsSharing x c.args.pair.p c.args.pair.r c.args.shared.0) (sym c.new-out.ensures) c.requires.shared

pub returns-in_err-first-clause-goes : goal.returns-in_err-first-clause-goes
returns-in_err-first-clause-goes g c = λ w frame.
    let e = err_from_is_err_and c.from_residual.result c.from_residual.ensures.1 in
    rw e.1 (first_stops w c.args.q.now c.new-out.result c.args.pair.p c.args.pair.t c.args.pair.r (g.K.Keeper.owner c.args.keeper.now) (g.K.Keeper.kept c.args.keeper.now) (g.K.Keeper.kept c.line_by.new.keeper) c.args.spreads.now c.line_by.new.spreads
    c.line_by.result e.0 c.new-out.ensures frame c.line_by.ensures.goes)

pub returns-in_err-second-clause-goes : goal.returns-in_err-second-clause-goes
returns-in_err-second-clause-goes g c = λ w frame.
    let e = err_from_is_err_and c.from_residual-in_err-second.result c.from_residual-in_err-second.ensures.1 in
    rw e.1 (second_stops w c.args.q.now c.args.pair.p c.args.pair.t c.args.pair.r (g.K.Keeper.kept c.args.keeper.now) (g.K.Keeper.kept c.line_by-2.new.keeper) c.args.spreads.now c.line_by.new.spreads c.line_by-2.new.spreads c.in_ok-first.first c.line_by-2.result e.0
    (lines_pair w c.args.q.now c.new-out.result c.new-back.result c.args.pair.p c.args.pair.t c.args.pair.r (g.K.Keeper.owner c.args.keeper.now) (g.K.Keeper.owner c.line_by.new.keeper) (g.K.Keeper.kept c.args.keeper.now) (g.K.Keeper.kept c.line_by.new.keeper)
    (g.K.Keeper.kept c.line_by-2.new.keeper) c.args.spreads.now c.line_by.new.spreads c.line_by-2.new.spreads c.in_ok-first.first c.line_by-2.result c.new-out.ensures c.new-back.ensures c.in_ok-first.ensures.rest.owner frame c.in_ok-first.ensures.goes c.line_by-2.ensures.goes))

pub returns-clause-goes : goal.returns-clause-goes
returns-clause-goes g c = λ w frame.
    both_join w c.args.q.now c.args.pair.p c.args.pair.t c.args.pair.r (g.K.Keeper.owner c.args.keeper.now) (g.K.Keeper.owner c.line_by-2.new.keeper) (g.K.Keeper.kept c.args.keeper.now) (g.K.Keeper.kept c.line_by-2.new.keeper) (g.K.Keeper.kept c.both_line.new.keeper)
    c.args.spreads.now c.line_by.new.spreads c.line_by-2.new.spreads c.in_ok-first.first c.in_ok-second.second c.both_line.result (c.in_ok-second.ensures.rest.owner ∙ c.in_ok-first.ensures.rest.owner) frame
    (lines_pair w c.args.q.now c.new-out.result c.new-back.result c.args.pair.p c.args.pair.t c.args.pair.r (g.K.Keeper.owner c.args.keeper.now) (g.K.Keeper.owner c.line_by.new.keeper) (g.K.Keeper.kept c.args.keeper.now) (g.K.Keeper.kept c.line_by.new.keeper)
    (g.K.Keeper.kept c.line_by-2.new.keeper) c.args.spreads.now c.line_by.new.spreads c.line_by-2.new.spreads c.in_ok-first.first (Ok c.in_ok-second.second) c.new-out.ensures c.new-back.ensures c.in_ok-first.ensures.rest.owner frame c.in_ok-first.ensures.goes c.in_ok-second.ensures.goes) c.both_line.ensures.goes

pub returns-in_err-first-clause-rest : goal.returns-in_err-first-clause-rest
returns-in_err-first-clause-rest g c = c.line_by.ensures.rest

pub returns-in_err-first-clause-name : goal.returns-in_err-first-clause-name
returns-in_err-first-clause-name g c = if_ok_failed c.from_residual.result _ _ c.from_residual.ensures.1

pub returns-in_err-second-clause-rest : goal.returns-in_err-second-clause-rest
returns-in_err-second-clause-rest g c = rest_then c.line_by.ensures.rest c.line_by-2.ensures.rest

pub returns-in_err-second-clause-name : goal.returns-in_err-second-clause-name
returns-in_err-second-clause-name g c = if_ok_failed c.from_residual-in_err-second.result _ _ c.from_residual-in_err-second.ensures.1

pub returns-clause-rest : goal.returns-clause-rest
returns-clause-rest g c = rest_then (rest_then c.line_by.ensures.rest c.line_by-2.ensures.rest) c.both_line.ensures.rest

pub returns-clause-name : goal.returns-clause-name
returns-clause-name g c = c.both_line.ensures.name

pub both_line-requires-clause-same : goal.both_line-requires-clause-same
both_line-requires-clause-same g c = c.new-out.ensures

pub both_line-requires-clause-first : goal.both_line-requires-clause-first
both_line-requires-clause-first g c = c.in_ok-first.ensures.name

pub both_line-requires-clause-second : goal.both_line-requires-clause-second
both_line-requires-clause-second g c = c.in_ok-second.ensures.name

pub both_line-requires-clause-placed : goal.both_line-requires-clause-placed
both_line-requires-clause-placed g c = c.requires.placed

pub line_by-requires-clause-placed : goal.line_by-requires-clause-placed
line_by-requires-clause-placed g c = subst (λ (x : Problem). IsPlace x c.args.pair.p c.args.pair.t c.args.pair.r) (sym c.new-out.ensures) c.requires.placed

pub line_by-requires-2-clause-shared : goal.line_by-requires-2-clause-shared
line_by-requires-2-clause-shared g c = subst (λ (x : Problem). IsSharing x c.args.pair.p c.args.pair.r c.args.shared.1) (sym c.new-back.ensures) c.requires.in_shared

pub both_line-requires-clause-injective : goal.both_line-requires-clause-injective
both_line-requires-clause-injective g c = c.requires.injective
