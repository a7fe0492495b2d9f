use Rattle.std.proofs.Common.{refl, Ok}
use Rattle.std.proofs.lemmas.Result.{err_from_is_err_and}
use Rattle.dead_paths.specs.Lines.{IsSetKept}
use Rattle.line_cache.proofs.Known.{set_found, set_made, set_refused}
use Rattle.line_cache.proofs.set_lines.set_line.Goals as goal

pub returns-in-Some-clause-goes : goal.returns-in-Some-clause-goes
returns-in-Some-clause-goes g c = λ w frame. set_found c.args.lines.now w c.args.set.now.centre c.args.set.now.vertices.now c.args.set.now.values.now c.args.sets.now c.in-Some.name (g.K.Keeper.kept c.args.keeper.now) c.in-Some.ensures.name

pub returns-in_err-name-clause-goes : goal.returns-in_err-name-clause-goes
returns-in_err-name-clause-goes g c = λ w frame.
    let err = err_from_is_err_and c.from_residual.result c.from_residual.ensures.1 in
    rw err.1 (set_refused c.args.lines.now w c.args.set.now.centre c.args.set.now.vertices.now c.args.set.now.values.now c.args.sets.now c.args.sets.now err.0 (g.K.Keeper.kept c.args.keeper.now) (g.K.Keeper.kept c.keep_set.new.keeper)
    (IsSetKept c.args.lines.now c.args.set.now.centre c.args.set.now.vertices.now c.args.set.now.values.now w c.keep_set.result) refl (c.keep_set.ensures.goes w frame))

pub returns-in_err-add-clause-goes : goal.returns-in_err-add-clause-goes
returns-in_err-add-clause-goes g c = λ w frame.
    let err = err_from_is_err_and c.from_residual-in_err-add.result c.from_residual-in_err-add.ensures.1 in
    rw err.1 (set_refused c.args.lines.now w c.args.set.now.centre c.args.set.now.vertices.now c.args.set.now.values.now c.args.sets.now c.add.new.self err.0 (g.K.Keeper.kept c.args.keeper.now) (g.K.Keeper.kept c.keep_set.new.keeper)
    (IsSetKept c.args.lines.now c.args.set.now.centre c.args.set.now.vertices.now c.args.set.now.values.now w (Ok c.in_ok-name.name)) c.in_err-add.ensures.refused (c.in_ok-name.ensures.goes w frame))

pub returns-clause-goes : goal.returns-clause-goes
returns-clause-goes g c = λ w frame.
    set_made c.args.lines.now w c.args.set.now.centre c.args.set.now.vertices.now c.args.set.now.values.now c.args.sets.now c.add.new.self c.in_ok-name.name (g.K.Keeper.kept c.args.keeper.now) (g.K.Keeper.kept c.keep_set.new.keeper)
    c.in_ok-add.ensures.added (c.in_ok-name.ensures.goes w frame)
