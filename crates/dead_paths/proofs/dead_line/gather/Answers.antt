use Rattle.recorder.specs.Recording.{set_at}
use Rattle.dead_theory.specs.Changes.{known_after}
use Rattle.dead_paths.specs.Choosing.{AreAt, AreNameable, chosen_in}
use Rattle.std.proofs.Common.{ℕ, List, length, Err, ap, sym, subst, arith}
use Rattle.dead_paths.specs.declared.room.ChosenEntry.{ChosenEntry}
use Rattle.std.proofs.lemmas.Result.{err_from_is_err_and}
use Rattle.log_growth.proofs.Going.{goes_as}
use Rattle.dead_paths.specs.Making.{AreRowsNamed}
use Rattle.dead_paths.specs.Explaining.{end_by, Knowing, IsBegun, AreChangesPushed, AreGathered}
use Rattle.dead_paths.proofs.Ends.{frame_owner, gather_goes}
use Rattle.dead_paths.proofs.dead_line.gather.Goals as goal

pub push_chosen-requires-clause-nameable : goal.push_chosen-requires-clause-nameable
push_chosen-requires-clause-nameable g c =
    subst (λ (es : List ChosenEntry). AreNameable c.args.basis.now.lines.now c.args.basis.now.rows.now (chosen_in c.args.basis.now.numbers.now es)) (sym c.as_slice-chosen.ensures.value) c.requires.nameable

pub push_chosen-requires-clause-long : goal.push_chosen-requires-clause-long
push_chosen-requires-clause-long g c = let e = ap (λ (xs : List ℕ). length xs) c.as_mut_slice-at.ensures.value in omega (arith, e, c.requires.long)

pub returns-clause-goes : goal.returns-clause-goes
returns-clause-goes g c = λ w values frame.
    let known = subst (λ (xs : List ℕ). AreAt xs c.args.dead.now.path.now) (sym c.as_mut_slice-at.ensures.value) c.requires.known in
    rw (sym c.as_slice-chosen.ensures.value) (gather_goes c.args.basis.now.lines.now c.args.basis.now.rows.now w (g.N.RowNames.names c.args.basis.now.names.now) c.args.dead.now.path.now (end_by c.args.dead.now.end (set_at c.args.basis.now.numbers.now c.args.dead.now.short) values) c.args.dead.now.refuted.now (g.M.LineMaker.knows c.args.maker.now c.args.basis.now.lines.now w) (g.M.LineMaker.knows c.push_chosen.new.maker c.args.basis.now.lines.now w) (g.M.LineMaker.knows c.push_end.new.maker c.args.basis.now.lines.now w) (g.K.Keeper.kept c.args.keeper.now) (g.K.Keeper.kept c.push_chosen.new.keeper) (g.K.Keeper.kept c.push_end.new.keeper)
    (chosen_in c.args.basis.now.numbers.now c.as_slice-chosen.result.now) c.push_chosen.new.refs.items c.push_end.new.refs.items c.push_end.result
    (c.in_ok-push_chosen.ensures.goes w c.args.dead.now.path.now known frame)
    (c.push_end.ensures.goes w values (known_after c.args.dead.now.path.now (chosen_in c.args.basis.now.numbers.now c.as_slice-chosen.result.now)) (c.in_ok-push_chosen.ensures.known c.args.dead.now.path.now known) (frame_owner c.args.basis.now.lines.now (g.K.Keeper.owner c.args.keeper.now) (g.K.Keeper.owner c.push_chosen.new.keeper) w c.push_chosen.ensures.rest.owner frame)))

pub returns-in_err-push_chosen-clause-goes : goal.returns-in_err-push_chosen-clause-goes
returns-in_err-push_chosen-clause-goes g c = λ w values frame.
    let known = subst (λ (xs : List ℕ). AreAt xs c.args.dead.now.path.now) (sym c.as_mut_slice-at.ensures.value) c.requires.known in
    let err = err_from_is_err_and c.from_residual.result c.from_residual.ensures.1 in
    rw err.1 (goes_as w (g.K.Keeper.kept c.args.keeper.now) (g.K.Keeper.kept c.push_chosen.new.keeper) (Knowing (g.M.LineMaker.knows c.args.maker.now c.args.basis.now.lines.now w) (AreRowsNamed c.args.basis.now.lines.now c.args.basis.now.rows.now w (g.N.RowNames.names c.args.basis.now.names.now)))
    (AreChangesPushed c.args.basis.now.lines.now c.args.basis.now.rows.now c.args.dead.now.path.now w (g.N.RowNames.names c.args.basis.now.names.now) (chosen_in c.args.basis.now.numbers.now c.as_slice-chosen.result.now) c.push_chosen.new.refs.items (g.M.LineMaker.knows c.push_chosen.new.maker c.args.basis.now.lines.now w) c.push_chosen.result)
    (Knowing (g.M.LineMaker.knows c.args.maker.now c.args.basis.now.lines.now w) (IsBegun c.args.basis.now.lines.now c.args.basis.now.rows.now w (g.N.RowNames.names c.args.basis.now.names.now) c.args.dead.now.path.now (end_by c.args.dead.now.end (set_at c.args.basis.now.numbers.now c.args.dead.now.short) values) c.args.dead.now.refuted.now))
    (AreGathered c.args.basis.now.lines.now c.args.basis.now.rows.now w c.args.dead.now.path.now (chosen_in c.args.basis.now.numbers.now c.args.scratch.now.chosen.items) (end_by c.args.dead.now.end (set_at c.args.basis.now.numbers.now c.args.dead.now.short) values) c.push_chosen.new.refs.items (g.M.LineMaker.knows c.push_chosen.new.maker c.args.basis.now.lines.now w) (Err err.0))
    (λ forms h. (h.0, h.1.rows_named)) (λ forms h. tt) (c.push_chosen.ensures.goes w c.args.dead.now.path.now known frame))
