use Rattle.std.proofs.lemmas.Result.{err_from_is_err_and}
use Rattle.std.proofs.Common.{◌≡◌, ℕ, ◌-◌, ◌<◌, ◌∷◌, suc, List, ap, ◌∙◌, length, drop, subst, sym, arith}
use Rattle.dead_paths.specs.declared.room.ChosenEntry.{ChosenEntry}
use Rattle.log_theory.specs.LogText.{AreRefs}
use Rattle.recorder.specs.Recording.{change_of}
use Rattle.dead_theory.specs.Changes.{Chosen, known_after, IsInProblem}
use Rattle.log_growth.specs.Frames.{Goes}
use Rattle.dead_paths.specs.Making.{AreRowsNamed}
use Rattle.dead_paths.specs.Choosing.{AreAt, chosen_of, chosen_in, IsOfRow}
use Rattle.dead_paths.specs.Explaining.{Explained, Knowing}
use Rattle.dead_paths.proofs.Causes.{explained_goes, explained_none, explained_refused}
use Rattle.dead_paths.proofs.Ends.{frame_owner, nameable_at, changes_drop, drop_past}
use Rattle.journals.proofs.Rests.{rest_same, rest_then}
use Rattle.dead_paths.proofs.dead_line.push_chosen.Goals as goal

pub loop-left-init : goal.loop-left-init
loop-left-init g c = record {
  within = omega arith;
  fits = subst AreRefs (sym c.requires.none) tt;
  rest = rest_same;
  known = λ path here.
      subst (λ (cs : List Chosen). AreAt c.args.at.now (known_after path cs)) (sym (ap (chosen_in c.args.basis.now.numbers.now) (drop_past c.args.chosen.now (length c.args.chosen.now) (omega arith)))) here;
  goes = λ w path here frame. explained_none c.args.basis.now.lines.now c.args.basis.now.rows.now path w (g.N.RowNames.names c.args.basis.now.names.now) (g.M.LineMaker.knows c.args.maker.now c.args.basis.now.lines.now w) (g.K.Keeper.kept c.args.keeper.now)
      (chosen_in c.args.basis.now.numbers.now (drop (length c.args.chosen.now) c.args.chosen.now)) c.args.refs.now.items (ap (chosen_in c.args.basis.now.numbers.now) (drop_past c.args.chosen.now (length c.args.chosen.now) (omega arith))) c.requires.none;
}

pub push_change-requires-clause-in_problem : goal.push_change-requires-clause-in_problem
push_change-requires-clause-in_problem g c =
    let within = c.loop-left.invariant.within in
    let some = c.loop-left-test.true in
    let below : c.loop-left.left - 1 < length c.args.chosen.now = omega (arith, within, some) in
    let h = nameable_at c.args.basis.now.lines.now c.args.basis.now.rows.now c.args.basis.now.numbers.now c.args.chosen.now (c.loop-left.left - 1) c.index-chosen-left.result below c.requires.nameable in
    subst (λ (e : ChosenEntry). IsInProblem c.args.basis.now.lines.now (change_of c.args.basis.now.numbers.now e.entry)) (sym c.index-chosen-left.is) h.0

pub push_change-requires-clause-of_row : goal.push_change-requires-clause-of_row
push_change-requires-clause-of_row g c =
    let within = c.loop-left.invariant.within in
    let some = c.loop-left-test.true in
    let below : c.loop-left.left - 1 < length c.args.chosen.now = omega (arith, within, some) in
    let h = nameable_at c.args.basis.now.lines.now c.args.basis.now.rows.now c.args.basis.now.numbers.now c.args.chosen.now (c.loop-left.left - 1) c.index-chosen-left.result below c.requires.nameable in
    subst (λ (e : ChosenEntry). IsOfRow c.args.basis.now.rows.now (change_of c.args.basis.now.numbers.now e.entry)) (sym c.index-chosen-left.is) h.1

pub loop-left-preserved : goal.loop-left-preserved
loop-left-preserved g c =
    let i = c.loop-left.invariant in
    let within = i.within in
    let some = c.loop-left-test.true in
    let below : c.loop-left.left - 1 < length c.args.chosen.now = omega (arith, within, some) in
    let is : c.loop-left.left ≡ suc (c.loop-left.left - 1) = omega (arith, some) in
    let e = c.index-chosen-left.result in
    let more : chosen_in c.args.basis.now.numbers.now (drop (c.loop-left.left - 1) c.args.chosen.now) ≡ chosen_of c.args.basis.now.numbers.now c.index-chosen-left.result ∷ chosen_in c.args.basis.now.numbers.now (drop c.loop-left.left c.args.chosen.now) =
    changes_drop c.args.basis.now.numbers.now c.args.chosen.now (c.loop-left.left - 1) c.loop-left.left c.index-chosen-left.result below is
    ∙ ap (λ (x : ChosenEntry). chosen_of c.args.basis.now.numbers.now x ∷ chosen_in c.args.basis.now.numbers.now (drop c.loop-left.left c.args.chosen.now)) (sym c.index-chosen-left.is) in
    record {
      within = omega (arith, within);
      fits = c.in_ok-push_change.ensures.fits;
      rest = rest_then i.rest c.push_change.ensures.rest;
      known = λ path here.
          subst (λ (cs : List Chosen). AreAt c.push_change.new.at (known_after path cs)) (sym more)
          (c.in_ok-push_change.ensures.shown (known_after path (chosen_in c.args.basis.now.numbers.now (drop c.loop-left.left c.args.chosen.now))) (i.known path here));
      goes = λ w path here frame.
          subst (λ (cs : List Chosen). Goes w (g.K.Keeper.kept c.args.keeper.now) (g.K.Keeper.kept c.push_change.new.keeper)
          (Knowing (g.M.LineMaker.knows c.args.maker.now c.args.basis.now.lines.now w) (AreRowsNamed c.args.basis.now.lines.now c.args.basis.now.rows.now w (g.N.RowNames.names c.args.basis.now.names.now)))
          (Knowing (g.M.LineMaker.knows c.push_change.new.maker c.args.basis.now.lines.now w) (Explained c.args.basis.now.lines.now c.args.basis.now.rows.now path w (g.N.RowNames.names c.args.basis.now.names.now) cs c.push_change.new.refs.items))) (sym more)
          (explained_goes c.args.basis.now.lines.now c.args.basis.now.rows.now path w (g.N.RowNames.names c.args.basis.now.names.now) (g.M.LineMaker.knows c.args.maker.now c.args.basis.now.lines.now w) (g.M.LineMaker.knows c.loop-left.maker c.args.basis.now.lines.now w)
          (g.M.LineMaker.knows c.push_change.new.maker c.args.basis.now.lines.now w) (g.K.Keeper.kept c.args.keeper.now) (g.K.Keeper.kept c.loop-left.keeper) (g.K.Keeper.kept c.push_change.new.keeper)
          (chosen_in c.args.basis.now.numbers.now (drop c.loop-left.left c.args.chosen.now)) (chosen_of c.args.basis.now.numbers.now c.index-chosen-left.result) c.loop-left.refs.items c.push_change.new.refs.items (i.goes w path here frame)
          (c.in_ok-push_change.ensures.goes w (known_after path (chosen_in c.args.basis.now.numbers.now (drop c.loop-left.left c.args.chosen.now))) (i.known path here) (frame_owner c.args.basis.now.lines.now (g.K.Keeper.owner c.args.keeper.now) (g.K.Keeper.owner c.loop-left.keeper) w i.rest.owner frame)));
    }

pub returns-in_err-push_change-clause-goes : goal.returns-in_err-push_change-clause-goes
returns-in_err-push_change-clause-goes g c = λ w path here frame.
    let i = c.loop-left.invariant in
    let err = err_from_is_err_and c.from_residual.result c.from_residual.ensures.1 in
    rw err.1 (explained_refused c.args.basis.now.lines.now c.args.basis.now.rows.now path w (g.N.RowNames.names c.args.basis.now.names.now) (g.M.LineMaker.knows c.args.maker.now c.args.basis.now.lines.now w) (g.M.LineMaker.knows c.loop-left.maker c.args.basis.now.lines.now w)
    (g.M.LineMaker.knows c.push_change.new.maker c.args.basis.now.lines.now w) (g.M.LineMaker.knows c.push_change.new.maker c.args.basis.now.lines.now w) (g.K.Keeper.kept c.args.keeper.now) (g.K.Keeper.kept c.loop-left.keeper) (g.K.Keeper.kept c.push_change.new.keeper)
    (chosen_in c.args.basis.now.numbers.now (drop c.loop-left.left c.args.chosen.now)) (chosen_in c.args.basis.now.numbers.now c.args.chosen.now) (chosen_of c.args.basis.now.numbers.now c.index-chosen-left.result) c.loop-left.refs.items c.push_change.new.refs.items
    c.push_change.new.refs.items c.push_change.result err.0 (i.goes w path here frame)
    (c.push_change.ensures.goes w (known_after path (chosen_in c.args.basis.now.numbers.now (drop c.loop-left.left c.args.chosen.now))) (i.known path here)
    (frame_owner c.args.basis.now.lines.now (g.K.Keeper.owner c.args.keeper.now) (g.K.Keeper.owner c.loop-left.keeper) w i.rest.owner frame)))

pub returns-clause-goes : goal.returns-clause-goes
returns-clause-goes g c = λ w path here frame.
    let none : c.loop-left.left ≡ 0 = omega (arith, c.loop-left-test.false) in
    subst (λ (n : ℕ). Goes w (g.K.Keeper.kept c.args.keeper.now) (g.K.Keeper.kept c.loop-left.keeper)
    (Knowing (g.M.LineMaker.knows c.args.maker.now c.args.basis.now.lines.now w) (AreRowsNamed c.args.basis.now.lines.now c.args.basis.now.rows.now w (g.N.RowNames.names c.args.basis.now.names.now)))
    (Knowing (g.M.LineMaker.knows c.loop-left.maker c.args.basis.now.lines.now w) (Explained c.args.basis.now.lines.now c.args.basis.now.rows.now path w (g.N.RowNames.names c.args.basis.now.names.now) (chosen_in c.args.basis.now.numbers.now (drop n c.args.chosen.now)) c.loop-left.refs.items)))
    none (c.loop-left.invariant.goes w path here frame)
