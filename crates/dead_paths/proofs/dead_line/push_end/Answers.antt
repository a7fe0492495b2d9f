use Rattle.std.proofs.Common.{◌++◌, ◌∷◌, [], ◌<◌, refl, ap, ◌∙◌, subst, sym, append-nil, ℕ, Option, None, Ok}
use Rattle.std.proofs.lemmas.Result.{err_from_is_err_and}
use Rattle.graph_theory.specs.Graph.{size}
use Rattle.log_theory.specs.LogText.{AreRefs}
use Rattle.encoding_theory.specs.Encoding.{at_least}
use Rattle.explanation_theory.specs.Reasons.{value_clauses}
use Rattle.recorder.specs.declared.change.Failure.{Failure}
use Rattle.recorder.specs.declared.change.Failure.TheVariants as failure
use Rattle.recorder.specs.declared.change.Place.{Place}
use Rattle.recorder.specs.Recording.{set_at}
use Rattle.dead_theory.specs.Ends.{Empty, Whole, Short, Exhausted, end_of}
use Rattle.log_growth.proofs.Naming.{named_behind}
use Rattle.recorder.specs.declared.change.DeadEnd.{DeadEnd}
use Rattle.dead_paths.specs.Lines.{at_least_ref, at_least_refs}
use Rattle.dead_paths.specs.Explaining.{end_by, IsEndIn}
use Rattle.dead_paths.proofs.LineRefs.{at_least_named, at_least_fits, refs_behind}
use Rattle.dead_paths.proofs.Ends.{ok_fits, ok_behind, end_pushed, end_named, end_nogood, end_none}
use Rattle.dead_paths.proofs.dead_line.push_end.Goals as goal

pub returns-in_err-extend_from_slice-in-Exhausted-clause-goes : goal.returns-in_err-extend_from_slice-in-Exhausted-clause-goes
returns-in_err-extend_from_slice-in-Exhausted-clause-goes g c = λ w values known here frame.
    let err = err_from_is_err_and c.from_residual.result c.from_residual.ensures.1 in
    rw err.1 (end_none c.args.basis.now.lines.now c.args.basis.now.rows.now w (g.N.RowNames.names c.args.basis.now.names.now) c.args.dead.now.path.now known (end_by c.args.dead.now.end (set_at c.args.basis.now.numbers.now c.args.dead.now.short) values) c.args.dead.now.refuted.now (g.M.LineMaker.knows c.args.maker.now c.args.basis.now.lines.now w) (g.K.Keeper.kept c.args.keeper.now) c.args.refs.now.items c.extend_from_slice.new.self.items err.0)

pub returns-in-Empty-clause-goes : goal.returns-in-Empty-clause-goes
returns-in-Empty-clause-goes g c = λ w values known here frame.
    let is = (ap (λ (y : DeadEnd). end_by y (set_at c.args.basis.now.numbers.now c.args.dead.now.short) values) c.in-Failed.is ∙ ap (λ (f : Failure). end_of f (set_at c.args.basis.now.numbers.now c.args.dead.now.short)) c.in-Empty.is) in
    let inside : c.in-Empty.p < size c.args.basis.now.lines.now.pattern = subst (IsEndIn c.args.basis.now.lines.now c.args.basis.now.rows.now) (ap (λ (y : DeadEnd). end_by y (set_at c.args.basis.now.numbers.now c.args.dead.now.short) []) c.in-Failed.is ∙ ap (λ (f : Failure). end_of f (set_at c.args.basis.now.numbers.now c.args.dead.now.short)) c.in-Empty.is) c.requires.end in
    end_pushed c.args.basis.now.lines.now c.args.basis.now.rows.now w (g.N.RowNames.names c.args.basis.now.names.now) c.args.dead.now.path.now known (end_by c.args.dead.now.end (set_at c.args.basis.now.numbers.now c.args.dead.now.short) values) (Empty c.in-Empty.p) c.args.dead.now.refuted.now (g.M.LineMaker.knows c.args.maker.now c.args.basis.now.lines.now w) (g.K.Keeper.kept c.args.keeper.now) c.push_at_least.result c.args.refs.now.items c.push_at_least.new.refs.items is
    (λ forms h. end_named c.args.basis.now.lines.now c.args.basis.now.rows.now w (g.N.RowNames.names c.args.basis.now.names.now) c.args.dead.now.path.now known (Empty c.in-Empty.p) c.push_at_least.result c.args.refs.now.items c.push_at_least.new.refs.items (at_least_refs c.args.basis.now.lines.now (c.in-Empty.p ∷ [])) (at_least c.args.basis.now.lines.now c.in-Empty.p ∷ []) forms refl
    c.push_at_least.ensures
    (at_least_named c.args.basis.now.lines.now (g.K.Keeper.owner c.args.keeper.now) w forms c.in-Empty.p frame inside, tt))

pub returns-in-Empty-clause-fits : goal.returns-in-Empty-clause-fits
returns-in-Empty-clause-fits g c =
    let inside : c.in-Empty.p < size c.args.basis.now.lines.now.pattern = subst (IsEndIn c.args.basis.now.lines.now c.args.basis.now.rows.now) (ap (λ (y : DeadEnd). end_by y (set_at c.args.basis.now.numbers.now c.args.dead.now.short) []) c.in-Failed.is ∙ ap (λ (f : Failure). end_of f (set_at c.args.basis.now.numbers.now c.args.dead.now.short)) c.in-Empty.is) c.requires.end in
    ok_fits c.push_at_least.result c.args.refs.now.items c.push_at_least.new.refs.items (at_least_refs c.args.basis.now.lines.now (c.in-Empty.p ∷ []))
    c.push_at_least.ensures
    c.requires.fits (at_least_fits c.args.basis.now.lines.now c.in-Empty.p c.requires.limited inside, tt)

pub returns-in-Whole-clause-goes : goal.returns-in-Whole-clause-goes
returns-in-Whole-clause-goes g c = λ w values known here frame.
    let is = (ap (λ (y : DeadEnd). end_by y (set_at c.args.basis.now.numbers.now c.args.dead.now.short) values) c.in-Failed.is ∙ ap (λ (f : Failure). end_of f (set_at c.args.basis.now.numbers.now c.args.dead.now.short)) c.in-Whole.is) in
    let nogood = subst (IsEndIn c.args.basis.now.lines.now c.args.basis.now.rows.now) (ap (λ (y : DeadEnd). end_by y (set_at c.args.basis.now.numbers.now c.args.dead.now.short) []) c.in-Failed.is ∙ ap (λ (f : Failure). end_of f (set_at c.args.basis.now.numbers.now c.args.dead.now.short)) c.in-Whole.is) c.requires.end in
    end_pushed c.args.basis.now.lines.now c.args.basis.now.rows.now w (g.N.RowNames.names c.args.basis.now.names.now) c.args.dead.now.path.now known (end_by c.args.dead.now.end (set_at c.args.basis.now.numbers.now c.args.dead.now.short) values) (Whole c.in-Whole.name) c.args.dead.now.refuted.now (g.M.LineMaker.knows c.args.maker.now c.args.basis.now.lines.now w) (g.K.Keeper.kept c.args.keeper.now) c.push_nogood.result c.args.refs.now.items c.push_nogood.new.refs.items is
    (λ forms h. end_nogood c.args.basis.now.lines.now c.args.basis.now.rows.now w (g.N.RowNames.names c.args.basis.now.names.now) c.args.dead.now.path.now known (g.K.Keeper.owner c.args.keeper.now) c.in-Whole.name c.push_nogood.result c.args.refs.now.items c.push_nogood.new.refs.items forms frame nogood h.rows_named (c.push_nogood.ensures.pushed known here))

pub returns-in-None-clause-goes : goal.returns-in-None-clause-goes
returns-in-None-clause-goes g c = λ w values known here frame.
    let is = (ap (λ (y : DeadEnd). end_by y (set_at c.args.basis.now.numbers.now c.args.dead.now.short) values) c.in-Failed.is ∙ ap (λ (f : Failure). end_of f (set_at c.args.basis.now.numbers.now c.args.dead.now.short)) c.in-Short.is) ∙ ap (λ (k : Option (Option ℕ × Place)). end_of (failure.Short c.in-Short.field-0) (set_at c.args.basis.now.numbers.now k)) c.in-None.is in
    end_pushed c.args.basis.now.lines.now c.args.basis.now.rows.now w (g.N.RowNames.names c.args.basis.now.names.now) c.args.dead.now.path.now known (end_by c.args.dead.now.end (set_at c.args.basis.now.numbers.now c.args.dead.now.short) values) (Short None [] []) c.args.dead.now.refuted.now (g.M.LineMaker.knows c.args.maker.now c.args.basis.now.lines.now w) (g.K.Keeper.kept c.args.keeper.now) (Ok tt) c.args.refs.now.items c.args.refs.now.items is
    (λ forms h. end_named c.args.basis.now.lines.now c.args.basis.now.rows.now w (g.N.RowNames.names c.args.basis.now.names.now) c.args.dead.now.path.now known (Short None [] []) (Ok tt) c.args.refs.now.items c.args.refs.now.items [] [] forms refl (sym (append-nil c.args.refs.now.items)) tt)

pub returns-in_ok-extend_from_slice-in-Exhausted-clause-goes : goal.returns-in_ok-extend_from_slice-in-Exhausted-clause-goes
returns-in_ok-extend_from_slice-in-Exhausted-clause-goes g c = λ w values known here frame.
    let is = (ap (λ (y : DeadEnd). end_by y (set_at c.args.basis.now.numbers.now c.args.dead.now.short) values) c.in-Exhausted.is) in
    let inside : c.in-Exhausted.p < size c.args.basis.now.lines.now.pattern = subst (IsEndIn c.args.basis.now.lines.now c.args.basis.now.rows.now) (ap (λ (y : DeadEnd). end_by y (set_at c.args.basis.now.numbers.now c.args.dead.now.short) []) c.in-Exhausted.is) c.requires.end in
    end_pushed c.args.basis.now.lines.now c.args.basis.now.rows.now w (g.N.RowNames.names c.args.basis.now.names.now) c.args.dead.now.path.now known (end_by c.args.dead.now.end (set_at c.args.basis.now.numbers.now c.args.dead.now.short) values) (Exhausted c.in-Exhausted.p values) c.args.dead.now.refuted.now (g.M.LineMaker.knows c.args.maker.now c.args.basis.now.lines.now w) (g.K.Keeper.kept c.args.keeper.now) c.push_at_least-in-Exhausted.result c.args.refs.now.items c.push_at_least-in-Exhausted.new.refs.items is
    (λ forms h. end_named c.args.basis.now.lines.now c.args.basis.now.rows.now w (g.N.RowNames.names c.args.basis.now.names.now) c.args.dead.now.path.now known (Exhausted c.in-Exhausted.p values) c.push_at_least-in-Exhausted.result c.args.refs.now.items c.push_at_least-in-Exhausted.new.refs.items
    (c.args.dead.now.refuted.now ++ at_least_refs c.args.basis.now.lines.now (c.in-Exhausted.p ∷ [])) (value_clauses c.args.basis.now.lines.now c.args.dead.now.path.now c.in-Exhausted.p values ++ at_least c.args.basis.now.lines.now c.in-Exhausted.p ∷ []) forms refl
    (ok_behind c.push_at_least-in-Exhausted.result c.args.refs.now.items c.extend_from_slice.new.self.items c.push_at_least-in-Exhausted.new.refs.items c.args.dead.now.refuted.now (at_least_refs c.args.basis.now.lines.now (c.in-Exhausted.p ∷ []))
    c.in_ok-extend_from_slice-in-Exhausted.ensures.items
    c.push_at_least-in-Exhausted.ensures)
    (named_behind w forms c.args.dead.now.refuted.now (value_clauses c.args.basis.now.lines.now c.args.dead.now.path.now c.in-Exhausted.p values) (at_least_ref c.args.basis.now.lines.now c.in-Exhausted.p ∷ []) (at_least c.args.basis.now.lines.now c.in-Exhausted.p ∷ []) h.refuted_named
    (at_least_named c.args.basis.now.lines.now (g.K.Keeper.owner c.args.keeper.now) w forms c.in-Exhausted.p frame inside, tt)))

pub returns-in_ok-extend_from_slice-in-Exhausted-clause-fits : goal.returns-in_ok-extend_from_slice-in-Exhausted-clause-fits
returns-in_ok-extend_from_slice-in-Exhausted-clause-fits g c =
    let inside : c.in-Exhausted.p < size c.args.basis.now.lines.now.pattern = subst (IsEndIn c.args.basis.now.lines.now c.args.basis.now.rows.now) (ap (λ (y : DeadEnd). end_by y (set_at c.args.basis.now.numbers.now c.args.dead.now.short) []) c.in-Exhausted.is) c.requires.end in
    ok_fits c.push_at_least-in-Exhausted.result c.extend_from_slice.new.self.items c.push_at_least-in-Exhausted.new.refs.items (at_least_refs c.args.basis.now.lines.now (c.in-Exhausted.p ∷ []))
    c.push_at_least-in-Exhausted.ensures
    (subst AreRefs (sym c.in_ok-extend_from_slice-in-Exhausted.ensures.items) (refs_behind c.args.refs.now.items c.args.dead.now.refuted.now c.requires.fits c.requires.refuted))
    (at_least_fits c.args.basis.now.lines.now c.in-Exhausted.p c.requires.limited inside, tt)
