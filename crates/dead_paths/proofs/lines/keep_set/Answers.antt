use Rattle.std.proofs.Common.{◌≡◌, ◌++◌, List, ap, ◌∙◌, refl, subst, sym}
use Rattle.std.specs.Prelude.{map}
use Rattle.std.proofs.lemmas.Result.{err_from_is_err_and}
use Rattle.log_theory.specs.declared.step.Ref.{Ref}
use Rattle.log_theory.specs.LogText.{AreRefs}
use Rattle.log_growth.specs.Frames.{AnyForms}
use Rattle.log_growth.proofs.Going.{goes_stay}
use Rattle.dead_paths.specs.Lines.{at_least_refs, block_ref, set_refs, IsSetKept}
use Rattle.dead_paths.proofs.LineRefs.{set_refs_fit, set_goes, set_none}
use Rattle.dead_paths.proofs.lines.keep_set.Goals as goal

pub returns-in_err-push_at_least-clause-goes : goal.returns-in_err-push_at_least-clause-goes
returns-in_err-push_at_least-clause-goes g c = λ w frame.
    let err = err_from_is_err_and c.from_residual.result c.from_residual.ensures.1 in
    goes_stay w (g.K.Keeper.kept c.args.keeper.now) (g.K.Keeper.kept c.args.keeper.now) AnyForms (IsSetKept c.args.lines.now c.args.set.now.centre c.args.set.now.vertices.now c.args.set.now.values.now w c.from_residual.result) refl
    (λ forms any. rw err.1 (set_none c.args.lines.now c.args.set.now.centre c.args.set.now.vertices.now c.args.set.now.values.now w err.0 forms c.requires.some))

pub returns-in_err-push_at_most-clause-goes : goal.returns-in_err-push_at_most-clause-goes
returns-in_err-push_at_most-clause-goes g c = λ w frame.
    let err = err_from_is_err_and c.from_residual-in_err-push_at_most.result c.from_residual-in_err-push_at_most.ensures.1 in
    goes_stay w (g.K.Keeper.kept c.args.keeper.now) (g.K.Keeper.kept c.args.keeper.now) AnyForms (IsSetKept c.args.lines.now c.args.set.now.centre c.args.set.now.vertices.now c.args.set.now.values.now w c.from_residual-in_err-push_at_most.result) refl
    (λ forms any. rw err.1 (set_none c.args.lines.now c.args.set.now.centre c.args.set.now.vertices.now c.args.set.now.values.now w err.0 forms c.requires.some))

pub keep_sum-requires-clause-fits : goal.keep_sum-requires-clause-fits
keep_sum-requires-clause-fits g c =
    let is : c.deref.result.now ≡ set_refs c.args.lines.now c.args.set.now.centre c.args.set.now.vertices.now c.args.set.now.values.now =
    c.deref.ensures.value ∙ c.in_ok-push_at_most.ensures
    ∙ ap (λ (rs : List Ref). rs ++ map (block_ref c.args.lines.now c.args.set.now.centre) c.args.set.now.values.now) (c.in_ok-push_at_least.ensures ∙ ap (λ (rs : List Ref). rs ++ at_least_refs c.args.lines.now c.args.set.now.vertices.now) c.new-refs.ensures.items) in
    subst AreRefs (sym is) (set_refs_fit c.args.lines.now c.args.set.now.centre c.args.set.now.vertices.now c.args.set.now.values.now c.requires.limited c.requires.in_problem)

pub returns-clause-goes : goal.returns-clause-goes
returns-clause-goes g c =
    let is : c.deref.result.now ≡ set_refs c.args.lines.now c.args.set.now.centre c.args.set.now.vertices.now c.args.set.now.values.now =
    c.deref.ensures.value ∙ c.in_ok-push_at_most.ensures
    ∙ ap (λ (rs : List Ref). rs ++ map (block_ref c.args.lines.now c.args.set.now.centre) c.args.set.now.values.now) (c.in_ok-push_at_least.ensures ∙ ap (λ (rs : List Ref). rs ++ at_least_refs c.args.lines.now c.args.set.now.vertices.now) c.new-refs.ensures.items) in
    set_goes c.args.lines.now (g.K.Keeper.owner c.args.keeper.now) (g.K.Keeper.kept c.args.keeper.now) (g.K.Keeper.kept c.keep_sum.new.keeper) c.keep_sum.result c.args.set.now.centre c.args.set.now.vertices.now c.args.set.now.values.now c.deref.result.now
    c.requires.limited c.requires.some is c.requires.in_problem c.keep_sum.ensures.goes

pub push_at_least-requires : goal.push_at_least-requires
push_at_least-requires g c = c.requires.in_problem.vertices_in

pub push_at_most-requires-clause-values : goal.push_at_most-requires-clause-values
push_at_most-requires-clause-values g c = c.requires.in_problem.values_in

pub push_at_most-requires-clause-exists : goal.push_at_most-requires-clause-exists
push_at_most-requires-clause-exists g c = c.requires.in_problem.block
