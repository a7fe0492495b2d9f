use Rattle.std.proofs.Common.{◌≡◌, ◌++◌, List, None, ap, ◌∙◌, refl, subst, sym}
use Rattle.std.specs.Prelude.{map}
use Rattle.std.proofs.lemmas.Result.{err_from_is_err_and}
use Rattle.log_theory.specs.declared.step.Ref.{Ref}
use Rattle.log_theory.specs.LogText.{AreRefs}
use Rattle.log_growth.specs.Frames.{AnyForms}
use Rattle.log_growth.proofs.Going.{goes_stay}
use Rattle.dead_paths.specs.Lines.{beside_refs, block_ref, crowd_refs, IsCrowdKept}
use Rattle.dead_paths.proofs.LineRefs.{whole_there, joins_out, crowd_refs_fit, crowd_goes}
use Rattle.dead_paths.proofs.lines.keep_crowd.Goals as goal

pub push_beside-requires-clause-vertices : goal.push_beside-requires-clause-vertices
push_beside-requires-clause-vertices g c = λ r among. (c.requires.in_problem.joins r among).other_in

pub push_beside-requires-clause-pairs : goal.push_beside-requires-clause-pairs
push_beside-requires-clause-pairs g c = λ r among. joins_out c.args.lines.now c.args.crowd.now.direction c.args.crowd.now.p r (c.requires.in_problem.joins r among)

pub returns-in_err-push_beside-clause-goes : goal.returns-in_err-push_beside-clause-goes
returns-in_err-push_beside-clause-goes g c = λ w frame.
    let err = err_from_is_err_and c.from_residual.result c.from_residual.ensures.1 in
    goes_stay w (g.K.Keeper.kept c.args.keeper.now) (g.K.Keeper.kept c.args.keeper.now) AnyForms (IsCrowdKept c.args.lines.now c.args.crowd.now.p c.args.crowd.now.t c.args.crowd.now.vertices.now c.args.crowd.now.values.now w c.from_residual.result) refl
    (λ forms any. rw err.1 tt)

pub returns-in_err-push_at_most-clause-goes : goal.returns-in_err-push_at_most-clause-goes
returns-in_err-push_at_most-clause-goes g c = λ w frame.
    let err = err_from_is_err_and c.from_residual-in_err-push_at_most.result c.from_residual-in_err-push_at_most.ensures.1 in
    goes_stay w (g.K.Keeper.kept c.args.keeper.now) (g.K.Keeper.kept c.args.keeper.now) AnyForms (IsCrowdKept c.args.lines.now c.args.crowd.now.p c.args.crowd.now.t c.args.crowd.now.vertices.now c.args.crowd.now.values.now w c.from_residual-in_err-push_at_most.result) refl
    (λ forms any. rw err.1 tt)

pub keep_sum-requires-clause-fits : goal.keep_sum-requires-clause-fits
keep_sum-requires-clause-fits g c =
    let is : c.deref.result.now ≡ crowd_refs c.args.lines.now c.args.crowd.now.p c.args.crowd.now.t c.args.crowd.now.vertices.now c.args.crowd.now.values.now =
    c.deref.ensures.value ∙ c.in_ok-push_at_most.ensures
    ∙ ap (λ (rs : List Ref). rs ++ map (block_ref c.args.lines.now None) c.args.crowd.now.values.now)
    (c.in_ok-push_beside.ensures ∙ ap (λ (rs : List Ref). rs ++ beside_refs c.args.lines.now c.args.crowd.now.p c.args.crowd.now.t c.args.crowd.now.vertices.now) c.new-refs.ensures.items) in
    subst AreRefs (sym is)
    (crowd_refs_fit c.args.lines.now c.args.crowd.now.p c.args.crowd.now.t c.args.crowd.now.vertices.now c.args.crowd.now.values.now c.requires.limited c.requires.in_problem.vertex_in c.requires.in_problem.value_in (λ r among. (c.requires.in_problem.joins r among).other_in)
    (λ r among. joins_out c.args.lines.now c.args.crowd.now.direction c.args.crowd.now.p r (c.requires.in_problem.joins r among)) c.requires.in_problem.values_in c.requires.in_problem.injective)

pub returns-clause-goes : goal.returns-clause-goes
returns-clause-goes g c =
    let is : c.deref.result.now ≡ crowd_refs c.args.lines.now c.args.crowd.now.p c.args.crowd.now.t c.args.crowd.now.vertices.now c.args.crowd.now.values.now =
    c.deref.ensures.value ∙ c.in_ok-push_at_most.ensures
    ∙ ap (λ (rs : List Ref). rs ++ map (block_ref c.args.lines.now None) c.args.crowd.now.values.now)
    (c.in_ok-push_beside.ensures ∙ ap (λ (rs : List Ref). rs ++ beside_refs c.args.lines.now c.args.crowd.now.p c.args.crowd.now.t c.args.crowd.now.vertices.now) c.new-refs.ensures.items) in
    crowd_goes c.args.lines.now (g.K.Keeper.owner c.args.keeper.now) (g.K.Keeper.kept c.args.keeper.now) (g.K.Keeper.kept c.keep_sum.new.keeper) c.keep_sum.result c.args.crowd.now.p c.args.crowd.now.t c.args.crowd.now.direction c.args.crowd.now.vertices.now c.args.crowd.now.values.now c.deref.result.now
    c.requires.limited c.requires.some is c.requires.in_problem c.keep_sum.ensures.goes

pub push_at_most-requires-clause-exists : goal.push_at_most-requires-clause-exists
push_at_most-requires-clause-exists g c = whole_there c.args.lines.now c.requires.in_problem.injective
