use Rattle.std.proofs.Common.{refl, sym, subst, [], ◌∷◌, ◌++◌, List, length, ◌<◌}
use Rattle.log_theory.specs.declared.step.Ref.{Ref}
use Rattle.log_theory.specs.declared.step.Ref.TheVariants.{Made}
use Rattle.log_theory.specs.LogText.{AreRefs}
use Rattle.encoding_theory.specs.Encoding.{refusal}
use Rattle.log_growth.specs.Frames.{Named, IsKept}
use Rattle.log_growth.proofs.Going.{goes_stay}
use Rattle.domain_line_theory.specs.Sums.{summed}
use Rattle.domain_line_theory.specs.Crowds.{refused_pairs, crowd_forms, high_neighbours, high_places, crowd_block}
use Rattle.domain_lines.proofs.Crowds.{crowd_some}
use Rattle.domain_lines.proofs.Composing.{kept_err, refs_pushed, sum_fails, sum_then_clause, crowd_forms_some, crowd_named, crowd_refutes, frame_for_moved}
use Rattle.domain_lines.proofs.value_clauses.ValueClauses.crowd_line.Goals as goal

pub returns-in_err-crowd-clause-goes : goal.returns-in_err-crowd-clause-goes
returns-in_err-crowd-clause-goes g c = λ w pairs frame lower.
    goes_stay w (g.K.Keeper.kept c.args.keeper.now) (g.K.Keeper.kept c.args.keeper.now) (Named w c.args.clauses.items (refused_pairs c.args.self.now pairs)) (IsKept w c.from_residual.result (refusal c.args.self.now c.args.p c.args.u)) refl
    (λ forms named. kept_err w c.from_residual.result (refusal c.args.self.now c.args.p c.args.u) forms c.from_residual.ensures.0)

pub keep_sum-requires-clause-some : goal.keep_sum-requires-clause-some
keep_sum-requires-clause-some g c =
    subst (λ (rs : List Ref). 0 < length rs) (sym c.deref.ensures.value) (crowd_some c.args.self.now c.args.p c.args.u c.requires.p_in c.requires.u_in c.args.d c.in_ok-crowd.crowd.items c.requires.fewer c.in_ok-crowd.ensures)

pub keep_sum-requires-clause-fits : goal.keep_sum-requires-clause-fits
keep_sum-requires-clause-fits g c = subst AreRefs (sym c.deref.ensures.value) c.in_ok-crowd.ensures.fits

pub returns-in_err-sum-clause-goes : goal.returns-in_err-sum-clause-goes
returns-in_err-sum-clause-goes g c = λ w pairs frame lower.
    sum_fails w (g.K.Keeper.kept c.args.keeper.now) (g.K.Keeper.kept c.keep_sum.new.keeper) c.deref.result.now c.args.clauses.items (refused_pairs c.args.self.now pairs)
    (crowd_forms c.args.self.now (crowd_block c.args.self.now c.args.p) c.args.p c.args.u (high_neighbours c.args.self.now.pattern c.args.p c.args.d) (high_places c.args.self.now c.args.u c.args.d)) c.in_ok-crowd.ensures.addable
    (crowd_forms_some c.args.self.now c.args.p c.args.u c.args.d c.requires.fewer)
    (λ forms. crowd_named c.args.self.now c.args.p c.args.u c.args.d c.in_ok-crowd.crowd.items c.deref.result.now w (g.K.Keeper.owner c.args.keeper.now) forms c.deref.ensures.value c.in_ok-crowd.ensures frame)
    c.keep_sum.result c.from_residual-in_err-sum.result (refusal c.args.self.now c.args.p c.args.u) c.from_residual-in_err-sum.ensures.0 (λ f gs add. c.keep_sum.ensures.goes w f gs frame.owner_is add)

pub returns-in_err-push-clause-goes : goal.returns-in_err-push-clause-goes
returns-in_err-push-clause-goes g c = λ w pairs frame lower.
    sum_fails w (g.K.Keeper.kept c.args.keeper.now) (g.K.Keeper.kept c.keep_sum.new.keeper) c.deref.result.now c.args.clauses.items (refused_pairs c.args.self.now pairs)
    (crowd_forms c.args.self.now (crowd_block c.args.self.now c.args.p) c.args.p c.args.u (high_neighbours c.args.self.now.pattern c.args.p c.args.d) (high_places c.args.self.now c.args.u c.args.d)) c.in_ok-crowd.ensures.addable
    (crowd_forms_some c.args.self.now c.args.p c.args.u c.args.d c.requires.fewer)
    (λ forms. crowd_named c.args.self.now c.args.p c.args.u c.args.d c.in_ok-crowd.crowd.items c.deref.result.now w (g.K.Keeper.owner c.args.keeper.now) forms c.deref.ensures.value c.in_ok-crowd.ensures frame)
    c.keep_sum.result c.from_residual-in_err-push.result (refusal c.args.self.now c.args.p c.args.u) c.from_residual-in_err-push.ensures.0 (λ f gs add. c.keep_sum.ensures.goes w f gs frame.owner_is add)

pub keep_clause-requires-clause-fits : goal.keep_clause-requires-clause-fits
keep_clause-requires-clause-fits g c = subst AreRefs (sym c.in_ok-push.ensures.items) (refs_pushed c.args.clauses.items (Made c.in_ok-sum.sum) c.requires.fits c.in_ok-sum.ensures.name)

pub returns-clause-goes : goal.returns-clause-goes
returns-clause-goes g c = λ w pairs frame lower.
    sum_then_clause w (g.K.Keeper.kept c.args.keeper.now) (g.K.Keeper.kept c.keep_sum.new.keeper) c.deref.result.now c.args.clauses.items (refused_pairs c.args.self.now pairs)
    (crowd_forms c.args.self.now (crowd_block c.args.self.now c.args.p) c.args.p c.args.u (high_neighbours c.args.self.now.pattern c.args.p c.args.d) (high_places c.args.self.now c.args.u c.args.d)) c.in_ok-crowd.ensures.addable
    (crowd_forms_some c.args.self.now c.args.p c.args.u c.args.d c.requires.fewer)
    (λ forms. crowd_named c.args.self.now c.args.p c.args.u c.args.d c.in_ok-crowd.crowd.items c.deref.result.now w (g.K.Keeper.owner c.args.keeper.now) forms c.deref.ensures.value c.in_ok-crowd.ensures frame)
    (g.K.Keeper.kept c.keep_clause.new.keeper) c.in_ok-sum.sum c.push.new.self.items c.keep_clause.result (refusal c.args.self.now c.args.p c.args.u) c.in_ok-push.ensures.items
    (λ f gs add. c.in_ok-sum.ensures.goes w f gs frame.owner_is add)
    (c.keep_clause.ensures.goes w (refused_pairs c.args.self.now pairs ++ summed (crowd_forms c.args.self.now (crowd_block c.args.self.now c.args.p) c.args.p c.args.u (high_neighbours c.args.self.now.pattern c.args.p c.args.d) (high_places c.args.self.now c.args.u c.args.d)) ∷ [])
    (frame_for_moved c.args.self.now (g.K.Keeper.owner c.args.keeper.now) (g.K.Keeper.owner c.keep_sum.new.keeper) w c.in_ok-sum.ensures.rest.owner frame)
    (crowd_refutes c.args.self.now c.args.p c.args.u c.args.d pairs c.requires.fewer lower))
