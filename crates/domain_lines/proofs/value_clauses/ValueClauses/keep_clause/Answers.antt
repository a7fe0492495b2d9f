use Rattle.std.proofs.Common.{refl, arith, ◌≡◌, ap, sym, subst, ◌∙◌, [], ◌∷◌, ◌++◌, List, ℕ, true, ◌<◌, ◌^◌}
use Rattle.proof_theory.specs.declared.literal.Literal.{Literal}
use Rattle.log_theory.specs.declared.step.Name.{Name}
use Rattle.log_theory.specs.declared.step.Ref.{Ref}
use Rattle.log_theory.specs.declared.step.Step.TheVariants.{U}
use Rattle.log_theory.specs.LogText.{AreLiterals, AreRefs}
use Rattle.encoding_theory.specs.Encoding.{refusal}
use Rattle.explanation_theory.specs.Reasons.{not_there}
use Rattle.log_growth.specs.Frames.{Named, MayFollow, IsKept}
use Rattle.log_growth.proofs.Going.{goes_stay, goes_kept}
use Rattle.log_growth.proofs.Steps.{clause_follows}
use Rattle.domain_lines.proofs.Composing.{kept_err, variable_in}
use Rattle.domain_lines.proofs.value_clauses.ValueClauses.keep_clause.Goals as goal

pub returns-in_err-push-clause-goes : goal.returns-in_err-push-clause-goes
returns-in_err-push-clause-goes g c = λ w fs frame refuted.
    goes_stay w (g.K.Keeper.kept c.args.keeper.now) (g.K.Keeper.kept c.args.keeper.now) (Named w c.args.refs.items fs) (IsKept w c.from_residual.result (refusal c.args.self.now c.args.p c.args.u)) refl
    (λ forms named. kept_err w c.from_residual.result (refusal c.args.self.now c.args.p c.args.u) forms c.from_residual.ensures.0)

pub returns-clause-goes : goal.returns-clause-goes
returns-clause-goes g c = λ w fs frame refuted.
    let lits : c.new.result ≡ not_there c.args.self.now (c.args.p, c.args.u) ∷ [] =
    c.new.ensures ∙ c.in_ok-push.ensures.items ∙ ap (λ (xs : List Literal). xs ++ record { variable = c.variable-variable.result; negated = true } ∷ []) c.new-lits.ensures.items
    ∙ ap (λ (v : ℕ). let ls : List Literal = record { variable = v; negated = true } ∷ [] in ls) c.variable-variable.ensures in
    let name : Name = record { owner = 0; number = 0 } in
    goes_kept w c.keep.result (g.K.Keeper.owner c.args.keeper.now) (g.K.Keeper.kept c.args.keeper.now) (g.K.Keeper.kept c.keep.new.self) (U name c.new.result c.new-2.result) (refusal c.args.self.now c.args.p c.args.u)
    (Named w c.args.refs.items fs) frame.owner_is c.keep.ensures.kept
    (subst AreLiterals (sym lits) (subst (λ (v : ℕ). v < 2 ^ 32) c.variable-variable.ensures c.variable-variable.type_inv, tt), subst AreRefs (sym c.new-2.ensures) c.requires.fits)
    (λ forms named. subst (λ (ls : List Literal). MayFollow w forms (U name ls c.new-2.result) (refusal c.args.self.now c.args.p c.args.u)) (sym lits)
    (subst (λ (rs : List Ref). MayFollow w forms (U name (not_there c.args.self.now (c.args.p, c.args.u) ∷ []) rs) (refusal c.args.self.now c.args.p c.args.u)) (sym c.new-2.ensures)
    (clause_follows w forms name (not_there c.args.self.now (c.args.p, c.args.u) ∷ []) c.args.refs.items fs named refl (variable_in c.args.self.now w.problem c.args.p c.args.u frame.variables_are c.requires.p_in c.requires.u_in) refuted (omega arith))))
