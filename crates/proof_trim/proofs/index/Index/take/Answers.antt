use Rattle.std.proofs.Common.{◌+◌, [], ◌∷◌, ◌++◌, refl, sym, subst}
use Rattle.log_theory.specs.declared.step.Step.{Step}
use Rattle.log_theory.specs.declared.step.Step.TheVariants.{P, U}
use Rattle.proof_trim.specs.Places.{IsIndexWith}
use Rattle.proof_trim.proofs.Indexing.{index_made, index_shared, index_other, other_step}
use Rattle.proof_trim.proofs.index.Index.take.Goals as goal

pub returns-in_ok-put_name-in-P : goal.returns-in_ok-put_name-in-P
returns-in_ok-put_name-in-P c = λ log known counted. subst (λ (s : Step). IsIndexWith c.put_name.new.self (log ++ s ∷ []) (c.args.count + 1)) (sym c.in-P.is)
    (index_made c.args.self.now c.put_name.new.self log (P c.in-P.name c.in-P.ops) c.in-P.name c.args.count refl refl (λ k. refl) c.in_ok-put_name-in-P.ensures.names c.in_ok-put_name-in-P.ensures.rows known counted)

pub returns-in_ok-put_name-in-U : goal.returns-in_ok-put_name-in-U
returns-in_ok-put_name-in-U c = λ log known counted. subst (λ (s : Step). IsIndexWith c.put_name-in-U.new.self (log ++ s ∷ []) (c.args.count + 1)) (sym c.in-U.is)
    (index_made c.args.self.now c.put_name-in-U.new.self log (U c.in-U.name c.in-U.lits c.in-U.refs) c.in-U.name c.args.count refl refl (λ k. refl) c.in_ok-put_name-in-U.ensures.names c.in_ok-put_name-in-U.ensures.rows known counted)

pub returns-in_ok-put_row-in-N : goal.returns-in_ok-put_row-in-N
returns-in_ok-put_row-in-N c = λ log known counted. subst (λ (s : Step). IsIndexWith c.put_row.new.self (log ++ s ∷ []) c.args.count) (sym c.in-N.is)
    (index_shared c.args.self.now c.put_row.new.self log c.in-N.row c.in-N.name c.args.count c.in_ok-put_row-in-N.ensures.rows c.in_ok-put_row-in-N.ensures.names known counted)

pub returns-in_default : goal.returns-in_default
returns-in_default c = λ log known counted. let o = other_step c.args.step.now c.in_default.not-P c.in_default.not-U c.in_default.not-N in index_other c.args.self.now log c.args.step.now c.args.count o.0 o.1 known counted
