use Rattle.std.proofs.Common.{List, sym, subst}
use Rattle.proof_theory.specs.Forms.{Form}
use Rattle.log_theory.specs.declared.step.Ref.{Ref}
use Rattle.log_theory.specs.declared.step.Step.TheVariants.{D}
use Rattle.log_theory.specs.Tables.{step_of}
use Rattle.pb_propagation.specs.Told.{Leads}
use Rattle.pb_propagation.proofs.table.Table.delete.Goals as goal

pub returns-in-Made : goal.returns-in-Made
returns-in-Made c = subst (λ (r : Ref). (model : List Form) → Leads c.delete_made.result (step_of model c.args.self.now (D r)) c.delete_made.new.self) (sym c.in-Made.is) c.delete_made.ensures

pub returns-in-Shared : goal.returns-in-Shared
returns-in-Shared c = subst (λ (r : Ref). (model : List Form) → Leads c.delete_shared.result (step_of model c.args.self.now (D r)) c.delete_shared.new.self) (sym c.in-Shared.is) c.delete_shared.ensures
