use Rattle.std.proofs.Common.{sym, ◌∙◌, Option, ap, Some}
use Rattle.log_theory.specs.declared.step.Ref.{Ref}
use Rattle.log_theory.specs.LogText.{u_from, ref_of}
use Rattle.proof_log.specs.Reading.{Listed, closed_items, items_told}
use Rattle.proof_log.proofs.LineKinds.{hints_done, hints_left, fault_told}
use Rattle.proof_log.proofs.reading.read_hints.Goals as goal

pub returns-in-Ok : goal.returns-in-Ok
returns-in-Ok c = hints_done c.args.name c.args.lits c.in-Ok.refs c.read_refs.new.words (items_told ref_of c.args.words.now) c.in-Ok.ensures (sym c.is_done.ensures ∙ c.if-is_done.true)

pub returns-in-Ok-2 : goal.returns-in-Ok-2
returns-in-Ok-2 c = hints_left c.args.name c.args.lits c.in-Ok-2.field-0 c.read_refs.new.words (items_told ref_of c.args.words.now) c.in-Ok-2.ensures (sym c.is_done.ensures ∙ c.if-is_done.false)

pub returns-in-Err : goal.returns-in-Err
returns-in-Err c =
    fault_told c.in-Err.fault c.read_refs.new.words (items_told ref_of c.args.words.now) _ c.in-Err.ensures
    (λ e. ap (λ (o : Option (Listed Ref)). u_from (Some c.args.name) (Some c.args.lits) (closed_items o)) e)
