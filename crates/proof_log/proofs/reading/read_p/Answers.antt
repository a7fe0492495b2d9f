use Rattle.std.proofs.Common.{sym, ◌∙◌, Option, ap, Some}
use Rattle.log_theory.specs.declared.step.Op.{Op}
use Rattle.log_theory.specs.LogText.{p_from}
use Rattle.proof_log.specs.Reading.{Listed, closed_items, ops_told}
use Rattle.proof_log.proofs.LineKinds.{p_line, p_done, p_left, fault_told}
use Rattle.proof_log.proofs.reading.read_p.Goals as goal

pub returns-in-Ok : goal.returns-in-Ok
returns-in-Ok c =
    p_done c.args.words.now c.next.new.self c.in-Some.word.now c.in-Some-name_in.name c.in-Ok.ops c.read_ops.new.words c.in-Some.ensures (sym c.name_in.ensures ∙ c.in-Some-name_in.is) c.in-Ok.ensures
    (sym c.is_done.ensures ∙ c.if-is_done.true)

pub returns-in-Ok-2 : goal.returns-in-Ok-2
returns-in-Ok-2 c =
    p_left c.args.words.now c.next.new.self c.in-Some.word.now c.in-Some-name_in.name c.in-Ok-2.field-0 c.read_ops.new.words c.in-Some.ensures (sym c.name_in.ensures ∙ c.in-Some-name_in.is) c.in-Ok-2.ensures
    (sym c.is_done.ensures ∙ c.if-is_done.false)

pub returns-in-Err : goal.returns-in-Err
returns-in-Err c =
    fault_told c.in-Err.fault c.read_ops.new.words (ops_told c.next.new.self) _ c.in-Err.ensures
    (λ e. p_line c.args.words.now c.next.new.self c.in-Some.word.now c.in-Some-name_in.name c.in-Some.ensures (sym c.name_in.ensures ∙ c.in-Some-name_in.is)
    ∙ ap (λ (o : Option (Listed Op)). p_from (Some c.in-Some-name_in.name) (closed_items o)) e)
