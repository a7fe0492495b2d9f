use Rattle.std.proofs.Common.{sym, ◌∙◌, Option, ap, Some, [], List}
use Rattle.proof_theory.specs.declared.literal.Literal.{Literal}
use Rattle.log_theory.specs.declared.step.Ref.{Ref}
use Rattle.log_theory.specs.declared.step.Step.TheVariants.{U}
use Rattle.log_theory.specs.LogText.{u_from, literal_of}
use Rattle.proof_log.specs.Reading.{Listed, closed_items, items_told}
use Rattle.proof_log.proofs.LineKinds.{fault_told}
use Rattle.proof_log.proofs.PlainLines.{plain_line, plain_done, plain_left}
use Rattle.proof_log.proofs.reading.read_plain_u.Goals as goal

pub returns-in-Ok : goal.returns-in-Ok
returns-in-Ok c =
    plain_done c.args.words.now c.next.new.self c.in-Some.word.now c.in-Some-name_in.name c.in-Ok.lits c.read_literals.new.words c.in-Some.ensures (sym c.name_in.ensures ∙ c.in-Some-name_in.is) c.in-Ok.ensures
    (sym c.is_done.ensures ∙ c.if-is_done.true)
    ∙ ap (λ (rs : List Ref). Some (U c.in-Some-name_in.name c.in-Ok.lits rs)) (sym c.no_refs-refs.ensures)

pub returns-in-Ok-2 : goal.returns-in-Ok-2
returns-in-Ok-2 c =
    plain_left c.args.words.now c.next.new.self c.in-Some.word.now c.in-Some-name_in.name c.in-Ok-2.field-0 c.read_literals.new.words c.in-Some.ensures (sym c.name_in.ensures ∙ c.in-Some-name_in.is) c.in-Ok-2.ensures
    (sym c.is_done.ensures ∙ c.if-is_done.false)

pub returns-in-Err : goal.returns-in-Err
returns-in-Err c =
    fault_told c.in-Err.fault c.read_literals.new.words (items_told literal_of c.next.new.self) _ c.in-Err.ensures
    (λ e. plain_line c.args.words.now c.next.new.self c.in-Some.word.now c.in-Some-name_in.name c.in-Some.ensures (sym c.name_in.ensures ∙ c.in-Some-name_in.is)
    ∙ ap (λ (o : Option (Listed Literal)). u_from (Some c.in-Some-name_in.name) (closed_items o) (Some [])) e)
