use Rattle.std.proofs.Common.{sym, ◌∙◌, Option, subst, None}
use Rattle.log_theory.specs.declared.step.Step.{Step}
use Rattle.log_theory.specs.LogText.{literal_of}
use Rattle.proof_log.specs.Reading.{items_told, IsTold}
use Rattle.proof_log.proofs.LineKinds.{u_line, fault_told}
use Rattle.proof_log.proofs.reading.read_u.Goals as goal

pub returns-in-Ok : goal.returns-in-Ok
returns-in-Ok c =
    subst (λ (o : Option Step). IsTold c.read_hints.result o)
    (sym (u_line c.args.words.now c.next.new.self c.in-Some.word.now c.in-Some-name_in.name _ c.in-Some.ensures (sym c.name_in.ensures ∙ c.in-Some-name_in.is) c.in-Ok.ensures))
    c.read_hints.ensures

pub returns-in-Err : goal.returns-in-Err
returns-in-Err c =
    fault_told c.in-Err.fault c.read_literals.new.words (items_told literal_of c.next.new.self) _ c.in-Err.ensures
    (λ e. u_line c.args.words.now c.next.new.self c.in-Some.word.now c.in-Some-name_in.name None c.in-Some.ensures (sym c.name_in.ensures ∙ c.in-Some-name_in.is) e)
