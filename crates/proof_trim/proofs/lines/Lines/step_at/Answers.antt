use Rattle.std.proofs.Common.{◌-◌, length, drop, sym, ◌∙◌, length-drop, arith}
use Rattle.std.proofs.lemmas.List.{take_all, get_or_read}
use Rattle.proof_trim.proofs.LinesRead.{step_there}
use Rattle.proof_trim.proofs.lines.Lines.step_at.Goals as goal

pub returns-clause-told : goal.returns-clause-told
returns-clause-told c = λ made at.
    let text = c.args.self.now.text.now in
    let place = c.index-place.result.now in
    let l = length-drop place text in
    step_there text c.args.self.now.places.items c.in-Some.line.now c.in-Some.field-0-1.now c.args.at place c.in_ok-step.step c.requires
    (get_or_read c.args.self.now.places.items c.args.at place c.requires c.index-place.ensures 0)
    (sym (take_all (length text - place) (drop place text) (omega arith)) ∙ c.in-Some.ensures.0) c.in-Some.ensures.1 c.in_ok-step.ensures.0 made at
