use Rattle.std.proofs.Common.{◌∙◌, ap, sym}
use Rattle.log_theory.specs.OpbReading.{Semicolon}
use Rattle.opb_text.specs.Kinds.{shown}
use Rattle.opb_text.proofs.LineKinds.{kinds-first, closing-says}
use Rattle.opb_text.proofs.bound.read_closing.Goals as goal

pub returns-in-Semicolon : goal.returns-in-Semicolon
returns-in-Semicolon c =
    let k = kinds-first c.args.line.now c.in-Some.word.now c.in-Some.rest.now Semicolon c.in-Some.ensures.words (ap shown (sym c.in-Semicolon.is) ∙ c.kind_of.ensures) in
    closing-says c.args.variables c.args.line.now c.in-Some.rest.now c.read_end.result k c.read_end.ensures
