-- Where a part of a line stopped, the line stopped.

use Rattle.std.proofs.Common.{ap, ◌∙◌}
use Rattle.std.proofs.lemmas.Result.{err_from_is_err_and}
use Rattle.outer_io.specs.Sinks.{Spot}
use Rattle.whole_program.proofs.LineTexts.{yes_stops_first, yes_stops_then}
use Rattle.whole_program.proofs.lines.put_verdict.Goals as goal

pub returns-in_err-put_all-in-Yes-clause-text : goal.returns-in_err-put_all-in-Yes-clause-text
returns-in_err-put_all-in-Yes-clause-text g c =
    let p = err_from_is_err_and c.from_residual.result c.from_residual.ensures.1 in
    rw p.1 (yes_stops_first _ _ _ c.args.job _ c.args.verdict.now c.in-Yes.images (c.as_bytes-number.ensures.value ∙ c.format.ensures.text) c.in-Yes.is c.in_err-put_all-in-Yes.ensures.text)

pub returns-in_err-put_images-in-Yes-clause-text : goal.returns-in_err-put_images-in-Yes-clause-text
returns-in_err-put_images-in-Yes-clause-text g c =
    let p = err_from_is_err_and c.from_residual-in_err-put_images-in-Yes.result c.from_residual-in_err-put_images-in-Yes.ensures.1 in
    rw p.1 (yes_stops_then _ _ _ _ _ c.args.job _ c.args.verdict.now c.in-Yes.images _ (ap (λ (s : Spot). s.steady) c.in_ok-put_all-in-Yes.ensures.cause.same)
    (c.as_bytes-number.ensures.value ∙ c.format.ensures.text) c.in-Yes.is c.deref.ensures.value c.in_ok-put_all-in-Yes.ensures.text c.in_err-put_images-in-Yes.ensures.text)
