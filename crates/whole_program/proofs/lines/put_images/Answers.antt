use Rattle.std.proofs.Common.{rules, ap}
use Rattle.std.proofs.lemmas.Result.{err_from_is_err_and}
use Rattle.outer_io.specs.Sinks.{Spot}
use Rattle.whole_program.proofs.LineTexts.{image_put, image_stops}
use Rattle.whole_program.proofs.lines.put_images.Goals as goal

pub returns-in_err-put_image-clause-text : goal.returns-in_err-put_image-clause-text
returns-in_err-put_image-clause-text g c =
    let p = err_from_is_err_and c.from_residual.result c.from_residual.ensures.1 in
    rw p.1 (image_stops _ _ (ap (λ (s : Spot). s.steady) c.loop-i.invariant.same) _ _ _ c.args.images.now c.loop-i.i c.loop-i-test.true c.loop-i.invariant.text c.in_err-put_image.ensures.text)

pub loop-i-preserved : goal.loop-i-preserved
loop-i-preserved g c = record {
  text = image_put _ _ _ c.args.images.now c.loop-i.i c.loop-i-test.true c.loop-i.invariant.text c.in_ok-put_image.ensures.text;
  same = search rules;
  others = search rules;
  faults = search rules;
}
