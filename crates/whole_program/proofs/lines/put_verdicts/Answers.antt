use Rattle.std.proofs.Common.{rules, ap, sym, ◌∙◌, ◌≡◌, slice_get, Some}
use Rattle.std.proofs.lemmas.Result.{err_from_is_err_and}
use Rattle.std.proofs.lemmas.Option.{slice_get-get_or}
use Rattle.outer_io.specs.Sinks.{Spot}
use Rattle.whole_program.proofs.LineTexts.{verdict_put, verdict_stops}
use Rattle.whole_program.proofs.lines.put_verdicts.Goals as goal

pub returns-in_err-put_verdict-clause-text : goal.returns-in_err-put_verdict-clause-text
returns-in_err-put_verdict-clause-text g c =
    let here : slice_get c.args.verdicts.now c.loop-i.i ≡ Some c.index-verdicts-i.result =
    slice_get-get_or c.args.verdicts.now c.loop-i.i c.index-verdicts-i.result c.loop-i-test.true ∙ ap Some (sym c.index-verdicts-i.is) in
    let p = err_from_is_err_and c.from_residual.result c.from_residual.ensures.1 in
    rw p.1 (verdict_stops _ _ (ap (λ (s : Spot). s.steady) c.loop-i.invariant.same) _ _ _ c.args.verdicts.now c.loop-i.i c.index-verdicts-i.result here c.loop-i.invariant.text c.in_err-put_verdict.ensures.text)

pub loop-i-preserved : goal.loop-i-preserved
loop-i-preserved g c =
    let here : slice_get c.args.verdicts.now c.loop-i.i ≡ Some c.index-verdicts-i.result =
    slice_get-get_or c.args.verdicts.now c.loop-i.i c.index-verdicts-i.result c.loop-i-test.true ∙ ap Some (sym c.index-verdicts-i.is) in
    record {
      text = verdict_put _ _ _ c.args.verdicts.now c.loop-i.i c.index-verdicts-i.result here c.loop-i.invariant.text c.in_ok-put_verdict.ensures.text;
      same = search rules;
      others = search rules;
      faults = search rules;
    }
