use Rattle.std.proofs.Common.{rules, ap}
use Rattle.std.proofs.lemmas.Result.{err_from_is_err_and}
use Rattle.proof_theory.specs.Forms.{Form}
use Rattle.outer_io.specs.Sinks.{Spot}
use Rattle.log_theory.specs.Words.{line_text}
use Rattle.log_theory.specs.OpbText.{form_words}
use Rattle.opb_text.proofs.Putting.{StopsIn-item, append_known-item}
use Rattle.opb_text.proofs.writer.write_lines.Goals as goal

pub returns-in_err-write_line-clause-text : goal.returns-in_err-write_line-clause-text
returns-in_err-write_line-clause-text g c =
    let p = err_from_is_err_and c.from_residual.result c.from_residual.ensures.1 in
    let h = rw c.constraint-item.is at c.in_err-write_line.ensures.text in
    rw p.1 (StopsIn-item (λ (f : Form). line_text (form_words f)) _ _ (ap (λ (s : Spot). s.steady) c.loop-constraint.invariant.same) _ _ _ c.args.constraints.now c.loop-constraint.constraint-index c.constraint-item.result c.loop-constraint-test.true c.loop-constraint.invariant.text h)

pub loop-constraint-preserved : goal.loop-constraint-preserved
loop-constraint-preserved g c =
    let h = rw c.constraint-item.is at c.in_ok-write_line.ensures.text in
    record {
      text = append_known-item (λ (f : Form). line_text (form_words f)) _ _ _ c.args.constraints.now c.loop-constraint.constraint-index c.constraint-item.result c.loop-constraint-test.true c.loop-constraint.invariant.text h;
      same = search rules;
      others = search rules;
      faults = search rules;
    }
