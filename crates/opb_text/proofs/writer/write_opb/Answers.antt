use Rattle.std.proofs.Common.{length}
use Rattle.std.specs.List.{flat_map}
use Rattle.std.proofs.lemmas.Result.{err_from_is_err_and}
use Rattle.outer_io.proofs.KnownTexts.{StopsIn-first}
use Rattle.log_theory.specs.Words.{line_text}
use Rattle.log_theory.specs.OpbText.{head_words, form_words}
use Rattle.opb_text.proofs.writer.write_opb.Goals as goal

pub returns-in_err-write_head-clause-text : goal.returns-in_err-write_head-clause-text
returns-in_err-write_head-clause-text g c =
    let p = err_from_is_err_and c.from_residual.result c.from_residual.ensures.1 in
    rw p.1 (StopsIn-first _ _ _ (line_text (head_words c.args.variables (length c.args.constraints.now))) (flat_map (λ f. line_text (form_words f)) c.args.constraints.now) c.in_err-write_head.ensures.text)
