use Rattle.std.proofs.Common.{ap, length}
use Rattle.std.proofs.lemmas.Result.{err_from_is_err_and}
use Rattle.outer_io.specs.Sinks.{Spot}
use Rattle.outer_io.proofs.KnownTexts.{StopsIn-first}
use Rattle.log_theory.specs.Words.{line_text}
use Rattle.log_theory.specs.OpbText.{head_words}
use Rattle.opb_text.proofs.Putting.{Wrote-then}
use Rattle.encoding_theory.specs.Variables.{variables}
use Rattle.encoding_theory.specs.Encoding.{encoding}
use Rattle.pb_encoding.specs.Writing.{forms_text}
use Rattle.pb_encoding.proofs.encoding.Encoding.write_by.Goals as goal

pub returns-in_err-write_head-clause-text : goal.returns-in_err-write_head-clause-text
returns-in_err-write_head-clause-text g c =
    let q = c.args.self.now in
    let p = err_from_is_err_and c.from_residual.result c.from_residual.ensures.1 in
    let head = rw (c.variables.ensures, c.len.ensures) at c.in_err-write_head.ensures.text in
    rw p.1 (StopsIn-first _ _ _ (line_text (head_words (variables q) (length (encoding q)))) (forms_text (encoding q)) head)

pub returns-clause-text : goal.returns-clause-text
returns-clause-text g c =
    let q = c.args.self.now in
    let head = rw (c.variables.ensures, c.len.ensures) at c.in_ok-write_head.ensures.text in
    Wrote-then _ _ (ap (λ (s : Spot). s.steady) c.write_head.ensures.cause.same) _ _ _ c.write_constraints.result (line_text (head_words (variables q) (length (encoding q)))) (forms_text (encoding q)) head c.write_constraints.ensures.text
