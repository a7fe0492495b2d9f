use Rattle.std.proofs.lemmas.Result.{err_from_is_err_and}
use Rattle.outer_io.proofs.KnownTexts.{StopsIn-first}
use Rattle.proof_log.proofs.writing.write_u.Goals as goal

pub returns-in_err-write_clause-clause-text : goal.returns-in_err-write_clause-clause-text
returns-in_err-write_clause-clause-text g c =
    let p = err_from_is_err_and c.from_residual.result c.from_residual.ensures.1 in
    rw p.1 (StopsIn-first _ _ _ _ _ c.in_err-write_clause.ensures.text)
