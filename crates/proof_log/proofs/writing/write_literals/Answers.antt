use Rattle.std.proofs.Common.{ap}
use Rattle.std.proofs.lemmas.Result.{err_from_is_err_and}
use Rattle.outer_io.specs.Sinks.{Spot}
use Rattle.proof_log.specs.Writing.{spaced_literal}
use Rattle.proof_log.proofs.PutLines.{StopsIn-item}
use Rattle.proof_log.proofs.writing.write_literals.Goals as goal

pub returns-in_err-write_literal-clause-text : goal.returns-in_err-write_literal-clause-text
returns-in_err-write_literal-clause-text g c =
    let p = err_from_is_err_and c.from_residual.result c.from_residual.ensures.1 in
    rw p.1
    (StopsIn-item spaced_literal _ _ (ap (λ (s : Spot). s.steady) c.loop-literal.invariant.same) _ _ _ c.args.literals.now c.loop-literal.literal-index _ c.loop-literal-test.true c.loop-literal.invariant.text
    c.in_err-write_literal.ensures.text)
