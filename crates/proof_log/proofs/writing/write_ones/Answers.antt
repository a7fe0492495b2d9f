use Rattle.std.proofs.Common.{ap}
use Rattle.std.proofs.lemmas.Result.{err_from_is_err_and}
use Rattle.outer_io.specs.Sinks.{Spot}
use Rattle.proof_log.specs.Writing.{spaced_one}
use Rattle.proof_log.proofs.PutLines.{StopsIn-item}
use Rattle.proof_log.proofs.writing.write_ones.Goals as goal

pub returns-in_err-write_one-clause-text : goal.returns-in_err-write_one-clause-text
returns-in_err-write_one-clause-text g c =
    let p = err_from_is_err_and c.from_residual.result c.from_residual.ensures.1 in
    rw p.1
    (StopsIn-item spaced_one _ _ (ap (λ (s : Spot). s.steady) c.loop-one.invariant.same) _ _ _ c.args.ones.now c.loop-one.one-index _ c.loop-one-test.true c.loop-one.invariant.text
    c.in_err-write_one.ensures.text)
