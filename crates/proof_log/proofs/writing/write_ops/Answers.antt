use Rattle.std.proofs.Common.{ap}
use Rattle.std.proofs.lemmas.Result.{err_from_is_err_and}
use Rattle.outer_io.specs.Sinks.{Spot}
use Rattle.proof_log.specs.Writing.{op_text}
use Rattle.proof_log.proofs.PutLines.{StopsIn-item}
use Rattle.proof_log.proofs.writing.write_ops.Goals as goal

pub returns-in_err-write_op-clause-text : goal.returns-in_err-write_op-clause-text
returns-in_err-write_op-clause-text g c =
    let p = err_from_is_err_and c.from_residual.result c.from_residual.ensures.1 in
    rw p.1
    (StopsIn-item op_text _ _ (ap (λ (s : Spot). s.steady) c.loop-op.invariant.same) _ _ _ c.args.ops.now c.loop-op.op-index _ c.loop-op-test.true c.loop-op.invariant.text
    c.in_err-write_op.ensures.text)
