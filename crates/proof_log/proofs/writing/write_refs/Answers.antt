use Rattle.std.proofs.Common.{ap}
use Rattle.std.proofs.lemmas.Result.{err_from_is_err_and}
use Rattle.outer_io.specs.Sinks.{Spot}
use Rattle.proof_log.specs.Writing.{spaced_ref}
use Rattle.proof_log.proofs.PutLines.{StopsIn-item}
use Rattle.proof_log.proofs.writing.write_refs.Goals as goal

pub returns-in_err-write_spaced_ref-clause-text : goal.returns-in_err-write_spaced_ref-clause-text
returns-in_err-write_spaced_ref-clause-text g c =
    let p = err_from_is_err_and c.from_residual.result c.from_residual.ensures.1 in
    rw p.1
    (StopsIn-item spaced_ref _ _ (ap (λ (s : Spot). s.steady) c.loop-reference.invariant.same) _ _ _ c.args.refs.now c.loop-reference.reference-index _ c.loop-reference-test.true c.loop-reference.invariant.text
    c.in_err-write_spaced_ref.ensures.text)
