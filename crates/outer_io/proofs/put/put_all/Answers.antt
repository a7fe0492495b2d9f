use Rattle.std.proofs.Common.{rules, ap}
use Rattle.std.proofs.lemmas.Result.{err_from_is_err_and}
use Rattle.outer_io.specs.Sinks.{Spot}
use Rattle.outer_io.proofs.JoinedPieces.{StopsIn-pieces, append_known-pieces}
use Rattle.outer_io.proofs.put.put_all.Goals as goal

pub returns-in_err-put-clause-text : goal.returns-in_err-put-clause-text
returns-in_err-put-clause-text g c =
    let p = err_from_is_err_and c.from_residual.result c.from_residual.ensures.1 in
    rw p.1 (StopsIn-pieces _ _ (ap (λ (s : Spot). s.steady) c.loop-piece.invariant.same) _ _ _ c.args.pieces.now c.loop-piece.piece-index _ c.loop-piece-test.true c.loop-piece.invariant.text c.in_err-put.ensures.text)

pub loop-piece-preserved : goal.loop-piece-preserved
loop-piece-preserved g c = record {
  text = append_known-pieces _ _ _ c.args.pieces.now c.loop-piece.piece-index _ c.loop-piece-test.true c.loop-piece.invariant.text c.in_ok-put.ensures.text;
  same = search rules;
  others = search rules;
  faults = search rules;
}
