use Rattle.std.proofs.Common.{sym, ◌∙◌}
use Rattle.proof_log.proofs.Gathered.{gathered_more}
use Rattle.proof_log.proofs.gathering.gather.Goals as goal

pub loop-piece-preserved : goal.loop-piece-preserved
loop-piece-preserved c =
    gathered_more c.try_extend_from_slice.result c.loop-piece.bytes.items c.try_extend_from_slice.new.self.items c.args.pieces.now c.loop-piece.piece-index _ c.loop-piece-test.true
    c.loop-piece.invariant c.try_extend_from_slice.ensures.ok (sym c.is_err.ensures.value ∙ c.if-is_err.false)
