use Rattle.std.proofs.Common.{sym, ◌∙◌}
use Rattle.std.proofs.lemmas.List.{append-nil}
use Rattle.graph_rows.proofs.MappingHeld.{added_more}
use Rattle.graph_rows.proofs.gathered.add.Goals as goal

pub loop-piece-init : goal.loop-piece-init
loop-piece-init c = sym (append-nil _)

pub loop-piece-preserved : goal.loop-piece-preserved
loop-piece-preserved c =
    added_more c.try_extend_from_slice.result c.args.text.now.items c.loop-piece.text.items c.try_extend_from_slice.new.self.items c.args.pieces.now c.loop-piece.piece-index _ c.loop-piece-test.true
    c.loop-piece.invariant c.try_extend_from_slice.ensures.ok (sym c.is_err.ensures.value ∙ c.if-is_err.false)
