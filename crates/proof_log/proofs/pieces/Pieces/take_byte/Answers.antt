use Rattle.std.proofs.Common.{sym, ◌∙◌}
use Rattle.proof_log.proofs.Cutting.{took_seen}
use Rattle.proof_log.proofs.pieces.Pieces.take_byte.Goals as goal

pub returns-then-next_is-clause-taken : goal.returns-then-next_is-clause-taken
returns-then-next_is-clause-taken c = λ e. took_seen c.args.self.now c.next-piece.new.self c.args.byte c.next-piece.result c.next-piece.ensures (sym c.next_is.ensures ∙ c.if-next_is.true)
