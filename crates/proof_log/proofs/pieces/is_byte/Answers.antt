use Rattle.proof_log.proofs.Cutting.{longer_word}
use Rattle.proof_log.proofs.pieces.is_byte.Goals as goal

pub returns-in-len2-up : goal.returns-in-len2-up
returns-in-len2-up c = longer_word c.args.word.now c.args.byte c.in-len2-up.len_at_least
