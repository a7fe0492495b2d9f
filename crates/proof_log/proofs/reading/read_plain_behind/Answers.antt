use Rattle.std.proofs.Common.{sym, ◌∙◌, codes}
use Rattle.proof_log.proofs.PlainLines.{plain_of_kind}
use Rattle.proof_log.proofs.reading.read_plain_behind.Goals as goal

pub returns-then-is_byte : goal.returns-then-is_byte
returns-then-is_byte c = plain_of_kind c.args.kind.now (codes "u") c.args.words.now c.read_plain_u.result (sym c.is_byte.ensures ∙ c.if-is_byte.true) c.read_plain_u.ensures

pub returns-then-is_word : goal.returns-then-is_word
returns-then-is_word c = plain_of_kind c.args.kind.now (codes "embedding") c.args.words.now c.read_plain_head.result (sym c.is_word.ensures ∙ c.if-is_word.true) c.read_plain_head.ensures
