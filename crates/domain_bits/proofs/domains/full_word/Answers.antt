use Rattle.std.proofs.Common.{sym, ◌∙◌, arith}
use Rattle.std.proofs.lemmas.Bool.{lt-ltb}
use Rattle.bit_rows.proofs.WordBits.{one_shifted, is_set_ones}
use Rattle.domain_bits.proofs.domains.full_word.Goals as goal

pub returns-then-bits-lt64 : goal.returns-then-bits-lt64
returns-then-bits-lt64 c b l = rw (one_shifted c.args.bits c.if-bits-lt64.true) (is_set_ones c.args.bits b)

pub returns-else-bits-lt64 : goal.returns-else-bits-lt64
returns-else-bits-lt64 c b l = is_set_ones 64 b ∙ lt-ltb b 64 l ∙ sym (lt-ltb b c.args.bits (omega arith))
