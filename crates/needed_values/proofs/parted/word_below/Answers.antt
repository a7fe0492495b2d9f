use Rattle.std.proofs.Common.{ℕ, ◌%◌, ◌-◌, ap, ◌∙◌, arith}
use Rattle.bit_rows.specs.BitRows.{is_set}
use Rattle.bit_rows.proofs.WordBits.{one_shifted}
use Rattle.bit_rows.proofs.WordsAt.{all_bits, first_bits, no_bits}
use Rattle.needed_values.proofs.parted.word_below.Goals as goal

pub returns-then-place-below : goal.returns-then-place-below
returns-then-place-below c = λ b b_in. all_bits c.args.place c.args.below b (omega arith) b_in

pub returns-then-place-below-2 : goal.returns-then-place-below-2
returns-then-place-below-2 c = λ b b_in.
    ap (λ (n : ℕ). is_set (n - 1) b) (one_shifted (c.args.below % 64) (omega arith)) ∙ first_bits c.args.place c.args.below b (omega arith) b_in

pub returns-else-place-below-2 : goal.returns-else-place-below-2
returns-else-place-below-2 c = λ b b_in. no_bits c.args.place c.args.below b (omega arith)
