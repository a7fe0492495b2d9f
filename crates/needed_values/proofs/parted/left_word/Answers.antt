use Rattle.std.proofs.Common.{◌∙◌, ◌&&◌, Bool, false, sym, ap}
use Rattle.bit_rows.specs.BitRows.{is_set}
use Rattle.bit_rows.proofs.WordBits.{is_set_and, is_set_and_not}
use Rattle.needed_values.specs.Consistent.{agree}
use Rattle.needed_values.proofs.parted.left_word.Goals as goal

pub returns-then-joined : goal.returns-then-joined
returns-then-joined c = λ b b_in.
    is_set_and c.args.word c.args.near b ∙ ap (λ (j : Bool). is_set c.args.word b && agree j c.args.induced (is_set c.args.near b)) (sym c.if-joined.true)

pub returns-then-induced : goal.returns-then-induced
returns-then-induced c = λ b b_in.
    is_set_and_not c.args.word c.args.near b c.ranges.near.fits b_in
    ∙ ap (λ (i : Bool). is_set c.args.word b && agree false i (is_set c.args.near b)) (sym c.if-induced.true)
    ∙ ap (λ (j : Bool). is_set c.args.word b && agree j c.args.induced (is_set c.args.near b)) (sym c.if-joined.false)
