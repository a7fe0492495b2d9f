use Rattle.std.proofs.Common.{◌<◌, get_or, ◌∙◌, length, ◌*◌, arith, w64}
use Rattle.std.specs.Int.{trailing_zeros}
use Rattle.std.proofs.Math.Facts.{Fits-lt-pow}
use Rattle.bit_rows.specs.BitRows.{has}
use Rattle.bit_rows.proofs.Passing.{count_none}
use Rattle.bit_rows.proofs.Rows.{has_at}
use Rattle.bit_rows.proofs.WordBits.{low_bit, low_is_set}
use Rattle.domain_bits.proofs.domains.first_value.Goals as goal

pub returns-then-row-place-ne0 : goal.returns-then-row-place-ne0
returns-then-row-place-ne0 c =
    let word = get_or c.args.row.now c.loop-place.place 0 in
    let some : 0 < word = omega arith in
    let small = Fits-lt-pow (c.type_inv.row c.loop-place.place) in
    has_at c.args.row.now c.loop-place.place (trailing_zeros w64 word) (low_bit word some small) ∙ low_is_set word some small

pub unreachable-requires : goal.unreachable-requires
unreachable-requires c =
    omega (arith, c.requires.some, count_none (has c.args.row.now) (64 * length c.args.row.now) (λ i l. c.loop-place.invariant i (omega arith)))
