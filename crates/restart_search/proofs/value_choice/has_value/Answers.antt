use Rattle.std.proofs.Common.{◌+◌, ◌*◌, ◌<◌, get_or, ◌∙◌, arith, w64}
use Rattle.std.specs.Int.{trailing_zeros}
use Rattle.std.proofs.Math.Facts.{Fits-lt-pow}
use Rattle.bit_rows.proofs.Rows.{has_at}
use Rattle.bit_rows.proofs.WordBits.{low_bit, low_is_set}
use Rattle.restart_search.proofs.value_choice.has_value.Goals as goal

pub returns-then-row-place-ne0-clause-some : goal.returns-then-row-place-ne0-clause-some
returns-then-row-place-ne0-clause-some c is =
    let word = get_or c.args.row.now c.loop-place.place 0 in
    let some : 0 < word = omega (arith, c.if-row-place-ne0.true) in
    let small = Fits-lt-pow (c.type_inv.row c.loop-place.place) in
    (64 * c.loop-place.place + trailing_zeros w64 word, has_at c.args.row.now c.loop-place.place (trailing_zeros w64 word) (low_bit word some small) ∙ low_is_set word some small)
