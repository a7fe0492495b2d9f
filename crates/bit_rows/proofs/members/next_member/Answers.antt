use Rattle.std.proofs.Common.{◌/◌, ◌%◌, ◌^◌, ◌<◌, get_or, arith}
use Rattle.std.proofs.Math.Facts.{Fits-lt-pow}
use Rattle.bit_rows.proofs.Walking.{low_from, none_to_own, own_member, none_before_word, none_to_word, word_member, shifted_small}
use Rattle.bit_rows.proofs.members.next_member.Goals as goal

pub returns-then-rest-ne0-clause-high : goal.returns-then-rest-ne0-clause-high
returns-then-rest-ne0-clause-high c =
    let row = c.args.row.now in
    let from = c.args.from in
    let small = Fits-lt-pow (c.type_inv.row (from / 64)) in
    let some : 0 < get_or row (from / 64) 0 / 2 ^ (from % 64) = omega (arith, c.if-rest-ne0.true) in
    let low = low_from row (from / 64) (from % 64) small some (shifted_small (get_or row (from / 64) 0) (from % 64) small) in
    omega (arith, low.0, c.requires.from, c.if-place-row.false)

pub returns-then-rest-ne0-clause-none : goal.returns-then-rest-ne0-clause-none
returns-then-rest-ne0-clause-none c =
    let row = c.args.row.now in
    let from = c.args.from in
    let small = Fits-lt-pow (c.type_inv.row (from / 64)) in
    none_to_own row from small (omega (arith, c.if-rest-ne0.true)) (shifted_small (get_or row (from / 64) 0) (from % 64) small)

pub returns-then-rest-ne0-clause-member : goal.returns-then-rest-ne0-clause-member
returns-then-rest-ne0-clause-member c within =
    let row = c.args.row.now in
    let from = c.args.from in
    let small = Fits-lt-pow (c.type_inv.row (from / 64)) in
    own_member row from small (omega (arith, c.if-rest-ne0.true)) (shifted_small (get_or row (from / 64) 0) (from % 64) small)

pub returns-then-next-row-clause-none : goal.returns-then-next-row-clause-none
returns-then-next-row-clause-none c = none_before_word c.args.row.now c.args.from c.next_word-next.result c.if-rest-ne0.false c.next_word-next.ensures.zero

pub returns-clause-none : goal.returns-clause-none
returns-clause-none c =
    none_to_word c.args.row.now c.args.from c.next_word-next.result c.if-rest-ne0.false c.next_word-next.ensures.zero
    (c.next_word-next.ensures.some (omega (arith, c.next_word-next.ensures.high, c.if-next-row.false))) (Fits-lt-pow (c.type_inv.row c.next_word-next.result))

pub returns-clause-member : goal.returns-clause-member
returns-clause-member c within =
    word_member c.args.row.now c.next_word-next.result
    (c.next_word-next.ensures.some (omega (arith, c.next_word-next.ensures.high, c.if-next-row.false))) (Fits-lt-pow (c.type_inv.row c.next_word-next.result))
