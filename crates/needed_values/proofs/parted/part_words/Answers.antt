use Rattle.std.proofs.Common.{◌<◌, ◌^◌, length, arith}
use Rattle.needed_values.proofs.Parts.{bits_next, left_next, parts_next}
use Rattle.needed_values.proofs.parted.part_words.Goals as goal

pub loop-place-preserved : goal.loop-place-preserved
loop-place-preserved c =
    let other_in : c.loop-place.place < length c.loop-place.other = omega (arith, c.loop-place-test.true) in
    let left_in : c.loop-place.place < length c.loop-place.left = omega (arith, c.loop-place-test.true) in
    let small : c.left_word-kept.result < 2 ^ 64 = omega arith in
    record {
      bits = bits_next c.args.row.now c.args.near.now c.loop-place.other c.loop-place.left c.loop-place.place c.word_below.result c.left_word-kept.result c.loop-place.lost c.args.below c.args.asked.joined c.args.asked.induced other_in left_in small c.word_below.ensures c.left_word-kept.ensures c.loop-place.invariant.bits;
      parted = left_next c.args.row.now c.args.near.now c.loop-place.other c.loop-place.left c.loop-place.place c.word_below.result c.left_word-kept.result c.loop-place.lost c.args.below c.args.asked.joined c.args.asked.induced other_in left_in small c.word_below.ensures c.left_word-kept.ensures c.loop-place.invariant.parted;
      lost = parts_next c.args.row.now c.args.near.now c.loop-place.other c.loop-place.left c.loop-place.place c.word_below.result c.left_word-kept.result c.loop-place.lost c.args.below c.args.asked.joined c.args.asked.induced other_in left_in small c.word_below.ensures c.left_word-kept.ensures c.loop-place.invariant.lost;
    }
