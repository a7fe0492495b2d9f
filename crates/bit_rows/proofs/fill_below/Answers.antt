use Rattle.std.proofs.Common.{arith}
use Rattle.bit_rows.proofs.WordsAt.{filled_next, filled_whole}
use Rattle.bit_rows.proofs.fill_below.Goals as goal

pub loop-place-preserved : goal.loop-place-preserved
loop-place-preserved c =
    filled_next c.loop-place.row c.loop-place.place c.word_below.result c.args.below (omega arith) c.word_below.ensures c.loop-place.invariant

pub returns : goal.returns
returns c = filled_whole c.loop-place.row c.args.below (omega arith) (λ v inside. c.loop-place.invariant v (omega arith))
