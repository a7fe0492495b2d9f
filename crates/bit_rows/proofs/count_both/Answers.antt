use Rattle.std.proofs.Common.{◌/◌, arith}
use Rattle.std.proofs.Math.Facts.{Fits-lt-pow}
use Rattle.bit_rows.proofs.Shared.{shared_whole, shared_within}
use Rattle.bit_rows.proofs.count_both.Goals as goal

pub overflow_add-result : goal.overflow_add-result
overflow_add-result c =
    let whole = shared_whole c.args.xs.now c.args.ys.now c.args.below c.count_words-first.result (Fits-lt-pow (c.type_inv.xs (c.args.below / 64))) c.count_words-first.ensures.shared in
    omega (arith, whole, shared_within c.args.xs.now c.args.ys.now c.args.below)

pub returns-clause-shared : goal.returns-clause-shared
returns-clause-shared c =
    shared_whole c.args.xs.now c.args.ys.now c.args.below c.count_words-first.result (Fits-lt-pow (c.type_inv.xs (c.args.below / 64))) c.count_words-first.ensures.shared

pub returns-clause-few : goal.returns-clause-few
returns-clause-few c =
    let whole = shared_whole c.args.xs.now c.args.ys.now c.args.below c.count_words-first.result (Fits-lt-pow (c.type_inv.xs (c.args.below / 64))) c.count_words-first.ensures.shared in
    omega (arith, whole, shared_within c.args.xs.now c.args.ys.now c.args.below)
