use Rattle.std.proofs.Common.{◌+◌, ◌*◌, arith}
use Rattle.std.proofs.Math.Facts.{Fits-lt-pow}
use Rattle.bit_rows.proofs.Shared.{shared_next, shared_within}
use Rattle.bit_rows.proofs.count_words.Goals as goal

pub loop-i-preserved : goal.loop-i-preserved
loop-i-preserved c =
    let more = shared_next c.args.xs.now c.args.ys.now c.loop-i.i (Fits-lt-pow (c.type_inv.xs c.loop-i.i)) in
    let within = shared_within c.args.xs.now c.args.ys.now (64 * (c.loop-i.i + 1)) in
    (omega (arith, more, c.loop-i.invariant.0), omega (arith, more, c.loop-i.invariant.0, within))
