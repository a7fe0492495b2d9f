use Rattle.std.proofs.Math.Facts.{Fits-lt-pow}
use Rattle.std.proofs.Common.{◌<◌, arith, w64}
use Rattle.std.specs.Int.{trailing_zeros}
use Rattle.bit_rows.proofs.WordBits.{low_is_set}
use Rattle.bit_rows.proofs.Counting.{left_in_word, fewer}
use Rattle.small_search.proofs.placing.best_of.Goals as goal

pub loop-rest-init : goal.loop-rest-init
loop-rest-init c =
    let small = Fits-lt-pow c.ranges.vertices in record {
      best = low_is_set c.args.vertices c.requires small;
      part = left_in_word c.args.vertices c.args.vertices (λ b h. h) c.requires small;
    }

pub loop-rest-preserved-then-own-most : goal.loop-rest-preserved-then-own-most
loop-rest-preserved-then-own-most c =
    let some : 0 < c.loop-rest.rest = omega (arith, c.loop-rest-test.true) in
    let small = Fits-lt-pow c.loop-rest.auto.rest-fits in
    record {
      best = c.loop-rest.invariant.part (trailing_zeros w64 c.loop-rest.rest) (low_is_set c.loop-rest.rest some small);
      part = left_in_word c.args.vertices c.loop-rest.rest c.loop-rest.invariant.part some small;
    }

pub loop-rest-preserved : goal.loop-rest-preserved
loop-rest-preserved c =
    let some : 0 < c.loop-rest.rest = omega (arith, c.loop-rest-test.true) in
    let small = Fits-lt-pow c.loop-rest.auto.rest-fits in
    record {
      best = c.loop-rest.invariant.best;
      part = left_in_word c.args.vertices c.loop-rest.rest c.loop-rest.invariant.part some small;
    }

pub loop-rest-smaller : goal.loop-rest-smaller
loop-rest-smaller c =
    let some : 0 < c.loop-rest.rest = omega (arith, c.loop-rest-test.true) in
    let small = Fits-lt-pow c.loop-rest.auto.rest-fits in
    omega (arith, fewer 0 c.loop-rest.rest some small)

pub loop-rest-smaller-then-own-most : goal.loop-rest-smaller-then-own-most
loop-rest-smaller-then-own-most c =
    let some : 0 < c.loop-rest.rest = omega (arith, c.loop-rest-test.true) in
    let small = Fits-lt-pow c.loop-rest.auto.rest-fits in
    omega (arith, fewer 0 c.loop-rest.rest some small)
