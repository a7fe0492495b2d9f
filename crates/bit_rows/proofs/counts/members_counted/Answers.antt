use Rattle.std.proofs.Common.{leb, length, get_or, ◌+◌, ◌*◌, arith, w64}
use Rattle.std.proofs.Math.Facts.{Fits-lt-pow}
use Rattle.std.specs.Int.{trailing_zeros}
use Rattle.bit_rows.proofs.Counting.{enough, enough_where, fewer, in_range, counted_none, counted_of, counted_last}
use Rattle.bit_rows.proofs.counts.members_counted.Goals as goal

pub loop-rest-init : goal.loop-rest-init
loop-rest-init c = counted_none (enough c.args.counts.now c.args.least) c.args.place c.args.word

pub bounds-counts-place : goal.bounds-counts-place
bounds-counts-place c =
    omega (arith, in_range c.args.place c.args.word c.loop-rest.rest (length c.args.counts.now) c.requires.within c.loop-rest.invariant.part (omega arith) (Fits-lt-pow c.loop-rest.auto.rest-fits))

pub loop-rest-smaller : goal.loop-rest-smaller
loop-rest-smaller c = omega (arith, fewer c.args.place c.loop-rest.rest (omega arith) (Fits-lt-pow c.loop-rest.auto.rest-fits))

pub loop-rest-preserved : goal.loop-rest-preserved
loop-rest-preserved c =
    counted_of (enough c.args.counts.now c.args.least) c.args.place c.args.word c.loop-rest.rest c.loop-rest.kept c.from.result
    (leb c.args.least (get_or c.args.counts.now (64 * c.args.place + trailing_zeros w64 c.loop-rest.rest) 0)) (omega arith) (Fits-lt-pow c.loop-rest.auto.rest-fits) c.from.ensures
    (enough_where c.args.counts.now c.args.least (64 * c.args.place + trailing_zeros w64 c.loop-rest.rest)) c.loop-rest.invariant

pub returns : goal.returns
returns c = counted_last (enough c.args.counts.now c.args.least) c.args.place c.args.word c.loop-rest.rest c.loop-rest.kept c.loop-rest-test.false c.loop-rest.invariant
