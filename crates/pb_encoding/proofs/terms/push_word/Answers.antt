use Rattle.std.proofs.Common.{◌+◌, ◌*◌, arith, w64}
use Rattle.std.specs.Int.{trailing_zeros}
use Rattle.std.proofs.Math.Facts.{Fits-lt-pow}
use Rattle.pb_encoding.proofs.RowTerms.{pushed_one, pushed_word, fewer_left}
use Rattle.pb_encoding.proofs.terms.push_word.Goals as goal

pub loop-rest-smaller : goal.loop-rest-smaller
loop-rest-smaller c = omega (arith, fewer_left c.args.place c.loop-rest.rest (omega arith) (Fits-lt-pow c.loop-rest.auto.rest-fits))

pub loop-rest-preserved : goal.loop-rest-preserved
loop-rest-preserved c =
    pushed_one c.args.first c.args.place c.args.word c.loop-rest.rest (c.args.first + 64 * c.args.place + trailing_zeros w64 c.loop-rest.rest) c.args.out.now.items c.loop-rest.out.items c.push.new.self.items
    (omega arith) (Fits-lt-pow c.loop-rest.auto.rest-fits) c.loop-rest.invariant (omega arith) c.in_ok-push.ensures.items

pub returns : goal.returns
returns c = pushed_word c.args.first c.args.place c.args.word c.loop-rest.rest c.args.out.now.items c.loop-rest.out.items (omega (arith, c.loop-rest-test.false)) c.loop-rest.invariant
