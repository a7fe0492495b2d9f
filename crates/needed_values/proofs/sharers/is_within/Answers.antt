use Rattle.std.proofs.Common.{arith}
use Rattle.std.proofs.Math.Facts.{Fits-lt-pow}
use Rattle.std.proofs.lemmas.Bool.{eqb-true}
use Rattle.needed_values.proofs.Parts.{lost_next, within_all}
use Rattle.needed_values.proofs.sharers.is_within.Goals as goal

pub loop-place-preserved : goal.loop-place-preserved
loop-place-preserved c = lost_next c.args.row.now c.args.other.now c.loop-place.place c.loop-place.lost (Fits-lt-pow (c.type_inv.other c.loop-place.place)) c.loop-place.invariant

pub returns : goal.returns
returns c = λ h. within_all c.args.row.now c.args.other.now c.loop-place.place c.loop-place.lost (omega arith) (eqb-true c.loop-place.lost 0 h) c.loop-place.invariant
