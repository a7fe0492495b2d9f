use Rattle.std.proofs.Common.{arith}
use Rattle.std.proofs.Math.Facts.{Fits-lt-pow}
use Rattle.bit_rows.proofs.WholeRows.{has_and_not}
use Rattle.bit_rows.proofs.kernels.and_not_into.Goals as goal

pub returns : goal.returns
returns c = record { members = has_and_not _ _ _ c.loop-i.invariant.long c.requires.same_length (λ k. Fits-lt-pow (c.type_inv.from k)) (λ k h. c.loop-i.invariant.changed k (omega arith) (omega arith)) }
