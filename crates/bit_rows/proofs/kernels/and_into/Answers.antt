use Rattle.std.proofs.Common.{arith}
use Rattle.bit_rows.proofs.WholeRows.{has_and}
use Rattle.bit_rows.proofs.kernels.and_into.Goals as goal

pub returns : goal.returns
returns c = record { members = has_and _ _ _ c.loop-i.invariant.long c.requires.same_length (λ k h. c.loop-i.invariant.changed k (omega arith) (omega arith)) }
