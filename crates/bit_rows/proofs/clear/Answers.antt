use Rattle.std.proofs.Common.{arith}
use Rattle.bit_rows.proofs.Writing.{has_none}
use Rattle.bit_rows.proofs.clear.Goals as goal

pub returns : goal.returns
returns c = has_none _ (λ k inside. c.loop-word.invariant k (omega arith))
