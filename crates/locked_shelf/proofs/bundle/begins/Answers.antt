-- Rows whose beginning is the same as what was seen begin with it.
use Rattle.std.proofs.Common.{arith}
use Rattle.locked_shelf.proofs.Serving.{starts_by_take}
use Rattle.locked_shelf.proofs.bundle.begins.Goals as goal

pub returns : goal.returns
returns c = λ e. starts_by_take c.args.rows.now c.args.seen.now c.loop-k.k c.loop-k.invariant (omega arith)
