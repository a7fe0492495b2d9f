use Rattle.pair_supports.proofs.Rowing.{MadeBelow}
use Rattle.pair_supports.proofs.kinds.fill_block.Given as goal

abbrev pub invariant-loop-i : goal.invariant-loop-i
invariant-loop-i l = MadeBelow l.q l.kinds l.width l.t l.first l.i l.initial.pool l.pool
