use Rattle.pair_supports.proofs.Blocks.{Lengthened}
use Rattle.pair_supports.proofs.rows.add_block.Given as goal

abbrev pub invariant-loop-word : goal.invariant-loop-word
invariant-loop-word l = Lengthened l.fn.pool.items l.pool.items l._word
