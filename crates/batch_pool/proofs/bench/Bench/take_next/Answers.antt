use Rattle.std.proofs.Common.{arith}
use Rattle.batch_pool.proofs.Keeps.{takes, learns}
use Rattle.batch_pool.proofs.bench.Bench.take_next.Goals as goal

pub pop_as-requires-clause-rule : goal.pop_as-requires-clause-rule
pop_as-requires-clause-rule g c = let p = c.requires.worked.parts in (takes _ _ (omega arith), learns _ _)
