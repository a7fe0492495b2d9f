use Rattle.std.proofs.Common.{◌≡◌, None, replicate}
use Rattle.batch_pool.proofs.entries.Entries.new.Given as goal

abbrev pub invariant-loop-k : goal.invariant-loop-k
invariant-loop-k g l = l.slots.items ≡ replicate l._k None
