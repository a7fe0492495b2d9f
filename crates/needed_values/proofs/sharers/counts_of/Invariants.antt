use Rattle.needed_values.specs.Sharers.{AreSharedCounts}
use Rattle.needed_values.proofs.sharers.counts_of.Given as goal

abbrev pub invariant-loop-p : goal.invariant-loop-p
invariant-loop-p l = AreSharedCounts l.pattern l.counts.items
