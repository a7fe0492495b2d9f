use Rattle.needed_values.specs.Sharers.{AreSharedCounts}
use Rattle.needed_values.proofs.sharers.push_counts.Given as goal

abbrev pub invariant-loop-r : goal.invariant-loop-r
invariant-loop-r l = AreSharedCounts l.pattern l.counts.items
