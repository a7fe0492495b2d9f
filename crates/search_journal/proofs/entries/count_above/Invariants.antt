use Rattle.std.proofs.Common.{◌≤◌, length, drop}
use Rattle.search_journal.specs.Entries.{AreFrom}
use Rattle.search_journal.proofs.entries.count_above.Given as goal

abbrev pub invariant-loop-place : goal.invariant-loop-place
invariant-loop-place l = (l.place ≤ length l.entries) × AreFrom l.level (drop l.place l.entries)

abbrev pub decreases-loop-place : goal.decreases-loop-place
decreases-loop-place l = l.place
