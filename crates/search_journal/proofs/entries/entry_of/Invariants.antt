use Rattle.std.proofs.Common.{◌≤◌, length, drop}
use Rattle.search_journal.specs.Entries.{HasEntry}
use Rattle.search_journal.proofs.entries.entry_of.Given as goal

abbrev pub invariant-loop-place : goal.invariant-loop-place
invariant-loop-place l = (l.place ≤ length l.entries) × (HasEntry (drop l.place l.entries) l.level l.value → ⊥)

abbrev pub decreases-loop-place : goal.decreases-loop-place
decreases-loop-place l = l.place
