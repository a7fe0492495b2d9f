use Rattle.std.proofs.Common.{◌-◌, ◌≤◌, length}
use Rattle.merged_log.proofs.Noting.{Below, Above}
use Rattle.merged_log.proofs.notes.note_of.Given as goal

-- The row is noted between the two places, or not at all.
abbrev pub invariant-loop-low : goal.invariant-loop-low
invariant-loop-low l = record { within : l.high ≤ length l.notes; met : l.low ≤ l.high; below : Below l.notes l.low l.row; above : Above l.notes l.high l.row }

abbrev pub decreases-loop-low : goal.decreases-loop-low
decreases-loop-low l = l.high - l.low
