use Rattle.std.proofs.Common.{◌≡◌, ◌≤◌, ◌++◌, ◌-◌, length, take, drop}
use Rattle.merged_log.specs.Profiles.{up_to_mark}
use Rattle.merged_log.proofs.parts.mark_end.Given as goal

-- None of the bytes so far is a `;`.
abbrev pub invariant-loop-at : goal.invariant-loop-at
invariant-loop-at l = record { within : l.at ≤ length l.line; front : up_to_mark l.line ≡ take l.at l.line ++ up_to_mark (drop l.at l.line) }

abbrev pub decreases-loop-at : goal.decreases-loop-at
decreases-loop-at l = length l.line - l.at
