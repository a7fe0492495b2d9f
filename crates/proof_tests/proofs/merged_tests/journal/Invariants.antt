use Rattle.std.proofs.Common.{◌≡◌, [], length}
use Rattle.proof_tests.proofs.merged_tests.journal.Given as goal

-- The lines so far are kept.
abbrev pub invariant-loop-line : goal.invariant-loop-line
invariant-loop-line l = record { owner : l.journal.owner ≡ l.owner; notes : l.journal.notes ≡ []; lines : length l.journal.steps ≡ l.line-index }
