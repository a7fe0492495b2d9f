use Rattle.needed_values.proofs.Parts.{Lost}
use Rattle.needed_values.proofs.sharers.is_within.Given as goal

abbrev pub invariant-loop-place : goal.invariant-loop-place
invariant-loop-place l = Lost l.row l.other l.place l.lost
