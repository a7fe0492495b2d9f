use Rattle.std.proofs.Common.{◌≡◌, take}
use Rattle.merged_log.specs.Answers.{embedding_ones}
use Rattle.merged_log.proofs.ones.ones_of.Given as goal

-- The variables so far.
abbrev pub invariant-loop-p : goal.invariant-loop-p
invariant-loop-p l = l.ones.items ≡ embedding_ones l.q (take l.p l.map)
