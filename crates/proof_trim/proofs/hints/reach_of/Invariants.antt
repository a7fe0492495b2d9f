use Rattle.std.proofs.Common.{◌≤◌, ◌^◌}
use Rattle.proof_trim.proofs.hints.reach_of.Given as goal

abbrev pub invariant-loop-at : goal.invariant-loop-at
invariant-loop-at l = l.most ≤ 2 ^ 32
