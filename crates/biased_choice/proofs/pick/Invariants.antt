use Rattle.std.proofs.Common.{◌≡◌, ◌+◌, ◌*◌, ◌%◌}
use Rattle.biased_choice.specs.Bias.{below, total_weight}
use Rattle.biased_choice.proofs.pick.Given as goal

abbrev pub invariant-loop-place : goal.invariant-loop-place
invariant-loop-place l = l.rest + below l.row l.degrees (64 * l.place) ≡ l.word % total_weight l.row l.degrees
