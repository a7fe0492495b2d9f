use Rattle.std.proofs.Common.{◌≡◌, ◌*◌}
use Rattle.biased_choice.specs.Bias.{below}
use Rattle.biased_choice.proofs.all_weights.Given as goal

abbrev pub invariant-loop-place : goal.invariant-loop-place
invariant-loop-place l = l.sum ≡ below l.row l.degrees (64 * l.place)
