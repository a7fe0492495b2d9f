use Rattle.std.proofs.Common.{◌≡◌, length}
use Rattle.log_theory.specs.LogText.{variable_of, all_of}
use Rattle.proof_log.proofs.FromLeft.{all_behind}
use Rattle.proof_log.proofs.lists.read_ones.Given as goal

abbrev pub invariant-loop-word : goal.invariant-loop-word
invariant-loop-word l = all_behind l.items.items (all_of variable_of l.words) ≡ all_of variable_of l.fn.words

abbrev pub decreases-loop-word : goal.decreases-loop-word
decreases-loop-word l = length l.words
