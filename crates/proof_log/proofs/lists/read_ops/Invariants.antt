use Rattle.std.proofs.Common.{◌≡◌, length}
use Rattle.proof_log.specs.Reading.{behind, ops_told}
use Rattle.proof_log.proofs.lists.read_ops.Given as goal

abbrev pub invariant-loop-word : goal.invariant-loop-word
invariant-loop-word l = behind l.items.items (ops_told l.words) ≡ ops_told l.fn.words

abbrev pub decreases-loop-word : goal.decreases-loop-word
decreases-loop-word l = length l.words
