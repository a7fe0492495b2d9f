use Rattle.std.proofs.Common.{◌≡◌, length}
use Rattle.log_theory.specs.LogText.{literal_of}
use Rattle.proof_log.specs.Reading.{behind, items_told}
use Rattle.proof_log.proofs.lists.read_literals.Given as goal

abbrev pub invariant-loop-word : goal.invariant-loop-word
invariant-loop-word l = behind l.items.items (items_told literal_of l.words) ≡ items_told literal_of l.fn.words

abbrev pub decreases-loop-word : goal.decreases-loop-word
decreases-loop-word l = length l.words
