use Rattle.std.proofs.Common.{◌≡◌, length}
use Rattle.log_theory.specs.LogText.{ref_of}
use Rattle.proof_log.specs.Reading.{behind, items_told}
use Rattle.proof_log.proofs.lists.read_refs.Given as goal

abbrev pub invariant-loop-word : goal.invariant-loop-word
invariant-loop-word l = behind l.items.items (items_told ref_of l.words) ≡ items_told ref_of l.fn.words

abbrev pub decreases-loop-word : goal.decreases-loop-word
decreases-loop-word l = length l.words
