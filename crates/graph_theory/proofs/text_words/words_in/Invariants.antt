use Rattle.std.proofs.Common.{◌≡◌, ◌++◌, length, map}
use Rattle.graph_theory.specs.Text.{words}
use Rattle.graph_theory.proofs.text_words.words_in.Given as goal

abbrev pub invariant-loop-word : goal.invariant-loop-word
invariant-loop-word l = map (λ w. w.now) l.found.items ++ words l.rest ≡ words l.bytes

abbrev pub decreases-loop-word : goal.decreases-loop-word
decreases-loop-word l = length l.rest
