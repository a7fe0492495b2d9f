use Rattle.std.proofs.Common.{◌≡◌}
use Rattle.biased_choice.specs.Streams.{jumps, seeded}
use Rattle.biased_choice.proofs.Chooser.new.Given as goal

abbrev pub invariant-loop-before : goal.invariant-loop-before
invariant-loop-before l = l.words ≡ jumps l._before (seeded l.seed)
