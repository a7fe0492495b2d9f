use Rattle.demo_instances.proofs.Streams.{IsFront}
use Rattle.demo_instances.proofs.words.Words.new.Given as goal

-- The words so far, and where the generator stands.
abbrev pub invariant-loop-n : goal.invariant-loop-n
invariant-loop-n l = IsFront l.seed l._n l.generator l.words.items
