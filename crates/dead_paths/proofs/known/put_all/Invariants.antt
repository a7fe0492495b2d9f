use Rattle.dead_paths.specs.Choosing.{AreAt}
use Rattle.dead_paths.proofs.known.put_all.Given as goal

abbrev pub invariant-loop-x : goal.invariant-loop-x
invariant-loop-x l = AreAt l.at l.path
