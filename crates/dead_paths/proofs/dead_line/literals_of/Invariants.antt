use Rattle.std.proofs.Common.{◌≡◌, take}
use Rattle.std.specs.Prelude.{map}
use Rattle.explanation_theory.specs.Reasons.{not_there}
use Rattle.dead_paths.proofs.dead_line.literals_of.Given as goal

abbrev pub invariant-loop-x : goal.invariant-loop-x
invariant-loop-x l = l.literals.items ≡ map (not_there l.q) (take l.x-index l.path)
