use Rattle.dead_theory.proofs.Choosing.{walk_laws_hold}
use Rattle.dead_theory.proofs.walk_laws.Goals as goal

pub returns : goal.returns
returns c = walk_laws_hold
