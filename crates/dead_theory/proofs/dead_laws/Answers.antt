use Rattle.dead_theory.proofs.Dying.{dead_laws_hold}
use Rattle.dead_theory.proofs.dead_laws.Goals as goal

pub returns : goal.returns
returns c = dead_laws_hold
