use Rattle.dead_theory.proofs.Dying.{told_laws_hold}
use Rattle.dead_theory.proofs.told_laws.Goals as goal

pub returns : goal.returns
returns c = told_laws_hold
