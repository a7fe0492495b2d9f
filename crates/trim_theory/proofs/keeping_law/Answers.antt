use Rattle.trim_theory.proofs.Keeping.{keeping}
use Rattle.trim_theory.proofs.keeping_law.Goals as goal

pub returns : goal.returns
returns c = keeping
