use Rattle.forcing_theory.proofs.Summing.{sums}
use Rattle.forcing_theory.proofs.sum_laws.Goals as goal

pub returns : goal.returns
returns c = sums
