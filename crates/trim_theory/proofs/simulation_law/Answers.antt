use Rattle.trim_theory.proofs.Simulating.{simulation}
use Rattle.trim_theory.proofs.simulation_law.Goals as goal

pub returns : goal.returns
returns c = simulation
