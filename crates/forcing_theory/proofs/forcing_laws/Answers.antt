use Rattle.forcing_theory.proofs.Uniting.{unit}
use Rattle.forcing_theory.proofs.Chaining.{chain_refutes, closed_fewer}
use Rattle.forcing_theory.proofs.forcing_laws.Goals as goal

pub returns : goal.returns
returns c = record { unit = unit; chain = chain_refutes; fewer = closed_fewer }
