use Rattle.graph_theory.proofs.ReversedGraphs.{reversed_laws_hold}
use Rattle.graph_theory.proofs.direction.reversed_laws.Goals as goal

pub returns : goal.returns
returns c = reversed_laws_hold
