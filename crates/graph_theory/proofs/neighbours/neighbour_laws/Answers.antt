use Rattle.graph_theory.proofs.NeighbourCounts.{neighbour_laws_hold}
use Rattle.graph_theory.proofs.neighbours.neighbour_laws.Goals as goal

pub returns : goal.returns
returns c = neighbour_laws_hold
