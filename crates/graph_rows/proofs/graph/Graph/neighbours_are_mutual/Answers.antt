use Rattle.graph_rows.proofs.HeldGraph.{plain_mutual}
use Rattle.graph_rows.proofs.graph.Graph.neighbours_are_mutual.Goals as goal

pub returns : goal.returns
returns c = plain_mutual c.args.self.now c.requires
