use Rattle.graph_rows.proofs.HeldGraph.{degree_is}
use Rattle.graph_rows.proofs.graph.Graph.degree.Goals as goal

pub returns : goal.returns
returns c = degree_is _ _ _ c.self.inside.degrees.items _ _ _ _ _ c.self.view_is c.self.invariant.0 c.requires c.from.ensures c.index.ensures
