use Rattle.graph_theory.proofs.ListedVertices.{edge_of_graph, place_in_list}
use Rattle.graph_theory.proofs.listed_graph.ListedGraph.edge.Goals as goal

pub edge_among-requires-clause-from : goal.edge_among-requires-clause-from
edge_among-requires-clause-from c = place_in_list c.self.inside.kind _ _ _ _ c.self.view_is c.deref.ensures.value c.requires.from

pub edge_among-requires-clause-to : goal.edge_among-requires-clause-to
edge_among-requires-clause-to c = place_in_list c.self.inside.kind _ _ _ _ c.self.view_is c.deref.ensures.value c.requires.to

pub returns : goal.returns
returns c = edge_of_graph c.self.inside.kind _ _ _ _ _ _ c.self.view_is c.deref.ensures.value c.requires.from c.requires.to c.edge_among.ensures
