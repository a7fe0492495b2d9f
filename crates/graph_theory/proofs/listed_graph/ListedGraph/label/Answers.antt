use Rattle.graph_theory.proofs.ListedVertices.{label_of_graph, place_in_list}
use Rattle.graph_theory.proofs.listed_graph.ListedGraph.label.Goals as goal

pub label_among-requires : goal.label_among-requires
label_among-requires c = place_in_list c.self.inside.kind _ _ _ _ c.self.view_is c.deref.ensures.value c.requires

pub returns : goal.returns
returns c = label_of_graph c.self.inside.kind _ _ _ _ _ c.self.view_is c.deref.ensures.value c.label_among.ensures
