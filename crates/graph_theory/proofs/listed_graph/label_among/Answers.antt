use Rattle.std.proofs.Common.{◌∙◌, ap}
use Rattle.graph_theory.specs.Lad.{Vertex}
use Rattle.graph_theory.proofs.ListedVertices.{label-listed}
use Rattle.graph_theory.proofs.listed_graph.label_among.Goals as goal

pub returns : goal.returns
returns c = c.label.ensures ∙ (ap (λ (v : Vertex). v.label) c.index-vertices-a.is ∙ label-listed c.args.kind _ _ _ c.requires)
