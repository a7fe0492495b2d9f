-- The graph that a text is.

use Rattle.std.specs.Prelude.{◌≡◌, ℕ, List, Option}
use Rattle.graph_theory.specs.Lad.{Vertex, Reads}
use Rattle.graph_theory.specs.Graph.{Graph, lists, either_lists, graph_with}
use Rattle.graph_theory.specs.declared.lad_text.LadKind.{LadKind}
use Rattle.graph_theory.specs.declared.lad_text.LadKind.TheVariants.{Lad, VertexLabelledLad, DirectedLad, LabelledLad}

-- The edge from a to b in a format: where either lists the other, or in one with directions where a lists b.
abbrev pub text_edge : LadKind → List Vertex → ℕ → ℕ → Option ℕ
text_edge Lad vs = either_lists vs
text_edge VertexLabelledLad vs = either_lists vs
text_edge DirectedLad vs = lists vs
text_edge LabelledLad vs = lists vs

-- The graph of these vertices in a format.
abbrev pub text_graph : LadKind → List Vertex → Graph
text_graph kind vs = graph_with (text_edge kind vs) vs

-- The whole list of words is the text of the graph g, which has no more vertices than the limit.
pub record ReadsGraph (ws : List (List ℕ)) (kind : LadKind) (limit : ℕ) (g : Graph) : Type 0 where
  pub vertices : List Vertex
  pub reads : Reads ws kind limit vertices
  pub graph_is : g ≡ text_graph kind vertices
