-- What the graphs of texts are.
use Rattle.std.specs.Prelude.{◌≡◌, ℕ, List}
use Rattle.graph_theory.specs.Text.{words}
use Rattle.graph_theory.specs.Graph.{Graph}
use Rattle.graph_theory.specs.GraphText.{text_graph}
use Rattle.graph_theory.specs.Lad.{Vertex, Reads}
use Rattle.graph_theory.specs.declared.lad_text.LadKind.{LadKind}

-- The graph is that of the text, which has at most so many vertices.
pub record IsGraphOf (text : List ℕ) (kind : LadKind) (most : ℕ) (g : Graph) : Type 0 where
  pub vertices : List Vertex
  pub reads : Reads (words text) kind most vertices
  pub same : g ≡ text_graph kind vertices
