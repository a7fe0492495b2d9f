-- A target: a graph, and the format of the text that it was read from.

use Rattle.graph_theory.specs.Graph.{Graph}
use Rattle.graph_theory.specs.declared.lad_text.LadKind.{LadKind}

pub record Target : Type 0 where
  pub kind : LadKind
  pub graph : Graph
