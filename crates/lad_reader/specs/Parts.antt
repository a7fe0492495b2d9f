-- What a graph's text says, as the reader gives it.

use Rattle.std.specs.Prelude.{ℕ, ◌<◌, List, [], ◌∷◌, map}
use Rattle.graph_theory.specs.Lad.{Vertex}
use Rattle.graph_theory.specs.declared.lad_text.LadKind.{LadKind}
use Rattle.graph_theory.specs.declared.lad_text.LadKind.TheVariants.{Lad, VertexLabelledLad, DirectedLad, LabelledLad}
use Rattle.lad_reader.specs.declared.parts.GraphParts.{GraphParts}

-- A neighbour that is listed without a label: its edge has label 0.
abbrev pub unlabelled : ℕ → ℕ × ℕ
unlabelled b = (b, 0)

-- Vertices from their labels and the neighbours that they list.
abbrev pub vertices_from : List ℕ → List (List ℕ) → List Vertex
vertices_from [] lists = []
vertices_from (l ∷ ls) [] = []
vertices_from (l ∷ ls) (bs ∷ lists) = record { label = l; listed = map unlabelled bs } ∷
    vertices_from ls lists

-- Listed neighbours, each with the label of its edge; where none is given it is 0.
abbrev pub with_labels : List ℕ → List ℕ → List (ℕ × ℕ)
with_labels [] es = []
with_labels (b ∷ bs) [] = (b, 0) ∷ with_labels bs []
with_labels (b ∷ bs) (e ∷ es) = (b, e) ∷ with_labels bs es

-- Vertices from their labels, the neighbours that they list, and the labels of the edges to these.
abbrev pub labelled_from : List ℕ → List (List ℕ) → List (List ℕ) → List Vertex
labelled_from [] lists labels = []
labelled_from (l ∷ ls) [] labels = []
labelled_from (l ∷ ls) (bs ∷ lists) [] = record { label = l; listed = with_labels bs [] } ∷
    labelled_from ls lists []
labelled_from (l ∷ ls) (bs ∷ lists) (es ∷ labels) = record {
  label = l;
  listed = with_labels bs es;
} ∷ labelled_from ls lists labels

-- Vertices in a format: only one has labels of edges.
abbrev pub vertices_by : LadKind → List ℕ → List (List ℕ) → List (List ℕ) → List Vertex
vertices_by Lad ls lists labels = vertices_from ls lists
vertices_by VertexLabelledLad ls lists labels = vertices_from ls lists
vertices_by DirectedLad ls lists labels = vertices_from ls lists
vertices_by LabelledLad ls lists labels = labelled_from ls lists labels

-- The vertices of a text that was read.
abbrev pub vertices_of : GraphParts → List Vertex
vertices_of parts = vertices_by parts.kind parts.labels parts.neighbours parts.edge_labels

-- A format without labels of edges.
abbrev pub WritesNoEdgeLabels : LadKind → Type 0
WritesNoEdgeLabels Lad = Unit {0}
WritesNoEdgeLabels VertexLabelledLad = Unit {0}
WritesNoEdgeLabels DirectedLad = Unit {0}
WritesNoEdgeLabels LabelledLad = ⊥

-- Each number is below n.
abbrev pub AreBelow : ℕ → List ℕ → Type 0
AreBelow n [] = Unit {0}
AreBelow n (b ∷ bs) = (b < n) × AreBelow n bs

-- Each number of each list is below n.
abbrev pub AllBelow : ℕ → List (List ℕ) → Type 0
AllBelow n [] = Unit {0}
AllBelow n (bs ∷ lists) = AreBelow n bs × AllBelow n lists
