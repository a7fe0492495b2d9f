-- LAD texts: which words a graph is written by. (C. Solnon, AllDifferent-based filtering for subgraph isomorphism, 2010.)

use Rattle.std.specs.Prelude.{◌≡◌, ℕ, ◌<◌, ◌≤◌, ◌==◌, if◌then◌else◌, List, [], ◌∷◌, ◌++◌, length, map, Option, Some, None}
use Rattle.graph_theory.specs.Text.{number_of}
use Rattle.graph_theory.specs.declared.lad_text.LadKind.{LadKind}
use Rattle.graph_theory.specs.declared.lad_text.LadKind.TheVariants.{Lad, VertexLabelledLad, DirectedLad, LabelledLad}

-- What a text says of a vertex: its label, and the neighbours that it lists, each with the label of the edge to it.
pub record Vertex : Type 0 where
  pub label : ℕ
  pub listed : List (ℕ × ℕ)

-- The numbers that stand for a vertex's label: none in a format without labels.
abbrev pub label_numbers : LadKind → ℕ → List ℕ
label_numbers Lad label = []
label_numbers VertexLabelledLad label = label ∷ []
label_numbers DirectedLad label = []
label_numbers LabelledLad label = label ∷ []

-- The numbers that stand for an edge's label: none in a format without labels of edges.
abbrev pub edge_label_numbers : LadKind → ℕ → List ℕ
edge_label_numbers Lad label = []
edge_label_numbers VertexLabelledLad label = []
edge_label_numbers DirectedLad label = []
edge_label_numbers LabelledLad label = label ∷ []

-- The numbers of listed neighbours, each followed by those of its edge's label.
abbrev pub listed_numbers : LadKind → List (ℕ × ℕ) → List ℕ
listed_numbers kind [] = []
listed_numbers kind (e ∷ es) = e.0 ∷ (edge_label_numbers kind e.1 ++ listed_numbers kind es)

-- The numbers of a vertex: its label, how many neighbours it lists, and these.
abbrev pub vertex_numbers : LadKind → Vertex → List ℕ
vertex_numbers kind v = label_numbers kind v.label ++ length v.listed ∷ listed_numbers kind v.listed

-- The numbers of vertices, one after another.
abbrev pub all_numbers : LadKind → List Vertex → List ℕ
all_numbers kind [] = []
all_numbers kind (v ∷ vs) = vertex_numbers kind v ++ all_numbers kind vs

-- The numbers of a whole text: how many vertices there are, and theirs.
abbrev pub text_numbers : LadKind → List Vertex → List ℕ
text_numbers kind vs = length vs ∷ all_numbers kind vs

-- A label that the format does not write is 0.
abbrev pub HasLabel : LadKind → ℕ → Type 0
HasLabel Lad label = label ≡ 0
HasLabel VertexLabelledLad label = Unit {0}
HasLabel DirectedLad label = label ≡ 0
HasLabel LabelledLad label = Unit {0}

-- Likewise the label of an edge.
abbrev pub HasEdgeLabel : LadKind → ℕ → Type 0
HasEdgeLabel Lad label = label ≡ 0
HasEdgeLabel VertexLabelledLad label = label ≡ 0
HasEdgeLabel DirectedLad label = label ≡ 0
HasEdgeLabel LabelledLad label = Unit {0}

-- Each listed neighbour is below n, and its edge has a label that the format can give.
abbrev pub AreEach : LadKind → ℕ → List (ℕ × ℕ) → Type 0
AreEach kind n [] = Unit {0}
AreEach kind n (e ∷ es) = (e.0 < n) × HasEdgeLabel kind e.1 × AreEach kind n es

-- Where the neighbour of e is listed again, it has the label of e.
abbrev pub AgreesWith : ℕ × ℕ → List (ℕ × ℕ) → Type 0
AgreesWith e [] = Unit {0}
AgreesWith e (f ∷ es) = (f.0 ≡ e.0 → f.1 ≡ e.1) × AgreesWith e es

-- A neighbour that is listed again has the label that it had.
abbrev pub Agree : List (ℕ × ℕ) → Type 0
Agree [] = Unit {0}
Agree (e ∷ es) = AgreesWith e es × Agree es

-- Neighbours as a vertex may list them in a text of n vertices.
pub record AreListed (kind : LadKind) (n : ℕ) (es : List (ℕ × ℕ)) : Type 0 where
  pub each : AreEach kind n es
  pub agree : Agree es

-- The label with which b stands in a list of neighbours, or none.
abbrev pub listed_label : List (ℕ × ℕ) → ℕ → Option ℕ
listed_label [] b = None
listed_label (e ∷ es) b = if e.0 == b then Some e.1 else listed_label es b

-- A vertex as it may stand in a text of n vertices.
pub record IsVertex (kind : LadKind) (n : ℕ) (v : Vertex) : Type 0 where
  pub label : HasLabel kind v.label
  pub listed : AreListed kind n v.listed

-- Each of the vertices may stand in a text of n.
abbrev pub AreVertices : LadKind → ℕ → List Vertex → Type 0
AreVertices kind n [] = Unit {0}
AreVertices kind n (v ∷ vs) = IsVertex kind n v × AreVertices kind n vs

-- The whole list of words is the text of these vertices, of which there are no more than the limit.
pub record Reads (ws : List (List ℕ)) (kind : LadKind) (limit : ℕ) (vs : List Vertex) : Type 0 where
  pub few : length vs ≤ limit
  pub each : AreVertices kind (length vs) vs
  pub text : map number_of ws ≡ map Some (text_numbers kind vs)
