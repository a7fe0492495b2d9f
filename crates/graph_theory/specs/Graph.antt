-- Graphs: a number of vertices, a label for each, and for each ordered pair of vertices an edge's label or nothing.

use Rattle.std.specs.Prelude.{ℕ, List, [], length, map, Option, Some, None, slice_index, slice_get}
use Rattle.std.specs.List.{range_with_len}
use Rattle.graph_theory.specs.Lad.{Vertex, listed_label}

-- Row a says of each vertex b whether an edge leads from a to b, and with which label.
pub record Graph : Type 0 where
  pub labels : List ℕ
  pub rows : List (List (Option ℕ))

-- The number of vertices.
abbrev pub size : Graph → ℕ
size g = length g.labels

-- The label of a vertex.
abbrev pub label : Graph → ℕ → ℕ
label g a = slice_index g.labels a

-- The edge's label in an entry of a row, where there is such an entry.
abbrev pub entry_edge : Option (Option ℕ) → Option ℕ
entry_edge None = None
entry_edge (Some e) = e

-- The label of the edge to b in a row, where there is such a row.
abbrev pub row_edge : Option (List (Option ℕ)) → ℕ → Option ℕ
row_edge None b = None
row_edge (Some row) b = entry_edge (slice_get row b)

-- The label of the edge from a to b, or none where no edge stands.
abbrev pub edge : Graph → ℕ → ℕ → Option ℕ
edge g a b = row_edge (slice_get g.rows a) b

-- The list that has f i at each i below n.
abbrev pub tabulate : {X : Type 0} → ℕ → (ℕ → X) → List X
tabulate n f = map f (range_with_len 0 n)

-- The neighbours that a vertex lists, where there is one.
abbrev pub listed_of : Option Vertex → List (ℕ × ℕ)
listed_of None = []
listed_of (Some v) = v.listed

-- The label with which vertex a lists b, or none.
abbrev pub lists : List Vertex → ℕ → ℕ → Option ℕ
lists vs a b = listed_label (listed_of (slice_get vs a)) b

-- The first of two labels that is there.
abbrev pub or_label : Option ℕ → Option ℕ → Option ℕ
or_label None f = f
or_label (Some l) f = Some l

-- In a format without directions an edge stands between a and b exactly where a lists b or b lists a. (Each label is 0 there.)
abbrev pub either_lists : List Vertex → ℕ → ℕ → Option ℕ
either_lists vs a b = or_label (lists vs a b) (lists vs b a)

-- The graph of these vertices and edges.
abbrev pub graph_with : (ℕ → ℕ → Option ℕ) → List Vertex → Graph
graph_with edges vs = record {
  labels = map (λ v. v.label) vs;
  rows = tabulate (length vs) (λ a. tabulate (length vs) (λ b. edges a b));
}

-- The graph of a text in a format without directions.
abbrev pub graph_of : List Vertex → Graph
graph_of vs = graph_with (either_lists vs) vs
