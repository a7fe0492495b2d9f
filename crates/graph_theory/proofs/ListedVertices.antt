-- What a list of a text's vertices says of a label and of an edge.

use Rattle.std.proofs.Common.{◌≡◌, ℕ, ◌<◌, List, length, get_or, Option, ap, sym, subst, ◌∙◌}
use Rattle.std.proofs.lemmas.List.{get_or-map, length-map}
use Rattle.std.proofs.lemmas.Option.{slice_get-get_or}
use Rattle.graph_theory.specs.Lad.{Vertex, listed_label}
use Rattle.graph_theory.specs.Graph.{Graph, label, edge, size, listed_of, lists}
use Rattle.graph_theory.specs.GraphText.{text_edge, text_graph}
use Rattle.graph_theory.specs.declared.lad_text.LadKind.{LadKind}
use Rattle.graph_theory.proofs.Tables.{edge-graph_with}

-- the label of a vertex is its own
pub label-listed : (kind : LadKind) (vs : List Vertex) (a : ℕ) (v : Vertex) → a < length vs → (get_or vs a v).label ≡ label (text_graph kind vs) a
label-listed kind vs a v a_in = sym (get_or-map (λ (w : Vertex). w.label) vs a v 0 a_in)

-- what a vertex lists stands in its own list
pub lists-listed : (vs : List Vertex) (a b : ℕ) (v : Vertex) → a < length vs → listed_label (get_or vs a v).listed b ≡ lists vs a b
lists-listed vs a b v a_in = sym (ap (λ (o : Option Vertex). listed_label (listed_of o) b) (slice_get-get_or vs a v a_in))

-- the edge of two vertices is that of the text
pub edge-listed : (kind : LadKind) (vs : List Vertex) (a b : ℕ) → a < length vs → b < length vs → text_edge kind vs a b ≡ edge (text_graph kind vs) a b
edge-listed kind vs a b a_in b_in = sym (edge-graph_with (text_edge kind vs) vs a b a_in b_in)

-- a vertex of the graph has a place in the list
pub within : (kind : LadKind) (vs : List Vertex) (g : Graph) (a : ℕ) → text_graph kind vs ≡ g → a < size g → a < length vs
within kind vs g a is a_in = subst (λ (n : ℕ). a < n) (ap size (sym is) ∙ length-map vs (λ (w : Vertex). w.label)) a_in

-- and in a slice of it
pub place_in_list : (kind : LadKind) (us vs : List Vertex) (g : Graph) (a : ℕ) → text_graph kind vs ≡ g → us ≡ vs → a < size g → a < length us
place_in_list kind us vs g a is same a_in = subst (λ (ws : List Vertex). a < length ws) (sym same) (within kind vs g a is a_in)

-- the label in a graph that is theirs
pub label_of_graph : (kind : LadKind) (us vs : List Vertex) (g : Graph) (a r : ℕ) → text_graph kind vs ≡ g → us ≡ vs → r ≡ label (text_graph kind us) a → r ≡ label g a
label_of_graph kind us vs g a r is same e = e ∙ ap (λ (ws : List Vertex). label (text_graph kind ws) a) same ∙ ap (λ (h : Graph). label h a) is

-- the edge in a graph that is theirs
pub edge_of_graph : (kind : LadKind) (us vs : List Vertex) (g : Graph) (a b : ℕ) (r : Option ℕ) → text_graph kind vs ≡ g → us ≡ vs → a < size g → b < size g
    → r ≡ text_edge kind us a b → r ≡ edge g a b
edge_of_graph kind us vs g a b r is same a_in b_in e =
    e ∙ ap (λ (ws : List Vertex). text_edge kind ws a b) same
    ∙ edge-listed kind vs a b (within kind vs g a is a_in) (within kind vs g b is b_in) ∙ ap (λ (h : Graph). edge h a b) is
