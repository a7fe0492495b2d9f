-- The numbers of a text are those of one list of vertices.

use Rattle.std.specs.Prelude.{◌≡◌, ℕ, List, [], ◌∷◌, ◌++◌, length, map, Option, Some, refl}
use Rattle.std.proofs.Common.{sym, ap, ◌∙◌, append_assoc, arith}
use Rattle.graph_theory.specs.Lad.{Vertex, edge_label_numbers, listed_numbers, vertex_numbers, all_numbers, text_numbers, HasEdgeLabel, AreEach, IsVertex, AreVertices}
use Rattle.graph_theory.specs.LadFault.{OneReading}
use Rattle.graph_theory.specs.declared.lad_text.LadKind.{LadKind}
use Rattle.graph_theory.specs.declared.lad_text.LadKind.TheVariants.{Lad, VertexLabelledLad, DirectedLad, LabelledLad}

-- Equal lists of words have equal parts.
some_heads : (x y : ℕ) (xs ys : List (Option ℕ)) → Some x ∷ xs ≡ Some y ∷ ys → (x ≡ y) × (xs ≡ ys)
some_heads x y xs ys e = (cc, cc)

-- Lists of numbers that stay lists of numbers in a list of words are equal.
some_cancel : (xs ys : List ℕ) → map Some xs ≡ map Some ys → xs ≡ ys
some_cancel [] [] e = refl
some_cancel [] (y ∷ ys) e = cc
some_cancel (x ∷ xs) [] e = cc
some_cancel (x ∷ xs) (y ∷ ys) e =
    let parts = some_heads x y (map Some xs) (map Some ys) e in
    let tails : xs ≡ ys = some_cancel xs ys parts.1 in
    let heads = parts.0 in
    cc

-- Equal lists have equal parts.
heads : {A : Type 0} (x y : A) (xs ys : List A) → x ∷ xs ≡ y ∷ ys → (x ≡ y) × (xs ≡ ys)
heads x y xs ys e = (cc, cc)

-- The label of an edge at the front of equal numbers is one: what the format writes, or 0.
edge_label_cancel : (kind : LadKind) (l m : ℕ) (r s : List ℕ) → HasEdgeLabel kind l → HasEdgeLabel kind m
    → edge_label_numbers kind l ++ r ≡ edge_label_numbers kind m ++ s → (l ≡ m) × (r ≡ s)
edge_label_cancel Lad l m r s h k e = (h ∙ sym k, e)
edge_label_cancel VertexLabelledLad l m r s h k e = (h ∙ sym k, e)
edge_label_cancel DirectedLad l m r s h k e = (h ∙ sym k, e)
edge_label_cancel LabelledLad l m r s h k e = heads l m r s e

-- A pair of two numbers.
abbrev pair : ℕ → ℕ → ℕ × ℕ
pair a b = (a, b)

-- Pairs of equal parts are equal.
pair_same : (e f : ℕ × ℕ) → e.0 ≡ f.0 → e.1 ≡ f.1 → e ≡ f
pair_same e f h k = ap (λ (a : ℕ). pair a e.1) h ∙ ap (pair f.0) k

-- As many neighbours, at the front of equal numbers, are equal.
listed_cancel : (kind : LadKind) (n m : ℕ) (es fs : List (ℕ × ℕ)) (r s : List ℕ) → length es ≡ length fs → AreEach kind n es → AreEach kind m fs
    → listed_numbers kind es ++ r ≡ listed_numbers kind fs ++ s → (es ≡ fs) × (r ≡ s)
listed_cancel kind n m [] [] r s l h k e = (refl, e)
listed_cancel kind n m [] (f ∷ fs) r s l h k e = absurd (omega arith)
listed_cancel kind n m (x ∷ es) [] r s l h k e = absurd (omega arith)
listed_cancel kind n m (x ∷ es) (f ∷ fs) r s l h k e =
    let parts = heads x.0 f.0 ((edge_label_numbers kind x.1 ++ listed_numbers kind es) ++ r) ((edge_label_numbers kind f.1 ++ listed_numbers kind fs) ++ s) e in
    let labels = edge_label_cancel kind x.1 f.1 (listed_numbers kind es ++ r) (listed_numbers kind fs ++ s) h.1 k.1
    (sym (append_assoc (edge_label_numbers kind x.1) (listed_numbers kind es) r) ∙ parts.1 ∙ append_assoc (edge_label_numbers kind f.1) (listed_numbers kind fs) s) in
    let rest = listed_cancel kind n m es fs r s (omega arith) h.2 k.2 labels.1 in
    let first : x ≡ f = pair_same x f parts.0 labels.0 in
    let more = rest.0 in
    ((cc), rest.1)

-- A vertex of two parts.
abbrev vertex : ℕ → List (ℕ × ℕ) → Vertex
vertex label listed = record { label = label; listed = listed }

-- Vertices of equal parts are equal.
vertex_same : (v u : Vertex) → v.label ≡ u.label → v.listed ≡ u.listed → v ≡ u
vertex_same v u h k = ap (λ (a : ℕ). vertex a v.listed) h ∙ ap (vertex u.label) k

-- The same from its number of neighbours on.
count_cancel : (kind : LadKind) (n m : ℕ) (v u : Vertex) (r s : List ℕ) → v.label ≡ u.label → IsVertex kind n v → IsVertex kind m u
    → length v.listed ∷ (listed_numbers kind v.listed ++ r) ≡ length u.listed ∷ (listed_numbers kind u.listed ++ s) → (v ≡ u) × (r ≡ s)
count_cancel kind n m v u r s label h k e =
    let count = heads _ _ _ _ e in
    let listed = listed_cancel kind n m v.listed u.listed r s count.0 h.listed.each k.listed.each count.1 in
    (vertex_same v u label listed.0, listed.1)

-- The vertex at the front of equal numbers is one.
vertex_cancel : (kind : LadKind) (n m : ℕ) (v u : Vertex) (r s : List ℕ) → IsVertex kind n v → IsVertex kind m u
    → vertex_numbers kind v ++ r ≡ vertex_numbers kind u ++ s → (v ≡ u) × (r ≡ s)
vertex_cancel Lad n m v u r s h k e = count_cancel Lad n m v u r s (h.label ∙ sym k.label) h k e
vertex_cancel DirectedLad n m v u r s h k e = count_cancel DirectedLad n m v u r s (h.label ∙ sym k.label) h k e
vertex_cancel VertexLabelledLad n m v u r s h k e =
    let label = heads _ _ _ _ e in count_cancel VertexLabelledLad n m v u r s label.0 h k label.1
vertex_cancel LabelledLad n m v u r s h k e =
    let label = heads _ _ _ _ e in count_cancel LabelledLad n m v u r s label.0 h k label.1

-- As many vertices of equal numbers are equal.
vertices_cancel : (kind : LadKind) (n m : ℕ) (vs us : List Vertex) → length vs ≡ length us → AreVertices kind n vs → AreVertices kind m us
    → all_numbers kind vs ≡ all_numbers kind us → vs ≡ us
vertices_cancel kind n m [] [] l h k e = refl
vertices_cancel kind n m [] (u ∷ us) l h k e = absurd (omega arith)
vertices_cancel kind n m (v ∷ vs) [] l h k e = absurd (omega arith)
vertices_cancel kind n m (v ∷ vs) (u ∷ us) l h k e =
    let one = vertex_cancel kind n m v u (all_numbers kind vs) (all_numbers kind us) h.0 k.0 e in
    let rest : vs ≡ us = vertices_cancel kind n m vs us (omega arith) h.1 k.1 one.1 in
    let first = one.0 in
    cc

-- A text has one reading.
pub one_reading : OneReading
one_reading ws kind limit vs us r s =
    let same : text_numbers kind vs ≡ text_numbers kind us = some_cancel _ _ (sym r.text ∙ s.text) in
    let parts = heads _ _ _ _ same in
    vertices_cancel kind (length vs) (length us) vs us parts.0 r.each s.each parts.1
