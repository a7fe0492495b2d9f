-- The vertices of a graph's parts, one after another.

use Rattle.std.specs.Prelude.{◌≡◌, ℕ, ◌+◌, ◌<◌, ◌≤◌, take, List, [], ◌∷◌, ◌++◌, length, map, Some, None, Result, Ok, Err, IfOk, refl}
use Rattle.std.proofs.Common.{ap, sym, subst, arith, get_or, Vec, Global}
use Rattle.std.proofs.lemmas.List.{map-append, map_more}
use Rattle.graph_theory.specs.Lad.{Vertex, edge_label_numbers, AreEach, AreVertices, Reads}
use Rattle.graph_theory.specs.LadFault.{refused_at}
use Rattle.graph_theory.specs.Progress.{At, Went, MayFollow, WentListed}
use Rattle.graph_theory.specs.declared.lad_text.LadKind.{LadKind}
use Rattle.graph_theory.specs.declared.lad_text.LadKind.TheVariants.{Lad, VertexLabelledLad, DirectedLad, LabelledLad}
use Rattle.graph_theory.specs.declared.lad_text.LadFault.{LadFault}
use Rattle.graph_theory.specs.declared.lad_text.Place.TheVariants.{Neighbour}
use Rattle.graph_theory.proofs.Steps.{Went-none, WentListed-more}
use Rattle.lad_reader.specs.declared.parts.GraphParts.{GraphParts}
use Rattle.lad_reader.specs.Parts.{unlabelled, vertices_from, vertices_by, vertices_of, WritesNoEdgeLabels, AreBelow, AllBelow}
use Rattle.lad_reader.proofs.LabelledParts.{length-labelled_from, AllBelow-labelled}

-- A format without labels of edges writes none, and gives each the label 0.
unlabelled_numbers : (kind : LadKind) → WritesNoEdgeLabels kind → edge_label_numbers kind 0 ≡ []
unlabelled_numbers Lad none = refl
unlabelled_numbers VertexLabelledLad none = refl
unlabelled_numbers DirectedLad none = refl
unlabelled_numbers LabelledLad none = absurd none

unlabelled_follows : (kind : LadKind) (es : List (ℕ × ℕ)) (b : ℕ) → WritesNoEdgeLabels kind → MayFollow kind es b 0
unlabelled_follows Lad es b none = refl
unlabelled_follows VertexLabelledLad es b none = refl
unlabelled_follows DirectedLad es b none = refl
unlabelled_follows LabelledLad es b none = absurd none

-- So a neighbour more is a word more.
pub unlabelled_more : (kind : LadKind) (size i : ℕ) (a b c : At) (es : List (ℕ × ℕ)) (x : ℕ) → WritesNoEdgeLabels kind → WentListed kind size i a b es → Went b c (x ∷ [])
    → refused_at (Neighbour size) (Some (Some x)) ≡ None → WentListed kind size (i + 1) a c (es ++ (x, 0) ∷ [])
unlabelled_more kind size i a b c es x none h k taken =
    WentListed-more kind size i a b c c es x 0 h k taken (subst (λ (v : List ℕ). Went c c v) (sym (unlabelled_numbers kind none)) (Went-none c)) (unlabelled_follows kind es x none)

-- Its vertices are those without labels of edges.
pub vertices_by-unlabelled : (kind : LadKind) (ls : List ℕ) (bss ess : List (List ℕ)) → WritesNoEdgeLabels kind → vertices_by kind ls bss ess ≡ vertices_from ls bss
vertices_by-unlabelled Lad ls bss ess none = refl
vertices_by-unlabelled VertexLabelledLad ls bss ess none = refl
vertices_by-unlabelled DirectedLad ls bss ess none = refl
vertices_by-unlabelled LabelledLad ls bss ess none = absurd none

-- One neighbour more.
pub unlabelled-push : (bs : List ℕ) (b : ℕ) → map unlabelled (bs ++ b ∷ []) ≡ map unlabelled bs ++ unlabelled b ∷ []
unlabelled-push bs b = map-append unlabelled bs (b ∷ [])

-- One vertex more.
pub vertices_from-push : (ls : List ℕ) (bss : List (List ℕ)) (l : ℕ) (bs : List ℕ) → length ls ≡ length bss
    → vertices_from (ls ++ l ∷ []) (bss ++ bs ∷ []) ≡ vertices_from ls bss ++ (record { label = l; listed = map unlabelled bs }) ∷ []
vertices_from-push [] [] l bs e = refl
vertices_from-push [] (cs ∷ bss) l bs e = absurd (omega arith)
vertices_from-push (k ∷ ls) [] l bs e = absurd (omega arith)
vertices_from-push (k ∷ ls) (cs ∷ bss) l bs e = ap (λ (vs : List Vertex). (record { label = k; listed = map unlabelled cs }) ∷ vs) (vertices_from-push ls bss l bs (omega arith))

-- There is a vertex for each label.
pub length-vertices_from : (ls : List ℕ) (bss : List (List ℕ)) → length ls ≡ length bss → length (vertices_from ls bss) ≡ length ls
length-vertices_from [] bss e = refl
length-vertices_from (l ∷ ls) [] e = absurd (omega arith)
length-vertices_from (l ∷ ls) (bs ∷ bss) e = let h = length-vertices_from ls bss (omega arith) in omega arith

-- Neighbours that may be listed in a text of n are below n.
AreBelow-listed : (kind : LadKind) (n : ℕ) (bs : List ℕ) → AreEach kind n (map unlabelled bs) → AreBelow n bs
AreBelow-listed kind n [] h = tt
AreBelow-listed kind n (b ∷ bs) h = (h.0, AreBelow-listed kind n bs h.2)

-- The neighbours of vertices that may stand in a text of n are below n.
pub AllBelow-vertices : (kind : LadKind) (n : ℕ) (ls : List ℕ) (bss : List (List ℕ)) → length ls ≡ length bss → AreVertices kind n (vertices_from ls bss) → AllBelow n bss
AllBelow-vertices kind n ls [] e h = tt
AllBelow-vertices kind n [] (bs ∷ bss) e h = absurd (omega arith)
AllBelow-vertices kind n (l ∷ ls) (bs ∷ bss) e h = (AreBelow-listed kind n bs h.0.listed.each, AllBelow-vertices kind n ls bss (omega arith) h.1)

-- There is a vertex for each label, in each format.
length-vertices_by : (kind : LadKind) (ls : List ℕ) (bss ess : List (List ℕ)) → length ls ≡ length bss → length (vertices_by kind ls bss ess) ≡ length ls
length-vertices_by Lad ls bss ess e = length-vertices_from ls bss e
length-vertices_by VertexLabelledLad ls bss ess e = length-vertices_from ls bss e
length-vertices_by DirectedLad ls bss ess e = length-vertices_from ls bss e
length-vertices_by LabelledLad ls bss ess e = length-labelled_from ls bss ess e

-- And their neighbours are below n.
AllBelow-vertices_by : (own kind : LadKind) (n : ℕ) (ls : List ℕ) (bss ess : List (List ℕ)) → length ls ≡ length bss → AreVertices kind n (vertices_by own ls bss ess) → AllBelow n bss
AllBelow-vertices_by Lad kind n ls bss ess e h = AllBelow-vertices kind n ls bss e h
AllBelow-vertices_by VertexLabelledLad kind n ls bss ess e h = AllBelow-vertices kind n ls bss e h
AllBelow-vertices_by DirectedLad kind n ls bss ess e h = AllBelow-vertices kind n ls bss e h
AllBelow-vertices_by LabelledLad kind n ls bss ess e h = AllBelow-labelled kind n ls bss ess e h

-- What was read is within the limit.
pub few_parts : (ws : List (List ℕ)) (kind : LadKind) (most : ℕ) (r : Result GraphParts LadFault) → IfOk r (λ p. length p.labels ≡ length p.neighbours)
    → IfOk r (λ p. Reads ws kind most (vertices_of p)) → IfOk r (λ p. length p.labels ≤ most)
few_parts ws kind most (Ok p) e h = let l = length-vertices_by p.kind p.labels p.neighbours p.edge_labels e in omega (arith, h.few)
few_parts ws kind most (Err d) e h = tt

-- Each neighbour that was read is a vertex.
pub parts_below : (ws : List (List ℕ)) (kind : LadKind) (most : ℕ) (r : Result GraphParts LadFault) → IfOk r (λ p. length p.labels ≡ length p.neighbours)
    → IfOk r (λ p. Reads ws kind most (vertices_of p)) → IfOk r (λ p. AllBelow (length p.labels) p.neighbours)
parts_below ws kind most (Ok p) e h =
    let l = length-vertices_by p.kind p.labels p.neighbours p.edge_labels e in
    AllBelow-vertices_by p.kind kind (length p.labels) p.labels p.neighbours p.edge_labels e
    (subst (λ (n : ℕ). AreVertices kind n (vertices_by p.kind p.labels p.neighbours p.edge_labels)) l h.each)
parts_below ws kind most (Err d) e h = tt

-- One vector more is copied.
pub copied_more : (vs : List (Vec ℕ Global)) (i : ℕ) (ls new : List (List ℕ)) (xs : List ℕ) (v : Vec ℕ Global) → i < length vs → v ≡ get_or vs i v → xs ≡ v.items
    → ls ≡ map (λ bs. bs.items) (take i vs) → new ≡ ls ++ xs ∷ [] → new ≡ map (λ bs. bs.items) (take (i + 1) vs)
copied_more vs i ls new xs v i_in v_is xs_is before more =
    rw (more, before, xs_is, map_more (λ (bs : Vec ℕ Global). bs.items) vs i v i_in) (ap (λ (w : Vec ℕ Global). map (λ (bs : Vec ℕ Global). bs.items) (take i vs) ++ w.items ∷ []) v_is)
