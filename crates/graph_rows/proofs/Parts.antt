-- The graph of a text's parts.

use Rattle.std.proofs.Common.{◌≡◌, ℕ, ◌*◌, ◌<◌, zero, suc, Bool, true, false, eqb, ◌||◌, if◌then◌else◌, List, [], ◌∷◌, length, map, get_or, Option, Some, None, slice_get, refl, sym, ap, subst, ◌∙◌, arith}
use Rattle.std.proofs.lemmas.List.{length-map}
use Rattle.graph_theory.specs.Lad.{Vertex, listed_label}
use Rattle.graph_theory.specs.GraphText.{text_graph}
use Rattle.graph_theory.specs.Plain.{IsPlain, IsUndirected}
use Rattle.graph_theory.specs.declared.lad_text.LadKind.{LadKind}
use Rattle.graph_theory.specs.declared.lad_text.LadKind.TheVariants.{Lad, VertexLabelledLad, DirectedLad, LabelledLad}
use Rattle.graph_theory.proofs.PlainGraphs.{plain_of}
use Rattle.graph_theory.specs.Graph.{Graph, tabulate, listed_of, lists, or_label, either_lists, graph_with, graph_of}
use Rattle.lad_reader.specs.Parts.{unlabelled, with_labels, vertices_from, labelled_from, vertices_by, WritesNoEdgeLabels, AreBelow, AllBelow}
use Rattle.graph_rows.specs.Held.{marked, edge_of_mark, edge_held, graph_held, stands_in, said, either_said, label_in, label_listed, AreMarks, AreMutual, AreTurned}
use Rattle.graph_rows.proofs.Marking.{room_in_row}
use Rattle.graph_rows.proofs.HeldGraph.{tabulate-same}

-- a list of numbers below n has such a number in each place
pub below_at : (n : ℕ) (bs : List ℕ) (i : ℕ) → AreBelow n bs → i < length bs → get_or bs i 0 < n
below_at n [] i h i_in = absurd (omega arith)
below_at n (b ∷ bs) zero h i_in = h.0
below_at n (b ∷ bs) (suc i) h i_in = below_at n bs i h.1 (omega arith)

-- and likewise a list of lists
pub all_below_at : (n : ℕ) (ls : List (List ℕ)) (i : ℕ) (bs : List ℕ) → AllBelow n ls → slice_get ls i ≡ Some bs → AreBelow n bs
all_below_at n [] i bs h e = cc
all_below_at n (cs ∷ ls) zero bs h e = let same : cs ≡ bs = cc in subst (λ (xs : List ℕ). AreBelow n xs) same h.0
all_below_at n (cs ∷ ls) (suc i) bs h e = all_below_at n ls i bs h.1 e

-- each vertex has its label
pub labels-vertices : (ls : List ℕ) (lists : List (List ℕ)) → length ls ≡ length lists → map (λ (v : Vertex). v.label) (vertices_from ls lists) ≡ ls
labels-vertices [] lists e = refl
labels-vertices (l ∷ ls) [] e = absurd (omega arith)
labels-vertices (l ∷ ls) (bs ∷ lists) e = ap (λ (ks : List ℕ). l ∷ ks) (labels-vertices ls lists (omega arith))

-- there are as many vertices as labels
pub length-vertices : (ls : List ℕ) (lists : List (List ℕ)) → length ls ≡ length lists → length (vertices_from ls lists) ≡ length ls
length-vertices [] lists e = refl
length-vertices (l ∷ ls) [] e = absurd (omega arith)
length-vertices (l ∷ ls) (bs ∷ lists) e = ap suc (length-vertices ls lists (omega arith))

-- a vertex lists what stands in its place
listed-vertices : (ls : List ℕ) (lists : List (List ℕ)) (a : ℕ) → length ls ≡ length lists → listed_of (slice_get (vertices_from ls lists) a) ≡ map unlabelled (get_or lists a [])
listed-vertices [] [] a e = refl
listed-vertices [] (bs ∷ lists) a e = absurd (omega arith)
listed-vertices (l ∷ ls) [] a e = absurd (omega arith)
listed-vertices (l ∷ ls) (bs ∷ lists) zero e = refl
listed-vertices (l ∷ ls) (bs ∷ lists) (suc a) e = listed-vertices ls lists a (omega arith)

-- a neighbour that is listed has label 0
listed_label-unlabelled : (bs : List ℕ) (b : ℕ) → listed_label (map unlabelled bs) b ≡ edge_of_mark (stands_in bs b)
listed_label-unlabelled [] b = refl
listed_label-unlabelled (c ∷ cs) b = by (eqb c b) (listed_label (map unlabelled cs) b) (stands_in cs b) (listed_label-unlabelled cs b)
  where
    by : (t : Bool) (o : Option ℕ) (m : Bool) → o ≡ edge_of_mark m → (if t then Some 0 else o) ≡ edge_of_mark (t || m)
    by true o m e = refl
    by false o m e = e

lists-vertices : (ls : List ℕ) (bss : List (List ℕ)) (a b : ℕ) → length ls ≡ length bss → lists (vertices_from ls bss) a b ≡ edge_of_mark (said bss a b)
lists-vertices ls bss a b e =
    ap (λ (es : List (ℕ × ℕ)). listed_label es b) (listed-vertices ls bss a e) ∙ listed_label-unlabelled (get_or bss a []) b

-- an edge stands where either end lists the other
pub either-vertices : (ls : List ℕ) (bss : List (List ℕ)) (a b : ℕ) → length ls ≡ length bss → either_lists (vertices_from ls bss) a b ≡ edge_of_mark (either_said bss a b)
either-vertices ls bss a b e = rw (lists-vertices ls bss a b e, lists-vertices ls bss b a e) (by (said bss a b) (said bss b a))
  where
    by : (s r : Bool) → or_label (edge_of_mark s) (edge_of_mark r) ≡ edge_of_mark (s || r)
    by true r = refl
    by false r = refl

-- ---- vertices with labels of edges

-- each vertex has its label
labels-labelled : (ls : List ℕ) (bss ess : List (List ℕ)) → length ls ≡ length bss → map (λ (v : Vertex). v.label) (labelled_from ls bss ess) ≡ ls
labels-labelled [] bss ess e = refl
labels-labelled (l ∷ ls) [] ess e = absurd (omega arith)
labels-labelled (l ∷ ls) (bs ∷ bss) [] e = ap (λ (ks : List ℕ). l ∷ ks) (labels-labelled ls bss [] (omega arith))
labels-labelled (l ∷ ls) (bs ∷ bss) (es ∷ ess) e = ap (λ (ks : List ℕ). l ∷ ks) (labels-labelled ls bss ess (omega arith))

-- a vertex lists what stands in its place
listed-labelled : (ls : List ℕ) (bss ess : List (List ℕ)) (a : ℕ) → length ls ≡ length bss
    → listed_of (slice_get (labelled_from ls bss ess) a) ≡ with_labels (get_or bss a []) (get_or ess a [])
listed-labelled [] [] ess a e = refl
listed-labelled [] (bs ∷ bss) ess a e = absurd (omega arith)
listed-labelled (l ∷ ls) [] ess a e = absurd (omega arith)
listed-labelled (l ∷ ls) (bs ∷ bss) [] zero e = refl
listed-labelled (l ∷ ls) (bs ∷ bss) [] (suc a) e = listed-labelled ls bss [] a (omega arith)
listed-labelled (l ∷ ls) (bs ∷ bss) (es ∷ ess) zero e = refl
listed-labelled (l ∷ ls) (bs ∷ bss) (es ∷ ess) (suc a) e = listed-labelled ls bss ess a (omega arith)

-- the first label of a neighbour that is listed
listed_label-with : (bs es : List ℕ) (b : ℕ) → listed_label (with_labels bs es) b ≡ edge_held (stands_in bs b) (label_in (with_labels bs es) b)
listed_label-with [] es b = refl
listed_label-with (c ∷ bs) [] b = first_or (eqb c b) 0 (listed_label (with_labels bs []) b) (stands_in bs b) (label_in (with_labels bs []) b) (listed_label-with bs [] b)
  where
    first_or : (t : Bool) (l : ℕ) (o : Option ℕ) (m : Bool) (k : ℕ) → o ≡ edge_held m k → (if t then Some l else o) ≡ edge_held (t || m) (if t then l else k)
    first_or true l o m k e = refl
    first_or false l o m k e = e
listed_label-with (c ∷ bs) (f ∷ es) b = first_or (eqb c b) f (listed_label (with_labels bs es) b) (stands_in bs b) (label_in (with_labels bs es) b) (listed_label-with bs es b)
  where
    first_or : (t : Bool) (l : ℕ) (o : Option ℕ) (m : Bool) (k : ℕ) → o ≡ edge_held m k → (if t then Some l else o) ≡ edge_held (t || m) (if t then l else k)
    first_or true l o m k e = refl
    first_or false l o m k e = e

lists-labelled : (ls : List ℕ) (bss ess : List (List ℕ)) (a b : ℕ) → length ls ≡ length bss
    → lists (labelled_from ls bss ess) a b ≡ edge_held (said bss a b) (label_listed bss ess a b)
lists-labelled ls bss ess a b e =
    ap (λ (es : List (ℕ × ℕ)). listed_label es b) (listed-labelled ls bss ess a e) ∙ listed_label-with (get_or bss a []) (get_or ess a []) b

-- ---- the graph that is made

-- labels, marks and labels of edges that are those of vertices and edges hold their graph
graph-held_with : (labels words : List ℕ) (label_at : ℕ → ℕ → ℕ) (width : ℕ) (vs : List Vertex) (edges : ℕ → ℕ → Option ℕ) → map (λ (v : Vertex). v.label) vs ≡ labels
    → ((a b : ℕ) → a < length labels → b < length labels → edge_held (marked words width a b) (label_at a b) ≡ edges a b)
    → graph_held labels words label_at width ≡ graph_with edges vs
graph-held_with labels words label_at width vs edges names same =
    ap (λ (rows : List (List (Option ℕ))). record { labels = labels; rows = rows }) rows_same
    ∙ ap (λ (n : ℕ). record { labels = labels; rows = table n }) (sym sizes)
    ∙ ap (λ (ks : List ℕ). record { labels = ks; rows = table (length vs) }) (sym names)
  where
    table : ℕ → List (List (Option ℕ))
    table n = tabulate n (λ a. tabulate n (λ b. edges a b))

    sizes : length vs ≡ length labels
    sizes = sym (length-map vs (λ (v : Vertex). v.label)) ∙ ap length names

    rows_same : tabulate (length labels) (λ a. tabulate (length labels) (λ b. edge_held (marked words width a b) (label_at a b))) ≡ table (length labels)
    rows_same = tabulate-same (length labels) _ _ [] (λ a a_in. tabulate-same (length labels) _ _ None (λ b b_in. same a b a_in b_in))

-- in a format without directions
pub graph-made : (labels ls words kept degrees : List ℕ) (label_at : ℕ → ℕ → ℕ) (n width : ℕ) (bss : List (List ℕ)) → labels ≡ ls → kept ≡ words → length ls ≡ length bss → n ≡ length ls → AreMarks n width words degrees
    → ((x y : ℕ) → x < 64 * width → y < 64 * width → marked words width x y ≡ either_said bss x y) → ((x y : ℕ) → label_at x y ≡ 0)
    → graph_held labels kept label_at width ≡ graph_of (vertices_from ls bss)
graph-made labels ls words kept degrees label_at n width bss same put e long marks marks_said none =
    ap (λ (ks : List ℕ). graph_held ks kept label_at width) same
    ∙ ap (λ (ws : List ℕ). graph_held ls ws label_at width) put
    ∙ graph-held_with ls words label_at width (vertices_from ls bss) (either_lists (vertices_from ls bss)) (labels-vertices ls bss e)
    (λ a b a_in b_in.
    let room = room_in_row n width marks.width_is in
    ap (edge_held (marked words width a b)) (none a b) ∙ ap edge_of_mark (marks_said a b (omega (arith, room)) (omega (arith, room))) ∙ sym (either-vertices ls bss a b e))

-- in one with directions
pub directed-made : (labels ls words kept degrees : List ℕ) (label_at : ℕ → ℕ → ℕ) (n width : ℕ) (bss : List (List ℕ)) → labels ≡ ls → kept ≡ words → length ls ≡ length bss → n ≡ length ls → AreMarks n width words degrees
    → ((x y : ℕ) → x < 64 * width → y < 64 * width → marked words width x y ≡ said bss x y) → ((x y : ℕ) → label_at x y ≡ 0)
    → graph_held labels kept label_at width ≡ graph_with (lists (vertices_from ls bss)) (vertices_from ls bss)
directed-made labels ls words kept degrees label_at n width bss same put e long marks marks_said none =
    ap (λ (ks : List ℕ). graph_held ks kept label_at width) same
    ∙ ap (λ (ws : List ℕ). graph_held ls ws label_at width) put
    ∙ graph-held_with ls words label_at width (vertices_from ls bss) (lists (vertices_from ls bss)) (labels-vertices ls bss e)
    (λ a b a_in b_in.
    let room = room_in_row n width marks.width_is in
    ap (edge_held (marked words width a b)) (none a b) ∙ ap edge_of_mark (marks_said a b (omega (arith, room)) (omega (arith, room))) ∙ sym (lists-vertices ls bss a b e))

-- in one with labels of edges
pub labelled-made : (labels ls words kept degrees : List ℕ) (label_at : ℕ → ℕ → ℕ) (n width : ℕ) (bss ess : List (List ℕ)) → labels ≡ ls → kept ≡ words → length ls ≡ length bss → n ≡ length ls → AreMarks n width words degrees
    → ((x y : ℕ) → x < 64 * width → y < 64 * width → marked words width x y ≡ said bss x y)
    → ((x y : ℕ) → x < length bss → y < 64 * width → marked kept width x y ≡ true → label_at x y ≡ label_listed bss ess x y)
    → graph_held labels kept label_at width ≡ graph_with (lists (labelled_from ls bss ess)) (labelled_from ls bss ess)
labelled-made labels ls words kept degrees label_at n width bss ess same put e long marks marks_said labels_are =
    ap (λ (ks : List ℕ). graph_held ks kept label_at width) same
    ∙ ap (λ (ws : List ℕ). graph_held ls ws label_at width) put
    ∙ graph-held_with ls words label_at width (labelled_from ls bss ess) (lists (labelled_from ls bss ess)) (labels-labelled ls bss ess e)
    (λ a b a_in b_in.
    let room = room_in_row n width marks.width_is in
    by (marked words width a b) (label_at a b) (label_listed bss ess a b)
    (λ mark. labels_are a b (omega arith) (omega (arith, room)) (ap (λ (ws : List ℕ). marked ws width a b) put ∙ mark))
    ∙ ap (λ (m : Bool). edge_held m (label_listed bss ess a b)) (marks_said a b (omega (arith, room)) (omega (arith, room)))
    ∙ sym (lists-labelled ls bss ess a b e))
  where
    by : (m : Bool) (l k : ℕ) → (m ≡ true → l ≡ k) → edge_held m l ≡ edge_held m k
    by true l k h = ap Some (h refl)
    by false l k h = refl

-- a graph of a format with directions, by its kind
pub made-directed : (kind : LadKind) (labels ls words kept degrees : List ℕ) (label_at : ℕ → ℕ → ℕ) (n width : ℕ) (bss ess : List (List ℕ)) → (IsUndirected kind → ⊥) → labels ≡ ls → kept ≡ words → length ls ≡ length bss → n ≡ length ls
    → AreMarks n width words degrees → ((x y : ℕ) → x < 64 * width → y < 64 * width → marked words width x y ≡ said bss x y)
    → (WritesNoEdgeLabels kind → (x y : ℕ) → label_at x y ≡ 0)
    → (kind ≡ LabelledLad → (x y : ℕ) → x < length bss → y < 64 * width → marked kept width x y ≡ true → label_at x y ≡ label_listed bss ess x y)
    → graph_held labels kept label_at width ≡ text_graph kind (vertices_by kind ls bss ess)
made-directed Lad labels ls words kept degrees label_at n width bss ess apart same put e long marks marks_said none labels_are = absurd (apart tt)
made-directed VertexLabelledLad labels ls words kept degrees label_at n width bss ess apart same put e long marks marks_said none labels_are = absurd (apart tt)
made-directed DirectedLad labels ls words kept degrees label_at n width bss ess apart same put e long marks marks_said none labels_are =
    directed-made labels ls words kept degrees label_at n width bss same put e long marks marks_said (none tt)
made-directed LabelledLad labels ls words kept degrees label_at n width bss ess apart same put e long marks marks_said none labels_are =
    labelled-made labels ls words kept degrees label_at n width bss ess same put e long marks marks_said (labels_are refl)

or_turned : (a b : Bool) → (a || b) ≡ (b || a)
or_turned true true = refl
or_turned true false = refl
or_turned false true = refl
or_turned false false = refl

-- marks that say what the lists do are mutual
pub mutual_made : (n width : ℕ) (words degrees : List ℕ) (bss : List (List ℕ)) → AreMarks n width words degrees
    → ((x y : ℕ) → x < 64 * width → y < 64 * width → marked words width x y ≡ either_said bss x y) → AreMutual n width words
mutual_made n width words degrees bss marks both = record {
  each = λ a b a_in b_in.
      let room = room_in_row n width marks.width_is in
      both a b (omega (arith, room)) (omega (arith, room)) ∙ or_turned (said bss a b) (said bss b a) ∙ sym (both b a (omega (arith, room)) (omega (arith, room)));
}

-- marks of the lists, and of the lists turned round, are turned
pub turned_made : (n width : ℕ) (words back degrees : List ℕ) (bss : List (List ℕ)) → AreMarks n width back degrees
    → ((x y : ℕ) → x < 64 * width → y < 64 * width → marked words width x y ≡ said bss x y)
    → ((x y : ℕ) → x < 64 * width → y < 64 * width → marked back width x y ≡ said bss y x) → AreTurned n width words back degrees
turned_made n width words back degrees bss marks out in_said = record {
  marks = marks;
  each = λ a b a_in b_in.
      let room = room_in_row n width marks.width_is in
      in_said a b (omega (arith, room)) (omega (arith, room)) ∙ sym (out b a (omega (arith, room)) (omega (arith, room)));
}

-- the graph of lists without labels is plain
pub plain_made : (ls : List ℕ) (bss : List (List ℕ)) (g : Graph) → length ls ≡ length bss → g ≡ graph_of (vertices_from ls bss) → IsPlain g
plain_made ls bss g e is =
    subst (λ (h : Graph). IsPlain h) (sym is) (plain_of (vertices_from ls bss) (λ a b l there. of_mark (said bss a b) l (sym (lists-vertices ls bss a b e) ∙ there)))
  where
    of_mark : (m : Bool) (l : ℕ) → edge_of_mark m ≡ Some l → l ≡ 0
    of_mark true l h = let k : 0 ≡ l = cc in sym k
    of_mark false l h = absurd cc
