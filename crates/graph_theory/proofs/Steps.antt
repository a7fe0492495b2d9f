-- A reader's calls, one after another: what they went over together, and where they stop.

use Rattle.std.specs.Prelude.{◌≡◌, ℕ, ◌+◌, ◌<◌, List, [], ◌∷◌, ◌++◌, length, map, Option, Some, None, refl}
use Rattle.std.proofs.Common.{sym, ap, subst, ◌∙◌, append_assoc, length-append, inl, inr, arith}
use Rattle.std.proofs.lemmas.List.{append-nil}
use Rattle.graph_theory.specs.Text.{number_of}
use Rattle.graph_theory.specs.Lad.{Vertex, label_numbers, edge_label_numbers, listed_numbers, listed_label, vertex_numbers, all_numbers, HasLabel, IsVertex, AreVertices, Reads}
use Rattle.graph_theory.specs.LadFault.{Begun, Due, refused_at, first_of, Fault, OnWord}
use Rattle.graph_theory.specs.Progress.{At, Went, StopsAt, MayFollow, StopsAtLabel, WentListed, StopsListed, WentVertex, StopsVertex, WentVertices, StopsVertices}
use Rattle.graph_theory.specs.declared.lad_text.LadKind.{LadKind}
use Rattle.graph_theory.specs.declared.lad_text.LadKind.TheVariants.{Lad, VertexLabelledLad, DirectedLad, LabelledLad}
use Rattle.graph_theory.specs.declared.lad_text.LadCause.{LadCause}
use Rattle.graph_theory.specs.declared.lad_text.LadCause.TheVariants.{WordsLeft}
use Rattle.graph_theory.specs.declared.lad_text.LadFault.{LadFault}
use Rattle.graph_theory.specs.declared.lad_text.LadFault.TheVariants.{Word, NoMemory}
use Rattle.graph_theory.specs.declared.lad_text.Place.{Place}
use Rattle.graph_theory.specs.declared.lad_text.Place.TheVariants.{Size, Number, Neighbour, EdgeLabel, End}
use Rattle.graph_theory.proofs.Listing.{AreListed-none, AreListed-push, listed_numbers-push}
use Rattle.graph_theory.proofs.Descent.{split_both, neighbour_below, size_within, begun_in_list, due_within}

-- A weaker fact of a fault's word.
pub OnWord-weaker : (e : LadFault) (P Q : ℕ → LadCause → Type 0) → ((w : ℕ) (cause : LadCause) → P w cause → Q w cause) → OnWord e P → OnWord e Q
OnWord-weaker NoMemory P Q f h = tt
OnWord-weaker (Word w cause) P Q f h = f w cause h

-- Nothing was taken.
pub Went-none : (a : At) → Went a a []
Went-none a = record { left = refl; count = omega arith }

-- One after another.
pub Went-append : (a b c : At) (xs ys : List ℕ) → Went a b xs → Went b c ys → Went a c (xs ++ ys)
Went-append a b c xs ys h k =
    record { left = split_both a.0 b.0 c.0 xs ys h.left k.left; count = omega (arith, h.count, k.count, length-append xs ys) }

-- After what was taken the words stop.
pub StopsAt-after : (a b : At) (xs ys : List ℕ) (place : Place) (w : ℕ) (cause : LadCause) → Went a b xs → StopsAt b ys place w cause → StopsAt a (xs ++ ys) place w cause
StopsAt-after a b xs ys place w cause h s =
    record { rest = s.rest; left = split_both a.0 b.0 s.rest xs ys h.left s.left; word = omega (arith, h.count, s.word, length-append xs ys); refused = s.refused }

-- The same after equal numbers.
StopsAt-same : (a : At) (xs ys : List ℕ) (place : Place) (w : ℕ) (cause : LadCause) → xs ≡ ys → StopsAt a xs place w cause → StopsAt a ys place w cause
StopsAt-same a xs ys place w cause e s = subst (λ (v : List ℕ). StopsAt a v place w cause) e s

-- The same for equal numbers.
Went-same : (a b : At) (xs ys : List ℕ) → xs ≡ ys → Went a b xs → Went a b ys
Went-same a b xs ys e h = subst (λ (v : List ℕ). Went a b v) e h

-- A word that is refused at once.
pub StopsAt-here : (a : At) (place : Place) (w : ℕ) (cause d : LadCause) → w ≡ a.1 + 1 → d ≡ cause → refused_at place (first_of a.0) ≡ Some cause → StopsAt a [] place w d
StopsAt-here a place w cause d e f h = record { rest = a.0; left = refl; word = omega arith; refused = rw f h }

-- A list with an element has a first.
pub refused_left : (xs : List (Option ℕ)) → 0 < length xs → refused_at End (first_of xs) ≡ Some WordsLeft
refused_left [] h = absurd (omega arith)
refused_left (x ∷ xs) h = refl

-- No neighbour was taken.
pub WentListed-none : (kind : LadKind) (size : ℕ) (a : At) → WentListed kind size 0 a a []
WentListed-none kind size a = record { all = refl; each = AreListed-none kind size; words = Went-none a }

-- One neighbour more, with its edge's label.
pub WentListed-more : (kind : LadKind) (size i : ℕ) (a b c d : At) (es : List (ℕ × ℕ)) (x l : ℕ) → WentListed kind size i a b es → Went b c (x ∷ [])
    → refused_at (Neighbour size) (Some (Some x)) ≡ None → Went c d (edge_label_numbers kind l) → MayFollow kind es x l
    → WentListed kind size (i + 1) a d (es ++ (x, l) ∷ [])
WentListed-more kind size i a b c d es x l h k taken labelled may =
    let e : ℕ × ℕ = (x, l) in
    record {
      all = omega (arith, length-append es (e ∷ []), h.all);
      each = AreListed-push kind size es e h.each (neighbour_below size x taken) may;
      words = Went-same a d _ _ (sym (listed_numbers-push kind es e))
          (Went-append a b d (listed_numbers kind es) (x ∷ edge_label_numbers kind l) h.words (Went-append b c d (x ∷ []) (edge_label_numbers kind l) k labelled));
    }

-- The next word is no neighbour.
pub WentListed-stops : (kind : LadKind) (size due i : ℕ) (a b : At) (es : List (ℕ × ℕ)) (w : ℕ) (cause : LadCause) → WentListed kind size i a b es → i < due
    → StopsAt b [] (Neighbour size) w cause → StopsListed kind size due a w cause
WentListed-stops kind size due i a b es w cause h l s = record {
  list = listed_numbers kind es;
  place = Neighbour size;
  begun = (refl, record { some = es; fewer = omega (arith, h.all); listed = h.each; numbers = refl });
  stops = StopsAt-same a _ _ (Neighbour size) w cause (append-nil (listed_numbers kind es)) (StopsAt-after a b (listed_numbers kind es) [] (Neighbour size) w cause h.words s);
}

-- The word after a neighbour is no label of the edge to it.
pub WentListed-label_stops : (kind : LadKind) (size due i : ℕ) (a b c : At) (es : List (ℕ × ℕ)) (x w : ℕ) (cause : LadCause) → WentListed kind size i a b es → i < due
    → Went b c (x ∷ []) → refused_at (Neighbour size) (Some (Some x)) ≡ None → StopsAtLabel kind es x c w cause → StopsListed kind size due a w cause
WentListed-label_stops Lad size due i a b c es x w cause h l k taken s = absurd s
WentListed-label_stops VertexLabelledLad size due i a b c es x w cause h l k taken s = absurd s
WentListed-label_stops DirectedLad size due i a b c es x w cause h l k taken s = absurd s
WentListed-label_stops LabelledLad size due i a b c es x w cause h l k taken s =
    record {
      list = listed_numbers LabelledLad es ++ x ∷ [];
      place = EdgeLabel (listed_label es x);
      begun = record { some = es; neighbour = x; fewer = omega (arith, h.all); listed = h.each; below = neighbour_below size x taken; earlier_is = refl; numbers = refl };
      stops = StopsAt-after a b (listed_numbers LabelledLad es) (x ∷ []) (EdgeLabel (listed_label es x)) w cause h.words
          (StopsAt-same b _ _ (EdgeLabel (listed_label es x)) w cause refl (StopsAt-after b c (x ∷ []) [] (EdgeLabel (listed_label es x)) w cause k s));
    }

-- A label, a number of neighbours and these are a vertex.
pub WentVertex-parts : (kind : LadKind) (size label due : ℕ) (a b c d : At) (es : List (ℕ × ℕ)) → HasLabel kind label → Went a b (label_numbers kind label) → Went b c (due ∷ [])
    → WentListed kind size due c d es → WentVertex kind size a d (record { label = label; listed = es })
WentVertex-parts kind size label due a b c d es l h k s = record {
  vertex = record { label = l; listed = s.each };
  words = Went-append a b d (label_numbers kind label) (length es ∷ listed_numbers kind es) h
      (Went-append b c d (length es ∷ []) (listed_numbers kind es) (Went-same b c _ _ (ap (λ (n : ℕ). n ∷ []) (sym s.all)) k) s.words);
}

-- A vertex begins with its label or its number of neighbours.
begun_none : (kind : LadKind) (n : ℕ) → Begun Number kind n []
begun_none Lad n = refl
begun_none VertexLabelledLad n = inl refl
begun_none DirectedLad n = refl
begun_none LabelledLad n = inl refl

-- The words stop before a vertex's label.
pub StopsVertex-label : (kind : LadKind) (size : ℕ) (a : At) (w : ℕ) (cause : LadCause) → StopsAt a [] Number w cause → StopsVertex kind size a w cause
StopsVertex-label kind size a w cause s = record { part = []; place = Number; begun = begun_none kind size; stops = s }

-- After its label it goes on with its number of neighbours.
begun_label : (kind : LadKind) (n label : ℕ) → Begun Number kind n (label_numbers kind label)
begun_label Lad n label = refl
begun_label VertexLabelledLad n label = inr (label, refl)
begun_label DirectedLad n label = refl
begun_label LabelledLad n label = inr (label, refl)

-- They stop before its number of neighbours.
pub StopsVertex-count : (kind : LadKind) (size label : ℕ) (a b : At) (w : ℕ) (cause : LadCause) → Went a b (label_numbers kind label) → StopsAt b [] Number w cause
    → StopsVertex kind size a w cause
StopsVertex-count kind size label a b w cause h s = record {
  part = label_numbers kind label;
  place = Number;
  begun = begun_label kind size label;
  stops = StopsAt-same a _ _ Number w cause (append-nil (label_numbers kind label)) (StopsAt-after a b (label_numbers kind label) [] Number w cause h s);
}

-- They stop among its neighbours.
pub StopsVertex-listed : (kind : LadKind) (size label due : ℕ) (a b c : At) (w : ℕ) (cause : LadCause) → Went a b (label_numbers kind label) → Went b c (due ∷ [])
    → StopsListed kind size due c w cause → StopsVertex kind size a w cause
StopsVertex-listed kind size label due a b c w cause h k s = record {
  part = label_numbers kind label ++ due ∷ s.list;
  place = s.place;
  begun = begun_in_list s.place kind size label due s.list s.begun;
  stops = StopsAt-after a b (label_numbers kind label) (due ∷ s.list) s.place w cause h
      (StopsAt-after b c (due ∷ []) s.list s.place w cause k s.stops);
}

-- The numbers of one vertex more.
all_numbers-push : (kind : LadKind) (vs : List Vertex) (v : Vertex) → all_numbers kind vs ++ vertex_numbers kind v ≡ all_numbers kind (vs ++ v ∷ [])
all_numbers-push kind [] v = sym (append-nil (vertex_numbers kind v))
all_numbers-push kind (u ∷ vs) v =
    append_assoc (vertex_numbers kind u) (all_numbers kind vs) (vertex_numbers kind v) ∙ ap (λ (x : List ℕ). vertex_numbers kind u ++ x) (all_numbers-push kind vs v)

-- One vertex more may stand in the text.
AreVertices-push : (kind : LadKind) (n : ℕ) (vs : List Vertex) (v : Vertex) → AreVertices kind n vs → IsVertex kind n v → AreVertices kind n (vs ++ v ∷ [])
AreVertices-push kind n [] v h k = (k, tt)
AreVertices-push kind n (u ∷ vs) v h k = (h.0, AreVertices-push kind n vs v h.1 k)

-- No vertex was taken.
pub WentVertices-none : (kind : LadKind) (size : ℕ) (a : At) → WentVertices kind size 0 a a []
WentVertices-none kind size a = record { all = refl; each = tt; words = Went-none a }

-- One vertex more.
pub WentVertices-more : (kind : LadKind) (size i : ℕ) (a b c : At) (vs : List Vertex) (v : Vertex) → WentVertices kind size i a b vs → WentVertex kind size b c v
    → WentVertices kind size (i + 1) a c (vs ++ v ∷ [])
WentVertices-more kind size i a b c vs v h k = record {
  all = omega (arith, length-append vs (v ∷ []), h.all);
  each = AreVertices-push kind size vs v h.each k.vertex;
  words = Went-same a c _ _ (all_numbers-push kind vs v) (Went-append a b c (all_numbers kind vs) (vertex_numbers kind v) h.words k.words);
}

-- The words stop within the next vertex.
pub WentVertices-stops : (kind : LadKind) (size due i : ℕ) (a b : At) (vs : List Vertex) (w : ℕ) (cause : LadCause) → WentVertices kind size i a b vs → i < due
    → StopsVertex kind size b w cause → StopsVertices kind size due a w cause
WentVertices-stops kind size due i a b vs w cause h l s = record {
  whole = vs;
  part = s.part;
  place = s.place;
  fewer = omega (arith, h.all);
  each = h.each;
  begun = s.begun;
  stops = StopsAt-after a b (all_numbers kind vs) s.part s.place w cause h.words s.stops;
}

-- A size within the limit, as many vertices and nothing more are a text.
pub Reads-parts : (ws : List (List ℕ)) (kind : LadKind) (limit size : ℕ) (a b c : At) (vs : List Vertex) → a.0 ≡ map number_of ws → Went a b (size ∷ [])
    → refused_at (Size limit) (Some (Some size)) ≡ None → WentVertices kind size size b c vs → c.0 ≡ [] → Reads ws kind limit vs
Reads-parts ws kind limit size a b c vs start h taken k done =
    let all = Went-append a b c (size ∷ []) (all_numbers kind vs) h k.words in
    record {
      few = rw k.all (size_within limit size taken);
      each = rw k.all k.each;
      text = sym start ∙ (all.left ∙ (ap (λ (v : List (Option ℕ)). map Some (size ∷ all_numbers kind vs) ++ v) done
          ∙ (append-nil (map Some (size ∷ all_numbers kind vs)) ∙ ap (λ (n : ℕ). map Some (n ∷ all_numbers kind vs)) (sym k.all))));
    }

-- A word that is refused where the words before it are due is the first faulty one.
fault_from : (ws : List (List ℕ)) (kind : LadKind) (limit : ℕ) (a : At) (before : List ℕ) (place : Place) (w : ℕ) (cause : LadCause) → a.0 ≡ map number_of ws → a.1 ≡ 0
    → StopsAt a before place w cause → Due place kind limit before → Fault ws kind limit w cause
fault_from ws kind limit a before place w cause start none s d =
    record { before = before; rest = s.rest; place = place; word = omega (arith, s.word, none); split = sym start ∙ s.left; due = d; cause_is = s.refused }

-- The words stop at the size.
pub Fault-size : (ws : List (List ℕ)) (kind : LadKind) (limit : ℕ) (a : At) (w : ℕ) (cause : LadCause) → a.0 ≡ map number_of ws → a.1 ≡ 0
    → StopsAt a [] (Size limit) w cause → Fault ws kind limit w cause
Fault-size ws kind limit a w cause start none s = fault_from ws kind limit a [] (Size limit) w cause start none s (refl, refl)

-- They stop within the vertices.
pub Fault-vertices : (ws : List (List ℕ)) (kind : LadKind) (limit size : ℕ) (a b : At) (w : ℕ) (cause : LadCause) → a.0 ≡ map number_of ws → a.1 ≡ 0 → Went a b (size ∷ [])
    → refused_at (Size limit) (Some (Some size)) ≡ None → StopsVertices kind size size b w cause → Fault ws kind limit w cause
Fault-vertices ws kind limit size a b w cause start none h taken s =
    let before : List ℕ = size ∷ (all_numbers kind s.whole ++ s.part) in
    fault_from ws kind limit a before s.place w cause start none (StopsAt-after a b (size ∷ []) (all_numbers kind s.whole ++ s.part) s.place w cause h s.stops)
    (due_within s.place kind limit before (record {
      size = size;
      whole = s.whole;
      part = s.part;
      few = size_within limit size taken;
      more = s.fewer;
      each = s.each;
      begun = s.begun;
      numbers = refl;
    }))

-- They go on after the last vertex.
pub Fault-end : (ws : List (List ℕ)) (kind : LadKind) (limit size : ℕ) (a b c : At) (vs : List Vertex) (w : ℕ) (cause : LadCause) → a.0 ≡ map number_of ws → a.1 ≡ 0
    → Went a b (size ∷ []) → refused_at (Size limit) (Some (Some size)) ≡ None → WentVertices kind size size b c vs → StopsAt c [] End w cause → Fault ws kind limit w cause
Fault-end ws kind limit size a b c vs w cause start none h taken k s =
    let all = Went-append a b c (size ∷ []) (all_numbers kind vs) h k.words in
    let before : List ℕ = size ∷ all_numbers kind vs in
    fault_from ws kind limit a before End w cause start none
    (StopsAt-same a _ _ End w cause (append-nil before) (StopsAt-after a c before [] End w cause all s))
    (vs, rw k.all (size_within limit size taken), rw k.all k.each, ap (λ (n : ℕ). n ∷ all_numbers kind vs) (sym k.all))
