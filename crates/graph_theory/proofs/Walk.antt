-- A text has one first fault: a walk over its words that keeps in mind only what is due next.

use Rattle.std.specs.Prelude.{◌≡◌, ℕ, zero, suc, ◌+◌, ◌-◌, ◌<◌, ◌≤◌, List, [], ◌∷◌, ◌++◌, length, map, Option, Some, None, refl}
use Rattle.std.proofs.Common.{sym, ap, subst, inl, inr, ◌∙◌, append_assoc, arith, rules, tests}
use Rattle.std.proofs.lemmas.List.{append-nil}
use Rattle.graph_theory.specs.Text.{number_of}
use Rattle.graph_theory.specs.Lad.{Vertex, label_numbers, edge_label_numbers, listed_numbers, vertex_numbers, all_numbers, text_numbers, HasEdgeLabel, AreEach, Agree, listed_label, IsVertex, AreVertices, Reads}
use Rattle.graph_theory.specs.LadFault.{ListBegun, Within, Due, clash, refused_at, first_of, Fault, NoFaultOfReading, OneFault}
use Rattle.graph_theory.specs.declared.lad_text.LadKind.{LadKind}
use Rattle.graph_theory.specs.declared.lad_text.LadKind.TheVariants.{Lad, VertexLabelledLad, DirectedLad, LabelledLad}
use Rattle.graph_theory.specs.declared.lad_text.LadCause.{LadCause}
use Rattle.graph_theory.specs.declared.lad_text.Place.{Place}
use Rattle.graph_theory.specs.declared.lad_text.Place.TheVariants.{Size, Number, Neighbour, EdgeLabel, End}
use Rattle.graph_theory.proofs.Listing.{clash-agree}

-- What the walk waits for; the numbers are the graph's size, the vertices after the present one, and the neighbours after the next one; the list is
-- that of the neighbours that the present vertex has listed.
pub data State : Type 0 where
  at_size : State
  at_label : ℕ → ℕ → State
  at_count : ℕ → ℕ → State
  at_neighbour : ℕ → ℕ → ℕ → List (ℕ × ℕ) → State
  at_edge_label : ℕ → ℕ → ℕ → List (ℕ × ℕ) → ℕ → State
  at_end : State

-- The state before the last k vertices.
abbrev pub before_vertices : LadKind → ℕ → ℕ → State
before_vertices kind n zero = at_end
before_vertices Lad n (suc k) = at_count n k
before_vertices VertexLabelledLad n (suc k) = at_label n k
before_vertices DirectedLad n (suc k) = at_count n k
before_vertices LabelledLad n (suc k) = at_label n k

-- The state before the last c neighbours of a vertex, which has listed these.
abbrev pub before_neighbours : LadKind → ℕ → ℕ → List (ℕ × ℕ) → ℕ → State
before_neighbours kind n k es zero = before_vertices kind n k
before_neighbours kind n k es (suc c) = at_neighbour n k c es

-- The state after a neighbour.
abbrev pub after_neighbour : LadKind → ℕ → ℕ → ℕ → List (ℕ × ℕ) → ℕ → State
after_neighbour Lad n k c es b = before_neighbours Lad n k (es ++ (b, 0) ∷ []) c
after_neighbour VertexLabelledLad n k c es b = before_neighbours VertexLabelledLad n k (es ++ (b, 0) ∷ []) c
after_neighbour DirectedLad n k c es b = before_neighbours DirectedLad n k (es ++ (b, 0) ∷ []) c
after_neighbour LabelledLad n k c es b = at_edge_label n k c es b

-- The state after a number.
abbrev pub next : LadKind → State → ℕ → State
next kind at_size x = before_vertices kind x x
next kind (at_label n k) x = at_count n k
next kind (at_count n k) x = before_neighbours kind n k [] x
next kind (at_neighbour n k c es) x = after_neighbour kind n k c es x
next kind (at_edge_label n k c es b) x = before_neighbours kind n k (es ++ (b, x) ∷ []) c
next kind at_end x = at_end

-- What is due in a state.
abbrev pub place_of : ℕ → State → Place
place_of limit at_size = Size limit
place_of limit (at_label n k) = Number
place_of limit (at_count n k) = Number
place_of limit (at_neighbour n k c es) = Neighbour n
place_of limit (at_edge_label n k c es b) = EdgeLabel (listed_label es b)
place_of limit at_end = End

-- From a state the walk goes over numbers, each of them what is due, to another state.
abbrev pub Walks : LadKind → ℕ → State → List ℕ → State → Type 0
Walks kind limit s [] e = s ≡ e
Walks kind limit s (x ∷ xs) e = (refused_at (place_of limit s) (Some (Some x)) ≡ None) × Walks kind limit (next kind s x) xs e

-- Two walks, one after the other, are a walk.
pub Walks-append : (kind : LadKind) (limit : ℕ) (s m e : State) (xs ys : List ℕ) → Walks kind limit s xs m → Walks kind limit m ys e → Walks kind limit s (xs ++ ys) e
Walks-append kind limit s m e [] ys h k = subst (λ (v : State). Walks kind limit v ys e) (sym h) k
Walks-append kind limit s m e (x ∷ xs) ys h k = (h.0, Walks-append kind limit (next kind s x) m e xs ys h.1 k)

-- A number below n is a neighbour in a graph of n vertices.
pub takes_neighbour : (n b : ℕ) → b < n → refused_at (Neighbour n) (Some (Some b)) ≡ None
takes_neighbour n b h = search (rules, tests)

-- A size within the limit is taken.
pub takes_size : (limit n : ℕ) → n ≤ limit → refused_at (Size limit) (Some (Some n)) ≡ None
takes_size limit n h = search (rules, tests)

-- A pair with the label that no format writes.
without_label : (f : ℕ × ℕ) → f.1 ≡ 0 → (f.0, 0) ≡ f
without_label f h = ap (λ (l : ℕ). let p : ℕ × ℕ = (f.0, l) in p) (sym h)

-- After a neighbour in a format without labels of edges.
walks_unlabelled : (kind : LadKind) (n k c : ℕ) (es : List (ℕ × ℕ)) (f : ℕ × ℕ) → f.1 ≡ 0
    → before_neighbours kind n k (es ++ (f.0, 0) ∷ []) c ≡ before_neighbours kind n k (es ++ f ∷ []) c
walks_unlabelled kind n k c es f h = ap (λ (e : ℕ × ℕ). before_neighbours kind n k (es ++ e ∷ []) c) (without_label f h)

-- The walk goes over one neighbour, with its label.
Walks-one : (kind : LadKind) (limit n k c : ℕ) (es : List (ℕ × ℕ)) (f : ℕ × ℕ) → f.0 < n → HasEdgeLabel kind f.1 → clash (listed_label es f.0) f.1 ≡ None
    → Walks kind limit (at_neighbour n k c es) (f.0 ∷ edge_label_numbers kind f.1) (before_neighbours kind n k (es ++ f ∷ []) c)
Walks-one Lad limit n k c es f b l h = (takes_neighbour n f.0 b, walks_unlabelled Lad n k c es f l)
Walks-one VertexLabelledLad limit n k c es f b l h = (takes_neighbour n f.0 b, walks_unlabelled VertexLabelledLad n k c es f l)
Walks-one DirectedLad limit n k c es f b l h = (takes_neighbour n f.0 b, walks_unlabelled DirectedLad n k c es f l)
Walks-one LabelledLad limit n k c es f b l h = (takes_neighbour n f.0 b, (h, refl))

-- The walk goes over neighbours, after others.
pub Walks-listed : (kind : LadKind) (limit n k c j : ℕ) (es fs : List (ℕ × ℕ)) → j ≡ length fs + c → AreEach kind n fs → Agree (es ++ fs)
    → Walks kind limit (before_neighbours kind n k es j) (listed_numbers kind fs) (before_neighbours kind n k (es ++ fs) c)
Walks-listed kind limit n k c j es [] e h a =
    let d : j ≡ c = omega arith in
    ap (before_neighbours kind n k es) d ∙ ap (λ (v : List (ℕ × ℕ)). before_neighbours kind n k v c) (sym (append-nil es))
Walks-listed kind limit n k c j es (f ∷ fs) e h a =
    let d : j ≡ suc (length fs + c) = omega arith in
    let joined : (es ++ f ∷ []) ++ fs ≡ es ++ f ∷ fs = append_assoc es (f ∷ []) fs in
    let rest = Walks-listed kind limit n k c (length fs + c) (es ++ f ∷ []) fs refl h.2 (subst (λ (v : List (ℕ × ℕ)). Agree v) (sym joined) a) in
    subst (λ (i : ℕ). Walks kind limit (before_neighbours kind n k es i) (listed_numbers kind (f ∷ fs)) (before_neighbours kind n k (es ++ f ∷ fs) c)) (sym d)
    (Walks-append kind limit (at_neighbour n k (length fs + c) es) (before_neighbours kind n k (es ++ f ∷ []) (length fs + c)) (before_neighbours kind n k (es ++ f ∷ fs) c)
    (f.0 ∷ edge_label_numbers kind f.1) (listed_numbers kind fs)
    (Walks-one kind limit n k (length fs + c) es f h.0 h.1 (clash-agree f es fs a))
    (subst (λ (v : List (ℕ × ℕ)). Walks kind limit (before_neighbours kind n k (es ++ f ∷ []) (length fs + c)) (listed_numbers kind fs) (before_neighbours kind n k v c)) joined rest))

-- The walk goes over a label and a number of neighbours, and on from there.
Walks-count : (kind : LadKind) (limit n k label count : ℕ) (list : List ℕ) (e : State) → Walks kind limit (before_neighbours kind n k [] count) list e
    → Walks kind limit (before_vertices kind n (suc k)) (label_numbers kind label ++ count ∷ list) e
Walks-count Lad limit n k label count list e h = (refl, h)
Walks-count VertexLabelledLad limit n k label count list e h = (refl, (refl, h))
Walks-count DirectedLad limit n k label count list e h = (refl, h)
Walks-count LabelledLad limit n k label count list e h = (refl, (refl, h))

-- The walk goes over a vertex.
pub Walks-vertex : (kind : LadKind) (limit n k : ℕ) (v : Vertex) → IsVertex kind n v
    → Walks kind limit (before_vertices kind n (suc k)) (vertex_numbers kind v) (before_vertices kind n k)
Walks-vertex kind limit n k v h =
    Walks-count kind limit n k v.label (length v.listed) (listed_numbers kind v.listed) (before_vertices kind n k)
    (Walks-listed kind limit n k 0 (length v.listed) [] v.listed (omega arith) h.listed.each h.listed.agree)

-- The walk goes over vertices.
pub Walks-vertices : (kind : LadKind) (limit n k j : ℕ) (vs : List Vertex) → j ≡ length vs + k → AreVertices kind n vs
    → Walks kind limit (before_vertices kind n j) (all_numbers kind vs) (before_vertices kind n k)
Walks-vertices kind limit n k j [] e h = ap (before_vertices kind n) (let d : j ≡ k = omega arith in d)
Walks-vertices kind limit n k j (v ∷ vs) e h =
    let d : j ≡ suc (length vs + k) = omega arith in
    subst (λ (i : ℕ). Walks kind limit (before_vertices kind n i) (vertex_numbers kind v ++ all_numbers kind vs) (before_vertices kind n k)) (sym d)
    (Walks-append kind limit _ (before_vertices kind n (length vs + k)) _ (vertex_numbers kind v) (all_numbers kind vs)
    (Walks-vertex kind limit n (length vs + k) v h.0) (Walks-vertices kind limit n k (length vs + k) vs refl h.1))

-- The walk goes over a whole text.
pub Walks-text : (kind : LadKind) (limit : ℕ) (vs : List Vertex) → length vs ≤ limit → AreVertices kind (length vs) vs
    → Walks kind limit at_size (text_numbers kind vs) at_end
Walks-text kind limit vs few h = (takes_size limit (length vs) few, Walks-vertices kind limit (length vs) 0 (length vs) vs (omega arith) h)

-- The walk goes over the size, whole vertices and a part of the next.
pub Walks-within : (kind : LadKind) (limit : ℕ) (before : List ℕ) (place : Place) (w : Within kind limit before place) (e : State)
    → ((k : ℕ) → w.size ≡ length w.whole + suc k → Walks kind limit (before_vertices kind w.size (suc k)) w.part e)
    → Walks kind limit at_size before e
Walks-within kind limit before place w e h =
    let k : ℕ = w.size - length w.whole - 1 in
    let d : w.size ≡ length w.whole + suc k = omega (arith, w.more) in
    subst (λ (xs : List ℕ). Walks kind limit at_size xs e) (sym w.numbers) (
      takes_size limit w.size w.few,
      Walks-append kind limit _ (before_vertices kind w.size (suc k)) e (all_numbers kind w.whole) w.part
          (Walks-vertices kind limit w.size (suc k) w.size w.whole d w.each) (h k d),
    )

-- The walk goes over what stands of a list of neighbours to a state that waits for what is due.
walks_list : (kind : LadKind) (limit n k count : ℕ) (list : List ℕ) (place : Place) → ListBegun place kind n count list
    → (e : State) × Walks kind limit (before_neighbours kind n k [] count) list e × (place_of limit e ≡ place)
walks_list kind limit n k count list (Neighbour m) b =
    let i : ℕ = count - length b.1.some - 1 in (
      at_neighbour n k i b.1.some,
      subst (λ (xs : List ℕ). Walks kind limit (before_neighbours kind n k [] count) xs (at_neighbour n k i b.1.some)) (sym b.1.numbers)
          (Walks-listed kind limit n k (suc i) count [] b.1.some (omega (arith, b.1.fewer)) b.1.listed.each b.1.listed.agree),
      ap Neighbour (sym b.0),
    )
walks_list LabelledLad limit n k count list (EdgeLabel earlier) b =
    let i : ℕ = count - length b.some - 1 in (
      at_edge_label n k i b.some b.neighbour,
      subst (λ (xs : List ℕ). Walks LabelledLad limit (before_neighbours LabelledLad n k [] count) xs (at_edge_label n k i b.some b.neighbour)) (sym b.numbers)
          (Walks-append LabelledLad limit (before_neighbours LabelledLad n k [] count) (at_neighbour n k i b.some) (at_edge_label n k i b.some b.neighbour)
          (listed_numbers LabelledLad b.some) (b.neighbour ∷ [])
          (Walks-listed LabelledLad limit n k (suc i) count [] b.some (omega (arith, b.fewer)) b.listed.each b.listed.agree)
          (takes_neighbour n b.neighbour b.below, refl)),
      ap EdgeLabel (sym b.earlier_is),
    )
walks_list Lad limit n k count list (EdgeLabel earlier) b = absurd b
walks_list VertexLabelledLad limit n k count list (EdgeLabel earlier) b = absurd b
walks_list DirectedLad limit n k count list (EdgeLabel earlier) b = absurd b
walks_list kind limit n k count list (Size m) b = absurd b
walks_list kind limit n k count list Number b = absurd b
walks_list kind limit n k count list End b = absurd b

-- A vertex of which nothing stands begins with a number.
begins_with_number : (kind : LadKind) (limit n k : ℕ) → place_of limit (before_vertices kind n (suc k)) ≡ Number
begins_with_number Lad limit n k = refl
begins_with_number VertexLabelledLad limit n k = refl
begins_with_number DirectedLad limit n k = refl
begins_with_number LabelledLad limit n k = refl

-- The walk to a vertex of which nothing stands.
walks_begin : (kind : LadKind) (limit : ℕ) (before : List ℕ) (place : Place) (d : Within kind limit before place) → d.part ≡ []
    → (e : State) × Walks kind limit at_size before e × (place_of limit e ≡ Number)
walks_begin kind limit before place d none =
    let j : ℕ = d.size - length d.whole - 1 in (
      before_vertices kind d.size (suc j),
      Walks-within kind limit before place d (before_vertices kind d.size (suc j))
          (λ k e. let same : suc k ≡ suc j = omega arith in
          subst (λ (xs : List ℕ). Walks kind limit (before_vertices kind d.size (suc k)) xs (before_vertices kind d.size (suc j))) (sym none) (ap (before_vertices kind d.size) same)),
      begins_with_number kind limit d.size j,
    )

-- The walk to a vertex of which its label stands.
walks_label : (kind : LadKind) (limit : ℕ) (before : List ℕ) (place : Place) (d : Within kind limit before place) (label : ℕ)
    → ((n k : ℕ) → Walks kind limit (before_vertices kind n (suc k)) (label ∷ []) (at_count n k)) → d.part ≡ label ∷ []
    → (e : State) × Walks kind limit at_size before e × (place_of limit e ≡ Number)
walks_label kind limit before place d label step one =
    let j : ℕ = d.size - length d.whole - 1 in (
      at_count d.size j,
      Walks-within kind limit before place d (at_count d.size j)
          (λ k e. let same : k ≡ j = omega arith in
          subst (λ (xs : List ℕ). Walks kind limit (before_vertices kind d.size (suc k)) xs (at_count d.size j)) (sym one)
          (subst (λ (v : ℕ). Walks kind limit (before_vertices kind d.size (suc k)) (label ∷ []) (at_count d.size v)) same (step d.size k))),
      refl,
    )

-- The walk into a vertex's list.
walks_into : (kind : LadKind) (limit : ℕ) (before : List ℕ) (place : Place) (d : Within kind limit before place) (label count : ℕ) (list : List ℕ)
    → ListBegun place kind d.size count list → d.part ≡ label_numbers kind label ++ count ∷ list
    → (e : State) × Walks kind limit at_size before e × (place_of limit e ≡ place)
walks_into kind limit before place d label count list begun numbers =
    let j : ℕ = d.size - length d.whole - 1 in
    let r = walks_list kind limit d.size j count list place begun in (
      r.0,
      Walks-within kind limit before place d r.0
          (λ k e. let same : j ≡ k = omega arith in
          subst (λ (xs : List ℕ). Walks kind limit (before_vertices kind d.size (suc k)) xs r.0) (sym numbers)
          (subst (λ (v : ℕ). Walks kind limit (before_vertices kind d.size (suc v)) (label_numbers kind label ++ count ∷ list) r.0) same
          (Walks-count kind limit d.size j label count list r.0 r.1))),
      r.2,
    )

-- Where numbers are each due and this is due next, the walk goes over them to a state that waits for it.
pub Walks-due : (kind : LadKind) (limit : ℕ) (before : List ℕ) (place : Place) → Due place kind limit before
    → (e : State) × Walks kind limit at_size before e × (place_of limit e ≡ place)
Walks-due kind limit before (Size m) d =
    (at_size, subst (λ (xs : List ℕ). Walks kind limit at_size xs at_size) (sym d.0) refl, ap Size (sym d.1))
Walks-due kind limit before End d =
    (at_end, subst (λ (xs : List ℕ). Walks kind limit at_size xs at_end) (sym d.3) (Walks-text kind limit d.0 d.1 d.2), refl)
Walks-due Lad limit before Number d = walks_begin Lad limit before Number d d.begun
Walks-due VertexLabelledLad limit before Number d =
    elim d.begun [
      | inl none ↦ walks_begin VertexLabelledLad limit before Number d none
      | inr one ↦ walks_label VertexLabelledLad limit before Number d one.0 (λ n k. (refl, refl)) one.1
    ]
Walks-due DirectedLad limit before Number d = walks_begin DirectedLad limit before Number d d.begun
Walks-due LabelledLad limit before Number d =
    elim d.begun [
      | inl none ↦ walks_begin LabelledLad limit before Number d none
      | inr one ↦ walks_label LabelledLad limit before Number d one.0 (λ n k. (refl, refl)) one.1
    ]
Walks-due kind limit before (Neighbour m) d = walks_into kind limit before (Neighbour m) d d.begun.label d.begun.count d.begun.list d.begun.begun d.begun.numbers
Walks-due kind limit before (EdgeLabel o) d = walks_into kind limit before (EdgeLabel o) d d.begun.label d.begun.count d.begun.list d.begun.begun d.begun.numbers

-- The first fault told, if there is one.
abbrev pub told : ℕ → Option LadCause → Option (ℕ × LadCause) → Option (ℕ × LadCause)
told w None later = later
told w (Some cause) later = Some (w, cause)

-- The state after a word.
abbrev pub after_word : LadKind → State → Option ℕ → State
after_word kind s None = s
after_word kind s (Some x) = next kind s x

-- The first fault of words that are numbered from w on.
abbrev pub verdict : LadKind → ℕ → State → ℕ → List (Option ℕ) → Option (ℕ × LadCause)
verdict kind limit s w [] = told w (refused_at (place_of limit s) None) None
verdict kind limit s w (x ∷ xs) = told w (refused_at (place_of limit s) (Some x)) (verdict kind limit (after_word kind s x) (w + 1) xs)

-- A walk passes the verdict on.
pub verdict-walks : (kind : LadKind) (limit : ℕ) (s e : State) (w v : ℕ) (xs : List ℕ) (rest : List (Option ℕ)) → Walks kind limit s xs e → v ≡ w + length xs
    → verdict kind limit s w (map Some xs ++ rest) ≡ verdict kind limit e v rest
verdict-walks kind limit s e w v [] rest h i = let d : w ≡ v = omega arith in rw (d, h)
verdict-walks kind limit s e w v (x ∷ xs) rest h i =
    rw h.0 (verdict-walks kind limit (next kind s x) e (w + 1) v xs rest h.1 (omega arith))

-- A word that is refused is the verdict.
pub verdict-refused : (kind : LadKind) (limit : ℕ) (s : State) (w : ℕ) (rest : List (Option ℕ)) (cause : LadCause)
    → refused_at (place_of limit s) (first_of rest) ≡ Some cause → verdict kind limit s w rest ≡ Some (w, cause)
verdict-refused kind limit s w [] cause h = rw h
verdict-refused kind limit s w (x ∷ xs) cause h = rw h

-- A fault is the verdict.
pub verdict-fault : (ws : List (List ℕ)) (kind : LadKind) (limit w : ℕ) (cause : LadCause) → Fault ws kind limit w cause
    → verdict kind limit at_size 1 (map number_of ws) ≡ Some (w, cause)
verdict-fault ws kind limit w cause f =
    let d = Walks-due kind limit f.before f.place f.due in
    let refused : refused_at (place_of limit d.0) (first_of f.rest) ≡ Some cause = rw d.2 f.cause_is in
    let at : verdict kind limit d.0 w f.rest ≡ Some (w, cause) = verdict-refused kind limit d.0 w f.rest cause refused in
    rw f.split (verdict-walks kind limit at_size d.0 1 w f.before f.rest d.1 (omega (arith, f.word)) ∙ at)

-- A text that reads has no verdict.
pub verdict-reads : (ws : List (List ℕ)) (kind : LadKind) (limit : ℕ) (vs : List Vertex) → Reads ws kind limit vs
    → verdict kind limit at_size 1 (map number_of ws) ≡ None
verdict-reads ws kind limit vs r =
    let ns = text_numbers kind vs in
    ap (verdict kind limit at_size 1) (r.text ∙ sym (append-nil (map Some ns)))
    ∙ verdict-walks kind limit at_size at_end 1 (1 + length ns) ns [] (Walks-text kind limit vs r.few r.each) refl

-- A fault that is told is one.
told_same : (p q : ℕ × LadCause) → Some p ≡ Some q → p ≡ q
told_same p q e = cc

-- No fault is not a fault.
none_or_told : (o : Option (ℕ × LadCause)) (p : ℕ × LadCause) → o ≡ None → o ≡ Some p → ⊥
none_or_told o p e f = cc

-- A text that reads has no fault.
pub no_fault : NoFaultOfReading
no_fault ws kind limit vs w cause r f = none_or_told _ _ (verdict-reads ws kind limit vs r) (verdict-fault ws kind limit w cause f)

-- A text has one first fault.
pub one_fault : OneFault
one_fault ws kind limit w v cause other f g =
    let e : (w, cause) ≡ (v, other) = told_same _ _ (sym (verdict-fault ws kind limit w cause f) ∙ verdict-fault ws kind limit v other g) in
    (ap (λ (p : ℕ × LadCause). p.0) e, ap (λ (p : ℕ × LadCause). p.1) e)
