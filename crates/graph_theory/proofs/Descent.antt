-- A text reads or has a fault: its words, taken from the first on, are those of a graph until one is refused.

use Rattle.std.specs.Prelude.{◌≡◌, ℕ, zero, suc, ◌+◌, ◌<◌, ◌≤◌, ◌⊎◌, List, [], ◌∷◌, ◌++◌, length, map, Option, Some, None, refl}
use Rattle.std.proofs.Common.{ap, sym, subst, inl, inr, ◌∙◌, append_assoc, length-append, arith, tests}
use Rattle.std.proofs.lemmas.List.{map-append, append-nil}
use Rattle.graph_theory.specs.Text.{number_of}
use Rattle.graph_theory.specs.Lad.{Vertex, label_numbers, edge_label_numbers, listed_numbers, listed_label, vertex_numbers, all_numbers, text_numbers, HasLabel, AreListed, IsVertex, AreVertices, Reads}
use Rattle.graph_theory.specs.LadFault.{ListBegun, Begun, Within, Due, refused_at, first_of, Fault, ReadsOrFault}
use Rattle.graph_theory.specs.Progress.{IsOpen, MayFollow}
use Rattle.graph_theory.specs.declared.lad_text.LadKind.{LadKind}
use Rattle.graph_theory.specs.declared.lad_text.LadKind.TheVariants.{Lad, VertexLabelledLad, DirectedLad, LabelledLad}
use Rattle.graph_theory.specs.declared.lad_text.LadCause.{LadCause}
use Rattle.graph_theory.specs.declared.lad_text.LadCause.TheVariants.{NotNumber, EndsEarly, WordsLeft}
use Rattle.graph_theory.specs.declared.lad_text.Place.{Place}
use Rattle.graph_theory.specs.declared.lad_text.Place.TheVariants.{Size, Number, Neighbour, EdgeLabel, End}
use Rattle.graph_theory.proofs.Listing.{AreListed-none, AreListed-push, listed_numbers-push}

-- After these numbers the words are refused in this place.
pub record Stops (ws : List (Option ℕ)) (part : List ℕ) (place : Place) (cause : LadCause) : Type 0 where
  pub rest : List (Option ℕ)
  pub split : ws ≡ map Some part ++ rest
  pub refused : refused_at place (first_of rest) ≡ Some cause

-- The words begin with a number that is not refused in this place.
pub record Takes (ws : List (Option ℕ)) (place : Place) : Type 0 where
  pub number : ℕ
  pub rest : List (Option ℕ)
  pub split : ws ≡ Some number ∷ rest
  pub taken : refused_at place (Some (Some number)) ≡ None

-- Where a word is due, the end of the words is refused as such.
ends_early : (place : Place) → IsOpen place → refused_at place None ≡ Some EndsEarly
ends_early End h = absurd h
ends_early (Size m) h = refl
ends_early Number h = refl
ends_early (Neighbour n) h = refl
ends_early (EdgeLabel earlier) h = refl

-- Where a word is due, one that is no number is refused as such.
no_number : (place : Place) → IsOpen place → refused_at place (Some None) ≡ Some NotNumber
no_number End h = absurd h
no_number (Size m) h = refl
no_number Number h = refl
no_number (Neighbour n) h = refl
no_number (EdgeLabel earlier) h = refl

-- There is a cause or none.
none_or_some : (o : Option LadCause) → (o ≡ None) ⊎ ((cause : LadCause) × (o ≡ Some cause))
none_or_some None = inl refl
none_or_some (Some cause) = inr (cause, refl)

-- The next word is taken or refused.
pub take_word : (place : Place) (ws : List (Option ℕ)) → IsOpen place → Takes ws place ⊎ ((cause : LadCause) × (refused_at place (first_of ws) ≡ Some cause))
take_word place [] h = inr (EndsEarly, ends_early place h)
take_word place (None ∷ ws) h = inr (NotNumber, no_number place h)
take_word place (Some x ∷ ws) h =
    elim (none_or_some (refused_at place (Some (Some x)))) [
      | inl taken ↦ inl (record { number = x; rest = ws; split = refl; taken = taken })
      | inr refused ↦ inr refused
    ]

-- A number that is refused as no neighbour is n or more.
pub neighbour_below : (n b : ℕ) → refused_at (Neighbour n) (Some (Some b)) ≡ None → b < n
neighbour_below n b h = grind (arith, tests)

-- A size that is not refused is within the limit.
pub size_within : (limit n : ℕ) → refused_at (Size limit) (Some (Some n)) ≡ None → n ≤ limit
size_within limit n h = grind (arith, tests)

-- The words begin with c neighbours that may be listed after these.
pub record BeginsListed (ws : List (Option ℕ)) (kind : LadKind) (n c : ℕ) (es : List (ℕ × ℕ)) : Type 0 where
  pub more : List (ℕ × ℕ)
  pub rest : List (Option ℕ)
  pub count : length more ≡ c
  pub listed : AreListed kind n (es ++ more)
  pub split : ws ≡ map Some (listed_numbers kind more) ++ rest

-- The words stop among c neighbours after these.
pub record StopsListed (ws : List (Option ℕ)) (kind : LadKind) (n c : ℕ) (es : List (ℕ × ℕ)) : Type 0 where
  pub list : List ℕ
  pub place : Place
  pub cause : LadCause
  pub begun : ListBegun place kind n (length es + c) (listed_numbers kind es ++ list)
  pub stops : Stops ws list place cause

-- A number in front of numbers.
split_more : (x : ℕ) (ws more rest : List (Option ℕ)) (xs ys : List ℕ) → ws ≡ Some x ∷ more → more ≡ map Some xs ++ rest → ys ≡ x ∷ xs → ws ≡ map Some ys ++ rest
split_more x ws more rest xs ys e f g = rw (e, f, g) refl

-- Numbers in front of numbers.
pub split_both : (ws more rest : List (Option ℕ)) (xs ys : List ℕ) → ws ≡ map Some xs ++ more → more ≡ map Some ys ++ rest → ws ≡ map Some (xs ++ ys) ++ rest
split_both ws more rest xs ys e f = rw (e, f) (simp (map-append, append_assoc))

-- A number in front of those after which the words stop.
Stops-more : (x : ℕ) (ws more : List (Option ℕ)) (xs ys : List ℕ) (place : Place) (cause : LadCause) → ws ≡ Some x ∷ more → ys ≡ x ∷ xs → Stops more xs place cause → Stops ws ys place cause
Stops-more x ws more xs ys place cause e g s = record { rest = s.rest; split = split_more x ws more s.rest xs ys e s.split g; refused = s.refused }

-- The words stop at once.
Stops-now : (ws : List (Option ℕ)) (place : Place) (cause : LadCause) → refused_at place (first_of ws) ≡ Some cause → Stops ws [] place cause
Stops-now ws place cause h = record { rest = ws; split = refl; refused = h }

-- Numbers in front of those after which the words stop.
Stops-after : (ws more : List (Option ℕ)) (xs ys zs : List ℕ) (place : Place) (cause : LadCause) → ws ≡ map Some xs ++ more → zs ≡ xs ++ ys → Stops more ys place cause → Stops ws zs place cause
Stops-after ws more xs ys zs place cause e g s =
    record { rest = s.rest; split = rw g (split_both ws more s.rest xs ys e s.split); refused = s.refused }

-- What follows one neighbour, in front of which there are others.
after_one : (kind : LadKind) (n c : ℕ) (es : List (ℕ × ℕ)) (e : ℕ × ℕ) (ws more : List (Option ℕ)) → ws ≡ map Some (e.0 ∷ edge_label_numbers kind e.1) ++ more
    → BeginsListed more kind n c (es ++ e ∷ []) ⊎ StopsListed more kind n c (es ++ e ∷ []) → BeginsListed ws kind n (suc c) es ⊎ StopsListed ws kind n (suc c) es
after_one kind n c es e ws more split (inl b) = inl (record {
  more = e ∷ b.more;
  rest = b.rest;
  count = omega (arith, b.count);
  listed = subst (λ (v : List (ℕ × ℕ)). AreListed kind n v) (append_assoc es (e ∷ []) b.more) b.listed;
  split = split_both ws more b.rest (e.0 ∷ edge_label_numbers kind e.1) (listed_numbers kind b.more) split b.split;
})
after_one kind n c es e ws more split (inr s) =
    let counts : length (es ++ e ∷ []) + c ≡ length es + suc c = omega (arith, length-append es (e ∷ [])) in
    let numbers : listed_numbers kind (es ++ e ∷ []) ++ s.list ≡ listed_numbers kind es ++ ((e.0 ∷ edge_label_numbers kind e.1) ++ s.list) =
    ap (λ (v : List ℕ). v ++ s.list) (listed_numbers-push kind es e) ∙ append_assoc (listed_numbers kind es) (e.0 ∷ edge_label_numbers kind e.1) s.list in
    inr (record {
      list = (e.0 ∷ edge_label_numbers kind e.1) ++ s.list;
      place = s.place;
      cause = s.cause;
      begun = subst (λ (v : List ℕ). ListBegun s.place kind n (length es + suc c) v) numbers
          (subst (λ (k : ℕ). ListBegun s.place kind n k (listed_numbers kind (es ++ e ∷ []) ++ s.list)) counts s.begun);
      stops = Stops-after ws more (e.0 ∷ edge_label_numbers kind e.1) s.list _ s.place s.cause split refl s.stops;
    })

-- The words go on with neighbours after these, or stop.
abbrev Goes : LadKind → ℕ → ℕ → List (ℕ × ℕ) → List (Option ℕ) → Type 0
Goes kind n c es ws = AreListed kind n es → BeginsListed ws kind n c es ⊎ StopsListed ws kind n c es

-- The words stop at a neighbour.
stops_neighbour : (kind : LadKind) (n c : ℕ) (es : List (ℕ × ℕ)) (ws : List (Option ℕ)) (cause : LadCause) → AreListed kind n es → refused_at (Neighbour n) (first_of ws) ≡ Some cause
    → StopsListed ws kind n (suc c) es
stops_neighbour kind n c es ws cause h refused = record {
  list = [];
  place = Neighbour n;
  cause = cause;
  begun = (refl, record { some = es; fewer = omega arith; listed = h; numbers = append-nil (listed_numbers kind es) });
  stops = Stops-now ws (Neighbour n) cause refused;
}

-- They go on in a format without labels of edges.
unlabelled_or_stops : (kind : LadKind) (n c : ℕ) (es : List (ℕ × ℕ)) (ws : List (Option ℕ)) → edge_label_numbers kind 0 ≡ [] → ((b : ℕ) → MayFollow kind es b 0)
    → ((fs : List (ℕ × ℕ)) (vs : List (Option ℕ)) → Goes kind n c fs vs) → Goes kind n (suc c) es ws
unlabelled_or_stops kind n c es ws none may more h =
    elim (take_word (Neighbour n) ws tt) [
      | inl t ↦
          (let e : ℕ × ℕ = (t.number, 0) in
          let one : ws ≡ map Some (t.number ∷ edge_label_numbers kind 0) ++ t.rest = rw none t.split in
          after_one kind n c es e ws t.rest one (more (es ++ e ∷ []) t.rest (AreListed-push kind n es e h (neighbour_below n t.number t.taken) (may t.number))))
      | inr r ↦ inr (stops_neighbour kind n c es ws r.0 h r.1)
    ]

-- They go on in the format with labels of edges.
labelled_or_stops : (n c : ℕ) (es : List (ℕ × ℕ)) (ws : List (Option ℕ)) → ((fs : List (ℕ × ℕ)) (vs : List (Option ℕ)) → Goes LabelledLad n c fs vs) → Goes LabelledLad n (suc c) es ws
labelled_or_stops n c es ws more h =
    elim (take_word (Neighbour n) ws tt) [
      | inl t ↦
          (let below : t.number < n = neighbour_below n t.number t.taken in
          elim (take_word (EdgeLabel (listed_label es t.number)) t.rest tt) [
            | inl u ↦
                (let e : ℕ × ℕ = (t.number, u.number) in
                let one : ws ≡ Some t.number ∷ (Some u.number ∷ u.rest) = rw (t.split, u.split) refl in
                after_one LabelledLad n c es e ws u.rest one (more (es ++ e ∷ []) u.rest (AreListed-push LabelledLad n es e h below u.taken)))
            | inr r ↦ inr (record {
              list = t.number ∷ [];
              place = EdgeLabel (listed_label es t.number);
              cause = r.0;
              begun = record { some = es; neighbour = t.number; fewer = omega arith; listed = h; below = below; earlier_is = refl; numbers = refl };
              stops = Stops-more t.number ws t.rest [] _ (EdgeLabel (listed_label es t.number)) r.0 t.split refl (Stops-now t.rest (EdgeLabel (listed_label es t.number)) r.0 r.1);
            })
          ])
      | inr r ↦ inr (stops_neighbour LabelledLad n c es ws r.0 h r.1)
    ]

-- The words begin with as many neighbours as are due, or stop before that.
pub listed_or_stops : (kind : LadKind) (n c : ℕ) (es : List (ℕ × ℕ)) (ws : List (Option ℕ)) → Goes kind n c es ws
listed_or_stops kind n zero es ws h = inl (record {
  more = [];
  rest = ws;
  count = refl;
  listed = subst (λ (v : List (ℕ × ℕ)). AreListed kind n v) (sym (append-nil es)) h;
  split = refl;
})
listed_or_stops Lad n (suc c) es ws h = unlabelled_or_stops Lad n c es ws refl (λ b. refl) (listed_or_stops Lad n c) h
listed_or_stops VertexLabelledLad n (suc c) es ws h = unlabelled_or_stops VertexLabelledLad n c es ws refl (λ b. refl) (listed_or_stops VertexLabelledLad n c) h
listed_or_stops DirectedLad n (suc c) es ws h = unlabelled_or_stops DirectedLad n c es ws refl (λ b. refl) (listed_or_stops DirectedLad n c) h
listed_or_stops LabelledLad n (suc c) es ws h = labelled_or_stops n c es ws (listed_or_stops LabelledLad n c) h

-- The words begin with a number of neighbours and these.
pub record BeginsCount (ws : List (Option ℕ)) (kind : LadKind) (n : ℕ) : Type 0 where
  pub listed : List (ℕ × ℕ)
  pub rest : List (Option ℕ)
  pub each : AreListed kind n listed
  pub split : ws ≡ map Some (length listed ∷ listed_numbers kind listed) ++ rest

-- The words stop in front of the number of neighbours, or in front of a neighbour.
pub record StopsCount (ws : List (Option ℕ)) (kind : LadKind) (n label : ℕ) : Type 0 where
  pub part : List ℕ
  pub place : Place
  pub cause : LadCause
  pub begun : Begun place kind n (label_numbers kind label ++ part)
  pub stops : Stops ws part place cause

-- After its label a vertex goes on with its number of neighbours.
begun_count : (kind : LadKind) (n label : ℕ) → Begun Number kind n (label_numbers kind label ++ [])
begun_count Lad n label = refl
begun_count VertexLabelledLad n label = inr (label, refl)
begun_count DirectedLad n label = refl
begun_count LabelledLad n label = inr (label, refl)

-- A vertex is begun where its list is.
pub begun_in_list : (place : Place) (kind : LadKind) (n label count : ℕ) (list : List ℕ) → ListBegun place kind n count list
    → Begun place kind n (label_numbers kind label ++ count ∷ list)
begun_in_list (Neighbour m) kind n label count list b = record { label = label; count = count; list = list; begun = b; numbers = refl }
begun_in_list (EdgeLabel o) kind n label count list b = record { label = label; count = count; list = list; begun = b; numbers = refl }
begun_in_list (Size m) kind n label count list b = absurd b
begun_in_list Number kind n label count list b = absurd b
begun_in_list End kind n label count list b = absurd b

-- The words begin with a number of neighbours and these, or stop before that.
count_or_stops : (kind : LadKind) (n label : ℕ) (ws : List (Option ℕ)) → BeginsCount ws kind n ⊎ StopsCount ws kind n label
count_or_stops kind n label ws =
    elim (take_word Number ws tt) [
      | inl t ↦
          elim (listed_or_stops kind n t.number [] t.rest (AreListed-none kind n)) [
            | inl b ↦ inl (record {
              listed = b.more;
              rest = b.rest;
              each = b.listed;
              split = split_more t.number ws t.rest b.rest _ _ t.split b.split (ap (λ (c : ℕ). c ∷ listed_numbers kind b.more) b.count);
            })
            | inr s ↦ inr (record {
              part = t.number ∷ s.list;
              place = s.place;
              cause = s.cause;
              begun = begun_in_list s.place kind n label t.number s.list
                  (let all : 0 + t.number ≡ t.number = omega arith in subst (λ (k : ℕ). ListBegun s.place kind n k s.list) all s.begun);
              stops = Stops-more t.number ws t.rest _ _ s.place s.cause t.split refl s.stops;
            })
          ]
      | inr r ↦ inr (record { part = []; place = Number; cause = r.0; begun = begun_count kind n label; stops = Stops-now ws Number r.0 r.1 })
    ]

-- The words begin with a vertex.
pub record BeginsVertex (ws : List (Option ℕ)) (kind : LadKind) (n : ℕ) : Type 0 where
  pub vertex : Vertex
  pub rest : List (Option ℕ)
  pub is_vertex : IsVertex kind n vertex
  pub split : ws ≡ map Some (vertex_numbers kind vertex) ++ rest

-- The words stop within a vertex.
pub record StopsVertex (ws : List (Option ℕ)) (kind : LadKind) (n : ℕ) : Type 0 where
  pub part : List ℕ
  pub place : Place
  pub cause : LadCause
  pub begun : Begun place kind n part
  pub stops : Stops ws part place cause

-- The words begin with a vertex or stop within it, in a format without labels of vertices.
from_count : (kind : LadKind) (n : ℕ) (ws : List (Option ℕ)) → HasLabel kind 0 → label_numbers kind 0 ≡ [] → BeginsVertex ws kind n ⊎ StopsVertex ws kind n
from_count kind n ws label none =
    elim (count_or_stops kind n 0 ws) [
      | inl b ↦ inl (record {
        vertex = record { label = 0; listed = b.listed };
        rest = b.rest;
        is_vertex = record { label = label; listed = b.each };
        split = rw none b.split;
      })
      | inr s ↦ inr (record {
        part = s.part;
        place = s.place;
        cause = s.cause;
        begun = subst (λ (v : List ℕ). Begun s.place kind n (v ++ s.part)) none s.begun;
        stops = s.stops;
      })
    ]

-- The same in a format with them.
from_label : (kind : LadKind) (n : ℕ) (ws : List (Option ℕ)) → ((l : ℕ) → HasLabel kind l) → ((l : ℕ) → label_numbers kind l ≡ l ∷ []) → Begun Number kind n []
    → BeginsVertex ws kind n ⊎ StopsVertex ws kind n
from_label kind n ws label one nothing =
    elim (take_word Number ws tt) [
      | inl t ↦
          elim (count_or_stops kind n t.number t.rest) [
            | inl b ↦ inl (record {
              vertex = record { label = t.number; listed = b.listed };
              rest = b.rest;
              is_vertex = record { label = label t.number; listed = b.each };
              split = split_more t.number ws t.rest b.rest (length b.listed ∷ listed_numbers kind b.listed) _ t.split b.split
                  (ap (λ (v : List ℕ). v ++ length b.listed ∷ listed_numbers kind b.listed) (one t.number));
            })
            | inr s ↦ inr (record {
              part = t.number ∷ s.part;
              place = s.place;
              cause = s.cause;
              begun = subst (λ (v : List ℕ). Begun s.place kind n (v ++ s.part)) (one t.number) s.begun;
              stops = Stops-more t.number ws t.rest _ _ s.place s.cause t.split refl s.stops;
            })
          ]
      | inr r ↦ inr (record { part = []; place = Number; cause = r.0; begun = nothing; stops = Stops-now ws Number r.0 r.1 })
    ]

-- The words begin with a vertex or stop within it.
vertex_or_stops : (kind : LadKind) (n : ℕ) (ws : List (Option ℕ)) → BeginsVertex ws kind n ⊎ StopsVertex ws kind n
vertex_or_stops Lad n ws = from_count Lad n ws refl refl
vertex_or_stops VertexLabelledLad n ws = from_label VertexLabelledLad n ws (λ l. tt) (λ l. refl) (inl refl)
vertex_or_stops DirectedLad n ws = from_count DirectedLad n ws refl refl
vertex_or_stops LabelledLad n ws = from_label LabelledLad n ws (λ l. tt) (λ l. refl) (inl refl)

-- The words begin with k vertices.
pub record BeginsVertices (ws : List (Option ℕ)) (kind : LadKind) (n k : ℕ) : Type 0 where
  pub vertices : List Vertex
  pub rest : List (Option ℕ)
  pub count : length vertices ≡ k
  pub each : AreVertices kind n vertices
  pub split : ws ≡ map Some (all_numbers kind vertices) ++ rest

-- The words begin with fewer than k vertices, and stop within the next.
pub record StopsVertices (ws : List (Option ℕ)) (kind : LadKind) (n k : ℕ) : Type 0 where
  pub whole : List Vertex
  pub part : List ℕ
  pub place : Place
  pub cause : LadCause
  pub count : length whole < k
  pub each : AreVertices kind n whole
  pub begun : Begun place kind n part
  pub stops : Stops ws (all_numbers kind whole ++ part) place cause

-- The words begin with as many vertices as are due, or stop before that.
vertices_or_stops : (kind : LadKind) (n k : ℕ) (ws : List (Option ℕ)) → BeginsVertices ws kind n k ⊎ StopsVertices ws kind n k
vertices_or_stops kind n zero ws = inl (record { vertices = []; rest = ws; count = refl; each = tt; split = refl })
vertices_or_stops kind n (suc k) ws =
    elim (vertex_or_stops kind n ws) [
      | inl t ↦
          elim (vertices_or_stops kind n k t.rest) [
            | inl b ↦ inl (record {
              vertices = t.vertex ∷ b.vertices;
              rest = b.rest;
              count = omega (arith, b.count);
              each = (t.is_vertex, b.each);
              split = split_both ws t.rest b.rest (vertex_numbers kind t.vertex) (all_numbers kind b.vertices) t.split b.split;
            })
            | inr s ↦ inr (record {
              whole = t.vertex ∷ s.whole;
              part = s.part;
              place = s.place;
              cause = s.cause;
              count = omega (arith, s.count);
              each = (t.is_vertex, s.each);
              begun = s.begun;
              stops = Stops-after ws t.rest (vertex_numbers kind t.vertex) (all_numbers kind s.whole ++ s.part) _ s.place s.cause t.split (append_assoc (vertex_numbers kind t.vertex) (all_numbers kind s.whole) s.part) s.stops;
            })
          ]
      | inr s ↦ inr (record { whole = []; part = s.part; place = s.place; cause = s.cause; count = omega arith; each = tt; begun = s.begun; stops = s.stops })
    ]

-- Within the vertices this is what is due.
pub due_within : (place : Place) (kind : LadKind) (limit : ℕ) (before : List ℕ) → Within kind limit before place → Due place kind limit before
due_within (Size m) kind limit before w = absurd w.begun
due_within End kind limit before w = absurd w.begun
due_within Number kind limit before w = w
due_within (Neighbour n) kind limit before w = w
due_within (EdgeLabel o) kind limit before w = w

-- Where the words stop, the next is the first faulty one.
fault_of_stops : (ws : List (List ℕ)) (kind : LadKind) (limit : ℕ) (before : List ℕ) (place : Place) (cause : LadCause)
    → Stops (map number_of ws) before place cause → Due place kind limit before → Fault ws kind limit (length before + 1) cause
fault_of_stops ws kind limit before place cause s d =
    record { before = before; rest = s.rest; place = place; word = refl; split = s.split; due = d; cause_is = s.refused }

-- After the last vertex the words end, or one is left.
reads_or_left : (ws : List (List ℕ)) (kind : LadKind) (limit : ℕ) (vs : List Vertex) (rest : List (Option ℕ))
    → length vs ≤ limit → AreVertices kind (length vs) vs → map number_of ws ≡ map Some (text_numbers kind vs) ++ rest
    → ((vs : List Vertex) × Reads ws kind limit vs) ⊎ ((w : ℕ) × (cause : LadCause) × Fault ws kind limit w cause)
reads_or_left ws kind limit vs [] few each e =
    inl (vs, record { few = few; each = each; text = e ∙ append-nil (map Some (text_numbers kind vs)) })
reads_or_left ws kind limit vs (x ∷ rest) few each e =
    inr (
      length (text_numbers kind vs) + 1,
      WordsLeft,
      fault_of_stops ws kind limit (text_numbers kind vs) End WordsLeft (record { rest = x ∷ rest; split = e; refused = refl }) (vs, few, each, refl),
    )

-- A text reads or has a fault.
pub reads_or_fault : ReadsOrFault
reads_or_fault ws kind limit =
    elim (take_word (Size limit) (map number_of ws) tt) [
      | inl t ↦
          elim (vertices_or_stops kind t.number t.number t.rest) [
            | inl b ↦ reads_or_left ws kind limit b.vertices b.rest
                (rw b.count (size_within limit t.number t.taken))
                (rw b.count b.each)
                (split_more t.number _ t.rest b.rest _ _ t.split b.split (ap (λ (c : ℕ). c ∷ all_numbers kind b.vertices) b.count))
            | inr s ↦
                (let before : List ℕ = t.number ∷ (all_numbers kind s.whole ++ s.part) in
                inr (
                  length before + 1,
                  s.cause,
                  fault_of_stops ws kind limit before s.place s.cause
                      (Stops-more t.number _ t.rest _ _ s.place s.cause t.split refl s.stops)
                      (due_within s.place kind limit before (record {
                        size = t.number;
                        whole = s.whole;
                        part = s.part;
                        few = size_within limit t.number t.taken;
                        more = s.count;
                        each = s.each;
                        begun = s.begun;
                        numbers = refl;
                      })),
                ))
          ]
      | inr r ↦ inr (1, r.0, fault_of_stops ws kind limit [] (Size limit) r.0 (Stops-now _ (Size limit) r.0 r.1) (refl, refl))
    ]
