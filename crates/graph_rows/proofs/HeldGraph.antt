-- What the graph says that labels and marks hold.

use Rattle.std.proofs.Common.{◌≡◌, ℕ, ◌+◌, ◌*◌, ◌<◌, ◌≤◌, Bool, true, false, not, eqb, ◌&&◌, ◌||◌, subst, List, [], length, map, get_or, take, drop, Option, Some, None, is_some, refl, sym, ap, ◌∙◌, zero-add, arith, inl, inr, ◌⊎◌}
use Rattle.std.specs.List.{range_with_len}
use Rattle.std.proofs.lemmas.Bool.{cases_lt, cases_eq, eq-eqb, ne_eqb, false≢true}
use Rattle.std.proofs.lemmas.List.FromFn.{get_or-map-range_with_len, length-map-range_with_len, fill_by_all}
use Rattle.std.proofs.lemmas.List.{length-take, get_or_read, get_or_past}
use Rattle.std.proofs.lemmas.Option.{slice_get_past}
use Rattle.graph_theory.specs.Graph.{Graph, size, edge, row_edge, entry_edge, tabulate}
use Rattle.graph_theory.specs.Neighbours.{count, degree, in_degree, is_neighbour, is_in_neighbour}
use Rattle.graph_theory.specs.Plain.{IsPlain}
use Rattle.graph_theory.proofs.Counts.{count-same}
use Rattle.graph_theory.proofs.Tables.{slice_get-tabulate}
use Rattle.bit_rows.specs.BitRows.{has}
use Rattle.graph_rows.specs.Held.{marked, marks_other, edge_held, graph_held, label_kept, AreMarks, AreMutual, AreTurned, AreBack, AreBeside, AreListed, AreLoops}
use Rattle.graph_rows.specs.Labels.{HasZeroLabels}
use Rattle.bit_rows.proofs.Rows.{has_past}
use Rattle.graph_rows.proofs.Places.{has-row, vertices_in_words}
use Rattle.graph_rows.proofs.Marking.{room_in_row}

-- tables of functions that agree are equal
pub tabulate-same : {X : Type 0} (n : ℕ) (f g : ℕ → X) (d : X) → ((a : ℕ) → a < n → f a ≡ g a) → tabulate n f ≡ tabulate n g
tabulate-same n f g d same =
    fill_by_all g (map f (range_with_len 0 n)) n d (length-map-range_with_len f 0 n)
    (λ k k_in. get_or-map-range_with_len f 0 n k k d k_in (zero-add k) ∙ same k k_in)

-- an edge is a mark
pub edge-held : (labels words : List ℕ) (label_at : ℕ → ℕ → ℕ) (width a b : ℕ) → a < length labels → b < length labels → edge (graph_held labels words label_at width) a b ≡ edge_held (marked words width a b) (label_at a b)
edge-held labels words label_at width a b a_in b_in =
    ap (λ (row : Option (List (Option ℕ))). row_edge row b)
    (slice_get-tabulate (length labels) (λ (c : ℕ). tabulate (length labels) (λ (d : ℕ). edge_held (marked words width c d) (label_at c d))) a a_in)
    ∙ ap entry_edge (slice_get-tabulate (length labels) (λ (d : ℕ). edge_held (marked words width a d) (label_at a d)) b b_in)

-- no edge leads past the last vertex
pub edge-held_past : (labels words : List ℕ) (label_at : ℕ → ℕ → ℕ) (width a b : ℕ) → a < length labels → length labels ≤ b → edge (graph_held labels words label_at width) a b ≡ None
edge-held_past labels words label_at width a b a_in past =
    let row : List (Option ℕ) = tabulate (length labels) (λ (d : ℕ). edge_held (marked words width a d) (label_at a d)) in
    ap (λ (r : Option (List (Option ℕ))). row_edge r b)
    (slice_get-tabulate (length labels) (λ (c : ℕ). tabulate (length labels) (λ (d : ℕ). edge_held (marked words width c d) (label_at c d))) a a_in)
    ∙ ap entry_edge (slice_get_past (tabulate (length labels) (λ (d : ℕ). edge_held (marked words width a d) (label_at a d))) b
    (rw (length-map-range_with_len (λ (d : ℕ). edge_held (marked words width a d) (label_at a d)) 0 (length labels)) past))

pub is_some-mark : (m : Bool) (l : ℕ) → is_some (edge_held m l) ≡ m
is_some-mark true l = refl
is_some-mark false l = refl

-- the edge in the graph that is held
pub edge_is : (labels words : List ℕ) (label_at : ℕ → ℕ → ℕ) (width : ℕ) (g : Graph) (a b : ℕ) (m : Bool) (l : ℕ) → graph_held labels words label_at width ≡ g → a < size g → b < size g
    → m ≡ marked words width a b → l ≡ label_at a b → edge_held m l ≡ edge g a b
edge_is labels words label_at width g a b m l is a_in b_in e f =
    let same : length labels ≡ size g = ap size is in
    ap (λ (n : Bool). edge_held n l) e ∙ ap (edge_held (marked words width a b)) f
    ∙ sym (edge-held labels words label_at width a b (rw same a_in) (rw same b_in)) ∙ ap (λ (h : Graph). edge h a b) is

-- a vertex is low
pub vertex_low : (labels words : List ℕ) (label_at : ℕ → ℕ → ℕ) (degrees : List ℕ) (width : ℕ) (g : Graph) (a i : ℕ) → graph_held labels words label_at width ≡ g → AreMarks (length labels) width words degrees
    → a < size g → i ≡ a → i < 8192
vertex_low labels words label_at degrees width g a i is marks a_in e =
    let same : length labels ≡ size g = ap size is in
    omega (arith, same, marks.few, a_in, e)

-- and the place of the mark of two is in the words
pub mark_within : (labels words : List ℕ) (label_at : ℕ → ℕ → ℕ) (degrees ws : List ℕ) (width : ℕ) (g : Graph) (a b i j : ℕ) → graph_held labels words label_at width ≡ g
    → AreMarks (length labels) width words degrees → a < size g → b < size g → i ≡ a → j ≡ b → ws ≡ words → i * (64 * width) + j < 64 * length ws
mark_within labels words label_at degrees ws width g a b i j is marks a_in b_in e f put =
    let same : length labels ≡ size g = ap size is in
    rw (e, f, put) (vertices_in_words (length labels) width a b (length words) marks.width_is marks.words_are (rw same a_in) (rw same b_in))

-- the count of marks is the degree
pub degree_is : (labels words : List ℕ) (label_at : ℕ → ℕ → ℕ) (degrees : List ℕ) (width : ℕ) (g : Graph) (a i d : ℕ) → graph_held labels words label_at width ≡ g → AreMarks (length labels) width words degrees
    → a < size g → i ≡ a → d ≡ get_or degrees i d → d ≡ degree g a
degree_is labels words label_at degrees width g a i d is marks a_in at e =
    let same : length labels ≡ size g = ap size is in
    let inside : a < length labels = rw same a_in in
    get_or_read degrees i d (omega (arith, marks.degrees_are)) e 0 ∙ ap (λ (k : ℕ). get_or degrees k 0) at ∙ marks.counted a inside
    ∙ count-same (marks_other words width a) (is_neighbour (graph_held labels words label_at width) a) (length labels)
    (λ k k_in. ap (λ t. not (eqb a k) && t) (sym (ap is_some (edge-held labels words label_at width a k inside k_in) ∙ is_some-mark (marked words width a k) (label_at a k))))
    ∙ ap (λ (h : Graph). degree h a) is

-- row a of the words has the vertices to which an edge leads, and no other bit
pub row_is : (labels words : List ℕ) (label_at : ℕ → ℕ → ℕ) (degrees : List ℕ) (width : ℕ) (g : Graph) (a from : ℕ) → graph_held labels words label_at width ≡ g → AreMarks (length labels) width words degrees
    → a < size g → from ≡ a * width → (b : ℕ) → has (take width (drop from words)) b ≡ is_some (edge g a b)
row_is labels words label_at degrees width g a from is marks a_in at b = by (cases_lt b (length labels)) (cases_lt b (64 * width))
  where
    inside : a < length labels
    inside = let same : length labels ≡ size g = ap size is in rw same a_in

    past : length labels ≤ b → false ≡ is_some (edge g a b)
    past out = sym (ap is_some (ap (λ (h : Graph). edge h a b) (sym is) ∙ edge-held_past labels words label_at width a b inside out))

    by : (b < length labels) ⊎ (length labels ≤ b) → (b < 64 * width) ⊎ (64 * width ≤ b) → has (take width (drop from words)) b ≡ is_some (edge g a b)
    by (inl b_in) w =
        let within : b < 64 * width = omega (arith, room_in_row (length labels) width marks.width_is) in
        has-row words width a b from at within ∙ sym (is_some-mark (marked words width a b) (label_at a b)) ∙ ap is_some (sym (edge-held labels words label_at width a b inside b_in))
        ∙ ap (λ (h : Graph). is_some (edge h a b)) is
    by (inr out) (inl within) = has-row words width a b from at within ∙ marks.padded a b inside out within ∙ past out
    by (inr out) (inr far) = has_past (take width (drop from words)) b (omega (arith, length-take width (drop from words))) ∙ past out

-- and so has a slice of them that is that row
pub row_read : (labels words : List ℕ) (label_at : ℕ → ℕ → ℕ) (degrees ws : List ℕ) (width len : ℕ) (g : Graph) (a from : ℕ) → graph_held labels words label_at width ≡ g → AreMarks (length labels) width words degrees
    → a < size g → from ≡ a * width → ws ≡ words → len ≡ width → (b : ℕ) → has (take len (drop from ws)) b ≡ is_some (edge g a b)
row_read labels words label_at degrees ws width len g a from is marks a_in at same long b =
    rw (same, long) (row_is labels words label_at degrees width g a from is marks a_in at b)

-- which are all vertices
pub row_within : (labels words : List ℕ) (label_at : ℕ → ℕ → ℕ) (degrees ws : List ℕ) (width len : ℕ) (g : Graph) (a from : ℕ) → graph_held labels words label_at width ≡ g → AreMarks (length labels) width words degrees
    → a < size g → from ≡ a * width → ws ≡ words → len ≡ width → (b : ℕ) → has (take len (drop from ws)) b ≡ true → b < size g
row_within labels words label_at degrees ws width len g a from is marks a_in at same long b h = by (cases_lt b (length labels))
  where
    sizes : length labels ≡ size g
    sizes = ap size is

    inside : a < length labels
    inside = rw sizes a_in

    by : (b < length labels) ⊎ (length labels ≤ b) → b < size g
    by (inl b_in) = rw (← sizes) b_in
    by (inr past) = absurd (false≢true (sym
        (row_read labels words label_at degrees ws width len g a from is marks a_in at same long b
        ∙ ap is_some (ap (λ (h : Graph). edge h a b) (sym is) ∙ edge-held_past labels words label_at width a b inside past)) ∙ h))

-- no edge leads from a place past the last vertex
pub edge-held_from_past : (labels words : List ℕ) (label_at : ℕ → ℕ → ℕ) (width a b : ℕ) → length labels ≤ a → edge (graph_held labels words label_at width) a b ≡ None
edge-held_from_past labels words label_at width a b past =
    let row : ℕ → List (Option ℕ) = λ (c : ℕ). tabulate (length labels) (λ (d : ℕ). edge_held (marked words width c d) (label_at c d)) in
    ap (λ (r : Option (List (Option ℕ))). row_edge r b)
    (slice_get_past (tabulate (length labels) row) a (rw (length-map-range_with_len row 0 (length labels)) past))

-- ---- the rows of the edges that lead in

-- their marks are the edges that lead in
pub turned_edge : (labels words : List ℕ) (label_at : ℕ → ℕ → ℕ) (back degrees : List ℕ) (width : ℕ) (a b : ℕ) → AreTurned (length labels) width words back degrees → a < length labels → b < length labels
    → marked back width a b ≡ is_some (edge (graph_held labels words label_at width) b a)
turned_edge labels words label_at back degrees width a b turned a_in b_in =
    turned.each a b a_in b_in ∙ sym (is_some-mark (marked words width b a) (label_at b a)) ∙ ap is_some (sym (edge-held labels words label_at width b a b_in a_in))

-- a row of them has the vertices from which an edge leads
turned_row : (labels words : List ℕ) (label_at : ℕ → ℕ → ℕ) (back degrees : List ℕ) (width : ℕ) (g : Graph) (a from : ℕ) → graph_held labels words label_at width ≡ g → AreTurned (length labels) width words back degrees
    → a < size g → from ≡ a * width → (b : ℕ) → has (take width (drop from back)) b ≡ is_some (edge g b a)
turned_row labels words label_at back degrees width g a from is turned a_in at b = by (cases_lt b (length labels)) (cases_lt b (64 * width))
  where
    inside : a < length labels
    inside = let same : length labels ≡ size g = ap size is in rw same a_in

    past : length labels ≤ b → false ≡ is_some (edge g b a)
    past out = sym (ap is_some (ap (λ (h : Graph). edge h b a) (sym is) ∙ edge-held_from_past labels words label_at width b a out))

    by : (b < length labels) ⊎ (length labels ≤ b) → (b < 64 * width) ⊎ (64 * width ≤ b) → has (take width (drop from back)) b ≡ is_some (edge g b a)
    by (inl b_in) w =
        let within : b < 64 * width = omega (arith, room_in_row (length labels) width turned.marks.width_is) in
        has-row back width a b from at within ∙ turned_edge labels words label_at back degrees width a b turned inside b_in ∙ ap (λ (h : Graph). is_some (edge h b a)) is
    by (inr out) (inl within) = has-row back width a b from at within ∙ turned.marks.padded a b inside out within ∙ past out
    by (inr out) (inr far) = has_past (take width (drop from back)) b (omega (arith, length-take width (drop from back))) ∙ past out

pub turned_read : (labels words : List ℕ) (label_at : ℕ → ℕ → ℕ) (back degrees ws : List ℕ) (width len : ℕ) (g : Graph) (a from : ℕ) → graph_held labels words label_at width ≡ g → AreTurned (length labels) width words back degrees
    → a < size g → from ≡ a * width → ws ≡ back → len ≡ width → (b : ℕ) → has (take len (drop from ws)) b ≡ is_some (edge g b a)
turned_read labels words label_at back degrees ws width len g a from is turned a_in at same long b =
    rw (same, long) (turned_row labels words label_at back degrees width g a from is turned a_in at b)

-- where marks are mutual a row is its own
edges_mutual : (labels words : List ℕ) (label_at : ℕ → ℕ → ℕ) (width : ℕ) → AreMutual (length labels) width words
    → (a b : ℕ) → is_some (edge (graph_held labels words label_at width) a b) ≡ is_some (edge (graph_held labels words label_at width) b a)
edges_mutual labels words label_at width turns a b = by (cases_lt a (length labels)) (cases_lt b (length labels))
  where
    by : (a < length labels) ⊎ (length labels ≤ a) → (b < length labels) ⊎ (length labels ≤ b)
        → is_some (edge (graph_held labels words label_at width) a b) ≡ is_some (edge (graph_held labels words label_at width) b a)
    by (inl a_in) (inl b_in) =
        ap is_some (edge-held labels words label_at width a b a_in b_in) ∙ is_some-mark (marked words width a b) (label_at a b) ∙ turns.each a b a_in b_in
        ∙ sym (is_some-mark (marked words width b a) (label_at b a)) ∙ ap is_some (sym (edge-held labels words label_at width b a b_in a_in))
    by (inl a_in) (inr past) = ap is_some (edge-held_past labels words label_at width a b a_in past ∙ sym (edge-held_from_past labels words label_at width b a past))
    by (inr past) (inl b_in) = ap is_some (edge-held_from_past labels words label_at width a b past ∙ sym (edge-held_past labels words label_at width b a b_in past))
    by (inr past) (inr out) = ap is_some (edge-held_from_past labels words label_at width a b past ∙ sym (edge-held_from_past labels words label_at width b a out))

pub mutual_in : (labels words : List ℕ) (label_at : ℕ → ℕ → ℕ) (width : ℕ) (g : Graph) → graph_held labels words label_at width ≡ g → AreMutual (length labels) width words
    → (a b : ℕ) → is_some (edge g a b) ≡ is_some (edge g b a)
mutual_in labels words label_at width g is turns a b =
    ap (λ (h : Graph). is_some (edge h a b)) (sym is) ∙ edges_mutual labels words label_at width turns a b ∙ ap (λ (h : Graph). is_some (edge h b a)) is

-- the row that answers for the edges that lead in
pub own_read : (labels words : List ℕ) (label_at : ℕ → ℕ → ℕ) (degrees ws : List ℕ) (width len : ℕ) (g : Graph) (a from : ℕ) → graph_held labels words label_at width ≡ g → AreMarks (length labels) width words degrees
    → AreMutual (length labels) width words → a < size g → from ≡ a * width → ws ≡ words → len ≡ width → (b : ℕ) → has (take len (drop from ws)) b ≡ is_some (edge g b a)
own_read labels words label_at degrees ws width len g a from is marks turns a_in at same long b =
    row_read labels words label_at degrees ws width len g a from is marks a_in at same long b ∙ mutual_in labels words label_at width g is turns a b

-- which are all vertices
pub in_within : (labels words : List ℕ) (label_at : ℕ → ℕ → ℕ) (row : List ℕ) (width : ℕ) (g : Graph) (a : ℕ) → graph_held labels words label_at width ≡ g
    → ((b : ℕ) → has row b ≡ is_some (edge g b a)) → (b : ℕ) → has row b ≡ true → b < size g
in_within labels words label_at row width g a is has_in b h = by (cases_lt b (length labels))
  where
    by : (b < length labels) ⊎ (length labels ≤ b) → b < size g
    by (inl b_in) = let sizes : length labels ≡ size g = ap size is in rw (← sizes) b_in
    by (inr past) = absurd (false≢true (sym
        (has_in b ∙ ap is_some (ap (λ (h : Graph). edge h b a) (sym is) ∙ edge-held_from_past labels words label_at width b a past)) ∙ h))

-- the count of marks in them is the number of edges that lead in
pub in_degree_kept : (labels words : List ℕ) (label_at : ℕ → ℕ → ℕ) (back degrees : List ℕ) (width : ℕ) (g : Graph) (a i d : ℕ) → graph_held labels words label_at width ≡ g → AreTurned (length labels) width words back degrees
    → a < size g → i ≡ a → d ≡ get_or degrees i d → d ≡ in_degree g a
in_degree_kept labels words label_at back degrees width g a i d is turned a_in at e =
    let same : length labels ≡ size g = ap size is in
    let inside : a < length labels = rw same a_in in
    get_or_read degrees i d (omega (arith, turned.marks.degrees_are)) e 0 ∙ ap (λ (k : ℕ). get_or degrees k 0) at ∙ turned.marks.counted a inside
    ∙ count-same (marks_other back width a) (is_in_neighbour (graph_held labels words label_at width) a) (length labels)
    (λ k k_in. ap (λ t. not (eqb a k) && t) (turned_edge labels words label_at back degrees width a k turned inside k_in))
    ∙ ap (λ (h : Graph). in_degree h a) is

pub in_degree_own : (labels words : List ℕ) (label_at : ℕ → ℕ → ℕ) (degrees : List ℕ) (width : ℕ) (g : Graph) (a i d : ℕ) → graph_held labels words label_at width ≡ g → AreMarks (length labels) width words degrees
    → AreMutual (length labels) width words → a < size g → i ≡ a → d ≡ get_or degrees i d → d ≡ in_degree g a
in_degree_own labels words label_at degrees width g a i d is marks turns a_in at e =
    degree_is labels words label_at degrees width g a i d is marks a_in at e
    ∙ count-same (is_neighbour g a) (is_in_neighbour g a) (size g) (λ k k_in. ap (λ t. not (eqb a k) && t) (mutual_in labels words label_at width g is turns a k))

-- the row of loops has the vertices with an edge to themselves
pub loops_are : (labels words : List ℕ) (label_at : ℕ → ℕ → ℕ) (loops : List ℕ) (width : ℕ) (g : Graph) → graph_held labels words label_at width ≡ g → AreLoops (length labels) width words loops
    → (a : ℕ) → has loops a ≡ is_some (edge g a a)
loops_are labels words label_at loops width g is held a = by (cases_lt a (length labels)) ∙ ap (λ (h : Graph). is_some (edge h a a)) is
  where
    by : (a < length labels) ⊎ (length labels ≤ a) → has loops a ≡ is_some (edge (graph_held labels words label_at width) a a)
    by (inl inside) =
        held.each a inside ∙ sym (is_some-mark (marked words width a a) (label_at a a)) ∙ ap is_some (sym (edge-held labels words label_at width a a inside inside))
    by (inr past) = held.none a past ∙ ap is_some (sym (edge-held_from_past labels words label_at width a a past))

-- which are all vertices
pub loops_within : (labels words : List ℕ) (label_at : ℕ → ℕ → ℕ) (loops : List ℕ) (width : ℕ) (g : Graph) → graph_held labels words label_at width ≡ g → AreLoops (length labels) width words loops
    → (a : ℕ) → has loops a ≡ true → a < size g
loops_within labels words label_at loops width g is held a h = by (cases_lt a (length labels))
  where
    by : (a < length labels) ⊎ (length labels ≤ a) → a < size g
    by (inl inside) = let same : length labels ≡ size g = ap size is in rw (← same) inside
    by (inr past) = absurd (false≢true (sym (held.none a past) ∙ h))

-- and so a bit of it is the mark of a vertex in its own row
pub loop_is : (labels words : List ℕ) (label_at : ℕ → ℕ → ℕ) (loops : List ℕ) (width : ℕ) (g : Graph) (a : ℕ) (m : Bool) (l : ℕ) → graph_held labels words label_at width ≡ g → AreLoops (length labels) width words loops
    → a < size g → m ≡ has loops a → l ≡ label_at a a → edge_held m l ≡ edge g a a
loop_is labels words label_at loops width g a m l is held a_in e f =
    let same : length labels ≡ size g = ap size is in
    edge_is labels words label_at width g a a m l is a_in a_in (e ∙ held.each a (rw same a_in)) f

-- the kept degrees are the degrees
pub degrees_are : (labels words : List ℕ) (label_at : ℕ → ℕ → ℕ) (degrees : List ℕ) (width : ℕ) (g : Graph) → graph_held labels words label_at width ≡ g → AreMarks (length labels) width words degrees
    → (a : ℕ) → a < size g → get_or degrees a 0 ≡ degree g a
degrees_are labels words label_at degrees width g is marks a a_in =
    let same : length labels ≡ size g = ap size is in
    let inside : a < length labels = rw same a_in in
    marks.counted a inside
    ∙ count-same (marks_other words width a) (is_neighbour (graph_held labels words label_at width) a) (length labels)
    (λ k k_in. ap (λ t. not (eqb a k) && t) (sym (ap is_some (edge-held labels words label_at width a k inside k_in) ∙ is_some-mark (marked words width a k) (label_at a k))))
    ∙ ap (λ (h : Graph). degree h a) is

-- marks, and the row of loops, as they are kept
pub marks_kept : (n size width : ℕ) (words ws degrees ds : List ℕ) → AreMarks size width ws ds → n ≡ size → words ≡ ws → degrees ≡ ds → AreMarks n width words degrees
marks_kept n size width words ws degrees ds marks same put counted = rw (same, put, counted) marks

pub mutual_kept : (n size width : ℕ) (words ws : List ℕ) → AreMutual size width ws → n ≡ size → words ≡ ws → AreMutual n width words
mutual_kept n size width words ws turns same put = rw (same, put) turns

pub turned_kept : (n size width : ℕ) (words ws back bs degrees ds : List ℕ) → AreTurned size width ws bs ds → n ≡ size → words ≡ ws → back ≡ bs → degrees ≡ ds
    → AreTurned n width words back degrees
turned_kept n size width words ws back bs degrees ds turned same put kept counted = rw (same, put, kept, counted) turned

pub loops_kept : (n size width : ℕ) (words ws loops ls : List ℕ) → AreLoops size width ws ls → n ≡ size → words ≡ ws → loops ≡ ls → AreLoops n width words loops
loops_kept n size width words ws loops ls held same marks row = rw (same, marks, row) held

pub beside_kept : (n size width : ℕ) (words ws starts labels : List ℕ) → AreBeside size width ws starts labels → n ≡ size → words ≡ ws → AreBeside n width words starts labels
beside_kept n size width words ws starts labels beside same marks = rw (same, marks) beside

pub listed_kept : (n size width : ℕ) (words ws starts labels : List ℕ) (lists ess : List (List ℕ)) → AreListed size width ws starts labels lists ess → n ≡ size → words ≡ ws
    → AreListed n width words starts labels lists ess
listed_kept n size width words ws starts labels lists ess listed same marks = rw (same, marks) listed

-- ---- loops, gathered vertex by vertex

either_of : (a b : Bool) → b ≡ true → (a || b) ≡ true
either_of true b e = refl
either_of false b e = e

or_not : (a b : Bool) → b ≡ false → (a || b) ≡ a
or_not true b e = refl
or_not false b e = e

-- one vertex more has a loop
pub loops_more : (a width : ℕ) (words old new : List ℕ) → AreLoops a width words old → marked words width a a ≡ true → length new ≡ length old
    → ((v : ℕ) → has new v ≡ (has old v || eqb a v)) → AreLoops (a + 1) width words new
loops_more a width words old new held mark long put = record {
  long = long ∙ held.long;
  each = λ v v_in. put v ∙ by v v_in (cases_eq a v);
  none = λ v past. put v ∙ or_not (has old v) (eqb a v) (ne_eqb a v (λ e. omega arith)) ∙ held.none v (omega arith);
}
  where
    by : (v : ℕ) → v < a + 1 → (a ≡ v) ⊎ (a ≡ v → ⊥) → (has old v || eqb a v) ≡ marked words width v v
    by v v_in (inl e) = either_of (has old v) (eqb a v) (eq-eqb a v e) ∙ sym (subst (λ (k : ℕ). marked words width k k ≡ true) e mark)
    by v v_in (inr ne) = or_not (has old v) (eqb a v) (ne_eqb a v ne) ∙ held.each v (omega arith)

-- or has none
pub loops_same : (a width : ℕ) (words loops : List ℕ) → AreLoops a width words loops → marked words width a a ≡ false → AreLoops (a + 1) width words loops
loops_same a width words loops held mark = record {
  long = held.long;
  each = λ v v_in. by v v_in (cases_eq a v);
  none = λ v past. held.none v (omega arith);
}
  where
    by : (v : ℕ) → v < a + 1 → (a ≡ v) ⊎ (a ≡ v → ⊥) → has loops v ≡ marked words width v v
    by v v_in (inl e) = held.none v (omega arith) ∙ sym (subst (λ (k : ℕ). marked words width k k ≡ false) e mark)
    by v v_in (inr ne) = held.each v (omega arith)

-- rows that are their own need no others
pub back_own : (n width : ℕ) (words back degrees : List ℕ) → back ≡ [] → AreMutual n width words → AreBack n width words back degrees
back_own n width words back degrees none turns = record { own = λ _. turns; kept = λ some. let e = ap length none in absurd (omega arith) }

-- the same of as many vertices, and of the same rows
pub own_kept : (n size width : ℕ) (words ws back degrees : List ℕ) → AreBack size width ws back degrees → n ≡ size → words ≡ ws → AreBack n width words back degrees
own_kept n size width words ws back degrees held same marks = rw (same, marks) held

-- rows that are the same both ways are mutual
pub own_mutual : (n width : ℕ) (words back degrees none counts : List ℕ) → AreTurned n width words back degrees → words ≡ back → length none ≡ 0 → AreBack n width words none counts
own_mutual n width words back degrees none counts turned same empty = record {
  own = λ _. record {
    each = λ a b a_in b_in. ap (λ (ws : List ℕ). marked ws width a b) same ∙ turned.each a b a_in b_in;
  };
  kept = λ some. absurd (omega (arith, some, empty));
}

-- where none are kept the label is 0
pub no_label : (starts labels words : List ℕ) (width a b : ℕ) → length labels ≡ 0 → label_kept starts labels words width a b ≡ 0
no_label starts labels words width a b none = get_or_past labels (get_or starts a 0 + count (marked words width a) b) 0 (omega arith)

-- so where none are kept each edge has label 0
pub zero_labels : (labels words : List ℕ) (label_at : ℕ → ℕ → ℕ) (width : ℕ) (g : Graph) → graph_held labels words label_at width ≡ g → ((a b : ℕ) → label_at a b ≡ 0) → HasZeroLabels g
zero_labels labels words label_at width g is zero = record {
  zeros = λ a b l a_in b_in e.
      by (marked words width a b) (label_at a b) l (zero a b) (edge_is labels words label_at width g a b _ _ is a_in b_in refl refl ∙ e);
}
  where
    by : (m : Bool) (k l : ℕ) → k ≡ 0 → edge_held m k ≡ Some l → l ≡ 0
    by true k l none e = cc
    by false k l none e = absurd cc

-- no labels of edges are kept
pub none_beside : (n width : ℕ) (words starts labels : List ℕ) → starts ≡ [] → labels ≡ [] → AreBeside n width words starts labels
none_beside n width words starts labels no_start no_label =
    let first : length starts ≡ 0 = ap length no_start in
    record {
      none = λ _. ap length no_label;
      long = λ some. absurd (omega arith);
      within = λ a a_in. absurd (omega arith);
    }

-- ---- graphs without directions

eqb-turned : (a b : ℕ) → eqb a b ≡ eqb b a
eqb-turned a b = by (cases_eq a b)
  where
    by : (a ≡ b) ⊎ (a ≡ b → ⊥) → eqb a b ≡ eqb b a
    by (inl e) = eq-eqb a b e ∙ sym (eq-eqb b a (sym e))
    by (inr ne) = ne_eqb a b ne ∙ sym (ne_eqb b a (λ e. ne (sym e)))

-- their vertices are neighbours both ways
pub plain_mutual : (g : Graph) → IsPlain g → (a b : ℕ) → is_neighbour g a b ≡ is_neighbour g b a
plain_mutual g plain a b =
    ap (λ (t : Bool). not t && is_some (edge g a b)) (eqb-turned a b) ∙ ap (λ (e : Option ℕ). not (eqb b a) && is_some e) (plain.both a b)
