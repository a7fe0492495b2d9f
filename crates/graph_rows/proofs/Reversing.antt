-- What rows and degrees say of the reversed graph.

use Rattle.std.proofs.Common.{◌≡◌, ℕ, ◌<◌, ◌≤◌, eqb, ◌&&◌, not, Bool, true, false, List, length, Option, None, is_some, refl, sym, ap, ◌∙◌, inl, inr, ◌⊎◌, get_or, arith}
use Rattle.std.proofs.lemmas.Bool.{cases_lt}
use Rattle.std.proofs.lemmas.List.FromFn.{length-map-range_with_len}
use Rattle.std.proofs.lemmas.Option.{slice_get_past}
use Rattle.graph_theory.specs.Graph.{Graph, size, edge, row_edge, entry_edge, tabulate}
use Rattle.graph_theory.specs.Neighbours.{degree, in_degree, is_neighbour, is_in_neighbour}
use Rattle.graph_theory.specs.Reversed.{reversed, IsMutual}
use Rattle.graph_theory.proofs.Counts.{count-same}
use Rattle.graph_theory.proofs.Tables.{slice_get-tabulate}
use Rattle.graph_theory.proofs.ReversedGraphs.{edge-reversed}
use Rattle.bit_rows.specs.BitRows.{has}
use Rattle.graph_rows.specs.Held.{marks_other, graph_held, AreMarks, AreMutual, AreTurned}
use Rattle.graph_rows.proofs.HeldGraph.{mutual_in, turned_edge, degrees_are}

-- no edge of it leads past the last vertex
reversed_past : (g : Graph) (a b : ℕ) → a < size g → size g ≤ b → edge (reversed g) a b ≡ None
reversed_past g a b a_in past =
    ap (λ (row : Option (List (Option ℕ))). row_edge row b) (slice_get-tabulate (size g) (λ (c : ℕ). tabulate (size g) (λ (d : ℕ). edge g d c)) a a_in)
    ∙ ap entry_edge (slice_get_past (tabulate (size g) (λ (d : ℕ). edge g d a)) b (rw (length-map-range_with_len (λ (d : ℕ). edge g d a) 0 (size g)) past))

-- nor from there
reversed_from_past : (g : Graph) (a b : ℕ) → size g ≤ a → edge (reversed g) a b ≡ None
reversed_from_past g a b past =
    let row : ℕ → List (Option ℕ) = λ (c : ℕ). tabulate (size g) (λ (d : ℕ). edge g d c) in
    ap (λ (r : Option (List (Option ℕ))). row_edge r b) (slice_get_past (tabulate (size g) row) a (rw (length-map-range_with_len row 0 (size g)) past))

-- what a row does not hold past the last vertex
off : (row : List ℕ) (n b : ℕ) → ((c : ℕ) → has row c ≡ true → c < n) → n ≤ b → has row b ≡ false
off row n b within past = by (has row b) refl
  where
    by : (t : Bool) → has row b ≡ t → has row b ≡ false
    by true h = absurd (omega (arith, within b h))
    by false h = h

-- a row of the edges that lead in is one of the reversed graph
pub in_row-reversed : (g : Graph) (row : List ℕ) (a : ℕ) → a < size g → ((b : ℕ) → has row b ≡ is_some (edge g b a)) → ((b : ℕ) → has row b ≡ true → b < size g)
    → (b : ℕ) → has row b ≡ is_some (edge (reversed g) a b)
in_row-reversed g row a a_in is within b = by (cases_lt b (size g))
  where
    by : (b < size g) ⊎ (size g ≤ b) → has row b ≡ is_some (edge (reversed g) a b)
    by (inl b_in) = is b ∙ ap is_some (sym (edge-reversed g a b a_in b_in))
    by (inr past) = off row (size g) b within past ∙ ap is_some (sym (reversed_past g a b a_in past))

-- and the other way round
pub row-reversed : (g : Graph) (row : List ℕ) (a : ℕ) → a < size g → ((b : ℕ) → has row b ≡ is_some (edge g a b)) → ((b : ℕ) → has row b ≡ true → b < size g)
    → (b : ℕ) → has row b ≡ is_some (edge (reversed g) b a)
row-reversed g row a a_in is within b = by (cases_lt b (size g))
  where
    by : (b < size g) ⊎ (size g ≤ b) → has row b ≡ is_some (edge (reversed g) b a)
    by (inl b_in) = is b ∙ ap is_some (sym (edge-reversed g b a b_in a_in))
    by (inr past) = off row (size g) b within past ∙ ap is_some (sym (reversed_from_past g b a past))

-- the degrees of a graph are the in-degrees of its reversed graph
pub degree-reversed : (g : Graph) (a : ℕ) → a < size g → degree g a ≡ in_degree (reversed g) a
degree-reversed g a a_in =
    count-same (is_neighbour g a) (is_in_neighbour (reversed g) a) (size g)
    (λ b b_in. ap (λ (o : Option ℕ). not (eqb a b) && is_some o) (sym (edge-reversed g b a b_in a_in)))

-- the degrees that are kept of the edges that lead in
pub in_degrees_kept : (labels words : List ℕ) (label_at : ℕ → ℕ → ℕ) (back degrees : List ℕ) (width : ℕ) (g : Graph) → graph_held labels words label_at width ≡ g → AreTurned (length labels) width words back degrees
    → (a : ℕ) → a < size g → get_or degrees a 0 ≡ in_degree g a
in_degrees_kept labels words label_at back degrees width g is turned a a_in =
    let same : length labels ≡ size g = ap size is in
    let inside : a < length labels = rw same a_in in
    turned.marks.counted a inside
    ∙ count-same (marks_other back width a) (is_in_neighbour (graph_held labels words label_at width) a) (length labels)
    (λ k k_in. ap (λ t. not (eqb a k) && t) (turned_edge labels words label_at back degrees width a k turned inside k_in))
    ∙ ap (λ (h : Graph). in_degree h a) is

pub in_degrees_own : (labels words : List ℕ) (label_at : ℕ → ℕ → ℕ) (degrees : List ℕ) (width : ℕ) (g : Graph) → graph_held labels words label_at width ≡ g → AreMarks (length labels) width words degrees
    → AreMutual (length labels) width words → (a : ℕ) → a < size g → get_or degrees a 0 ≡ in_degree g a
in_degrees_own labels words label_at degrees width g is marks turns a a_in =
    degrees_are labels words label_at degrees width g is marks a a_in
    ∙ count-same (is_neighbour g a) (is_in_neighbour g a) (size g) (λ k k_in. ap (λ t. not (eqb a k) && t) (mutual_in labels words label_at width g is turns a k))

-- where marks are mutual, so is the graph
pub mutual_graph : (labels words : List ℕ) (label_at : ℕ → ℕ → ℕ) (width : ℕ) (g : Graph) → graph_held labels words label_at width ≡ g → AreMutual (length labels) width words → IsMutual g
mutual_graph labels words label_at width g is turns = record { both = λ a b _ _. mutual_in labels words label_at width g is turns a b }
