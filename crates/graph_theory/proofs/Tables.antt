-- Tables: what stands at a place of a list made from a function.

use Rattle.std.proofs.Common.{◌≡◌, ℕ, ◌<◌, ◌≤◌, List, map, length, Option, Some, None, slice_get, ap, ◌∙◌, zero-add}
use Rattle.std.specs.List.{range_with_len}
use Rattle.std.proofs.lemmas.List.FromFn.{get_or-map-range_with_len, length-map-range_with_len}
use Rattle.std.proofs.lemmas.Option.{slice_get-get_or, slice_get_past}
use Rattle.graph_theory.specs.Lad.{Vertex}
use Rattle.graph_theory.specs.Graph.{edge, row_edge, entry_edge, tabulate, graph_with, graph_of, either_lists}

-- at each place below n stands the function's value
pub slice_get-tabulate : {X : Type 0} (n : ℕ) (f : ℕ → X) (a : ℕ) → a < n → slice_get (tabulate n f) a ≡ Some (f a)
slice_get-tabulate n f a a_in =
    let inside : a < length (map f (range_with_len 0 n)) = rw (length-map-range_with_len f 0 n) a_in in
    slice_get-get_or (map f (range_with_len 0 n)) a (f a) inside ∙ ap Some (get_or-map-range_with_len f 0 n a a (f a) a_in (zero-add a))

-- past the last place nothing stands
slice_get-tabulate_past : {X : Type 0} (n : ℕ) (f : ℕ → X) (a : ℕ) → n ≤ a → slice_get (tabulate n f) a ≡ None
slice_get-tabulate_past n f a past =
    slice_get_past (map f (range_with_len 0 n)) a (rw (length-map-range_with_len f 0 n) past)

-- an edge of a graph that was made of edges is the one that it was made of
pub edge-graph_with : (edges : ℕ → ℕ → Option ℕ) (vs : List Vertex) (a b : ℕ) → a < length vs → b < length vs → edge (graph_with edges vs) a b ≡ edges a b
edge-graph_with edges vs a b a_in b_in =
    ap (λ (row : Option (List (Option ℕ))). row_edge row b) (slice_get-tabulate (length vs) (λ (c : ℕ). tabulate (length vs) (λ (d : ℕ). edges c d)) a a_in)
    ∙ ap entry_edge (slice_get-tabulate (length vs) (λ (d : ℕ). edges a d) b b_in)

-- there is none from a number past its vertices
pub edge-graph_with_from : (edges : ℕ → ℕ → Option ℕ) (vs : List Vertex) (a b : ℕ) → length vs ≤ a → edge (graph_with edges vs) a b ≡ None
edge-graph_with_from edges vs a b past =
    ap (λ (row : Option (List (Option ℕ))). row_edge row b) (slice_get-tabulate_past (length vs) (λ (c : ℕ). tabulate (length vs) (λ (d : ℕ). edges c d)) a past)

-- nor to one
pub edge-graph_with_to : (edges : ℕ → ℕ → Option ℕ) (vs : List Vertex) (a b : ℕ) → a < length vs → length vs ≤ b → edge (graph_with edges vs) a b ≡ None
edge-graph_with_to edges vs a b a_in past =
    ap (λ (row : Option (List (Option ℕ))). row_edge row b) (slice_get-tabulate (length vs) (λ (c : ℕ). tabulate (length vs) (λ (d : ℕ). edges c d)) a a_in)
    ∙ ap entry_edge (slice_get-tabulate_past (length vs) (λ (d : ℕ). edges a d) b past)

-- the edge of a text's graph is the one that either end lists
pub edge-graph_of : (vs : List Vertex) (a b : ℕ) → a < length vs → b < length vs → edge (graph_of vs) a b ≡ either_lists vs a b
edge-graph_of vs a b a_in b_in = edge-graph_with (either_lists vs) vs a b a_in b_in
