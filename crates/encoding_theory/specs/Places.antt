-- Where each form of the encoding stands: its place is the number of forms before it. A form's number as a line of a
-- text, and as a reference in a log, is its place plus 1.

use Rattle.std.specs.Prelude.{◌≡◌, ℕ, ◌+◌, ◌<◌, Bool, true, length, slice_get, Option, Some, None}
use Rattle.graph_theory.specs.Graph.{size}
use Rattle.graph_theory.specs.Embedding.{Problem}
use Rattle.graph_theory.specs.Blocks.{has_block}
use Rattle.encoding_theory.specs.Variables.{collect}
use Rattle.encoding_theory.specs.Pairs.{is_edge_pair, is_non_edge_pair}
use Rattle.encoding_theory.specs.Encoding.{at_least, at_most, vertex_forms, vertex_group, at_most_in, block_at, near_forms, target_group, is_refused, refusal, refused_at, refused_of, refused_group, pair_form, pair_at, pairs_at, pairs_of, edge_group, non_edge_group, less_from, less_to, less_from_at, less_to_at, is_inside, less_at, encoding}

-- Group 1 stands at the front, two forms for each pattern vertex.
abbrev pub at_least_place : Problem → ℕ → ℕ
at_least_place q p = length (collect (vertex_forms q) p)

abbrev pub at_most_place : Problem → ℕ → ℕ
at_most_place q p = at_least_place q p + 1

-- Group 2 comes after it, for each block a form for each target vertex. Before the forms of the block around c stand those around the
-- vertices before c.
abbrev pub target_start : Problem → ℕ
target_start q = length (vertex_group q)

abbrev pub block_start : Problem → Option ℕ → ℕ
block_start q None = 0
block_start q (Some c) = length (collect (near_forms q) c)

abbrev pub at_most_place_in : Problem → Option ℕ → ℕ → ℕ
at_most_place_in q b t = target_start q + (block_start q b + length (collect (block_at q b) t))

-- The place of the form of all pattern vertices.
abbrev pub at_most_target_place : Problem → ℕ → ℕ
at_most_target_place q t = at_most_place_in q None t

-- Group 3: before the refusal of p at t stand those of the vertices before p, and of p at the places before t.
abbrev pub refused_start : Problem → ℕ
refused_start q = target_start q + length (target_group q)

abbrev pub refused_place : Problem → ℕ → ℕ → ℕ
refused_place q p t = refused_start q + (length (collect (refused_of q) p) + length (collect
    (refused_at q p) t))

-- In a group of pairs there stand before the form of p and r at t those of the vertices before p, those of p with the vertices
-- before r, and those of p and r at the places before t.
abbrev pub pair_place : (ℕ → ℕ → Bool) → Problem → ℕ → ℕ → ℕ → ℕ
pair_place test q p r t =
    length (collect (pairs_of test q) p) + (length (collect (pairs_at test q p) r) + length
    (collect (pair_at q p r) t))

-- Group 4.
abbrev pub edge_start : Problem → ℕ
edge_start q = refused_start q + length (refused_group q)

abbrev pub edge_place : Problem → ℕ → ℕ → ℕ → ℕ
edge_place q p r t = edge_start q + pair_place (is_edge_pair q) q p r t

-- Group 5.
abbrev pub non_edge_start : Problem → ℕ
non_edge_start q = edge_start q + length (edge_group q)

abbrev pub non_edge_place : Problem → ℕ → ℕ → ℕ → ℕ
non_edge_place q p r t = non_edge_start q + pair_place (is_non_edge_pair q) q p r t

-- Group 6: before the forms of pair k stand those of the pairs before it, and before its forms of the second kind all of the first.
abbrev pub less_start : Problem → ℕ
less_start q = non_edge_start q + length (non_edge_group q)

abbrev pub less_place : Problem → ℕ → ℕ
less_place q k = less_start q + length (collect (less_at q) k)

abbrev pub less_from_place : Problem → ℕ → ℕ × ℕ → ℕ → ℕ
less_from_place q k x t = less_place q k + length (collect (less_from_at q x) t)

abbrev pub less_to_place : Problem → ℕ → ℕ × ℕ → ℕ → ℕ
less_to_place q k x t = less_place q k + (length (collect (less_from_at q x)
    (size q.target)) + length (collect (less_to_at q x) t))

-- At each of these places stands the form that it is named for.
pub record PlaceLaws (q : Problem) : Type 0 where
  pub at_least : (p : ℕ) → p < size q.pattern
      → slice_get (encoding q) (at_least_place q p) ≡ Some (at_least q p)
  pub at_most : (p : ℕ) → p < size q.pattern
      → slice_get (encoding q) (at_most_place q p) ≡ Some (at_most q p)
  pub at_most_in : (b : Option ℕ) (t : ℕ) → has_block q b ≡ true → t < size q.target
      → slice_get (encoding q) (at_most_place_in q b t) ≡ Some (at_most_in q b t)
  pub refused : (p t : ℕ) → p < size q.pattern → t < size q.target → is_refused q p t ≡ true
      → slice_get (encoding q) (refused_place q p t) ≡ Some (refusal q p t)
  pub edge : (p r t : ℕ) → p < size q.pattern → r < size q.pattern → t < size q.target
      → is_edge_pair q p r ≡ true
      → slice_get (encoding q) (edge_place q p r t) ≡ Some (pair_form q p r t)
  pub non_edge : (p r t : ℕ) → p < size q.pattern → r < size q.pattern → t < size q.target
      → is_non_edge_pair q p r ≡ true
      → slice_get (encoding q) (non_edge_place q p r t) ≡ Some (pair_form q p r t)
  pub less_from : (k : ℕ) (x : ℕ × ℕ) (t : ℕ) → k < length q.less → slice_get q.less k ≡ Some x
      → is_inside q x ≡ true → t < size q.target
      → slice_get (encoding q) (less_from_place q k x t) ≡ Some (less_from q x t)
  pub less_to : (k : ℕ) (x : ℕ × ℕ) (t : ℕ) → k < length q.less → slice_get q.less k ≡ Some x
      → is_inside q x ≡ true → t < size q.target
      → slice_get (encoding q) (less_to_place q k x t) ≡ Some (less_to q x t)
