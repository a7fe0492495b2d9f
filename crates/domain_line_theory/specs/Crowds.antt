-- Values that a vertex cannot have, and crowds of its neighbours that show it: with the vertex at the value there are more of them
-- than places for them.

use Rattle.std.specs.Prelude.{◌≡◌, ℕ, ◌<◌, nat_lt, Bool, true, ◌&&◌, not, ◌⊎◌, List, [], ◌∷◌, ◌++◌, length, map, Option, Some, None, is_some}
use Rattle.graph_theory.specs.Graph.{Graph, size, edge}
use Rattle.graph_theory.specs.Embedding.{Problem}
use Rattle.graph_theory.specs.Blocks.{in_block}
use Rattle.graph_theory.specs.declared.embedding.Maps.{Maps}
use Rattle.graph_theory.specs.declared.embedding.Maps.TheVariants.{Injective, Local, Any}
use Rattle.graph_theory.specs.Neighbours.{count, members, is_neighbour, degree}
use Rattle.proof_theory.specs.Forms.{Form}
use Rattle.log_theory.specs.Lookups.{is_among, are_distinct}
use Rattle.encoding_theory.specs.Pairs.{is_open, is_compatible}
use Rattle.encoding_theory.specs.Encoding.{at_most_in, refusal, pair_form}

-- ---- forms

-- That p goes to none of these values, value by value.
abbrev pub refused_values : Problem → ℕ → List ℕ → List Form
refused_values q p values = map (refusal q p) values

-- That none of these pairs holds, pair by pair.
abbrev pub refused_pairs : Problem → List (ℕ × ℕ) → List Form
refused_pairs q pairs = map (λ x. refusal q x.0 x.1) pairs

-- Where p is at u, that each of these vertices goes to a place that is compatible with it.
abbrev pub beside_forms : Problem → ℕ → ℕ → List ℕ → List Form
beside_forms q p u vertices = map (λ r. pair_form q p r u) vertices

-- The same, and that each of these values is taken once in a block.
abbrev pub crowd_forms : Problem → Option ℕ → ℕ → ℕ → List ℕ → List ℕ → List Form
crowd_forms q b p u vertices values = beside_forms q p u vertices ++ map (at_most_in q b) values

-- ---- crowds

-- The pair is one of these.
abbrev pub IsOneOf : ℕ → ℕ → List (ℕ × ℕ) → Type 0
IsOneOf r w [] = ⊥
IsOneOf r w (x ∷ xs) = ((x.0 ≡ r) × (x.1 ≡ w)) ⊎ IsOneOf r w xs

-- With p at u these vertices of a block have no place but the values, except for pairs that are refused; and the values are fewer.
pub record IsCrowded (q : Problem) (b : Option ℕ) (p u : ℕ) (vertices values : List ℕ)
    (refused : List (ℕ × ℕ)) : Type 0 where
  pub distinct : are_distinct vertices ≡ true
  pub members : (r : ℕ) → is_among r vertices ≡ true → in_block q b r ≡ true
  pub vertices_in : (r : ℕ) → is_among r vertices ≡ true → r < size q.pattern
  pub covered : (r w : ℕ) → is_among r vertices ≡ true → w < size q.target
      → is_compatible q p u r w ≡ true → (is_among w values ≡ true) ⊎ IsOneOf r w refused
  pub fewer : length values < length vertices

-- ---- crowds of neighbours by their degrees

-- The vertex is a neighbour of a, and its degree is at least d.
abbrev pub is_high : Graph → ℕ → ℕ → ℕ → Bool
is_high g a d b = is_neighbour g a b && not (nat_lt (degree g b) d)

-- The neighbours of a of degree at least d, rising.
abbrev pub high_neighbours : Graph → ℕ → ℕ → List ℕ
high_neighbours g a d = members (is_high g a d) (size g)

-- How many they are.
abbrev pub high_count : Graph → ℕ → ℕ → ℕ
high_count g a d = count (is_high g a d) (size g)

-- With a vertex at u a neighbour of it may be at w, as far as the edge between them tells: at another vertex, or where the maps are not
-- injective at u itself.
abbrev pub is_place : Problem → ℕ → ℕ → Bool
is_place q u w = is_open q u w && is_some (edge q.target u w)

-- And the degree of w is at least d.
abbrev pub is_high_place : Problem → ℕ → ℕ → ℕ → Bool
is_high_place q u d w = is_place q u w && not (nat_lt (degree q.target w) d)

-- These places, rising, and how many they are.
abbrev pub high_places : Problem → ℕ → ℕ → List ℕ
high_places q u d = members (is_high_place q u d) (size q.target)

abbrev pub place_count : Problem → ℕ → ℕ → ℕ
place_count q u d = count (is_high_place q u d) (size q.target)

-- The block that the neighbours of p are counted in: by local maps that around p.
abbrev pub crowd_block_in : Maps → ℕ → Option ℕ
crowd_block_in Injective p = None
crowd_block_in Local p = Some p
crowd_block_in Any p = None

abbrev pub crowd_block : Problem → ℕ → Option ℕ
crowd_block q p = crowd_block_in q.maps p

-- Each pair of a neighbour of p of degree at least d and a place beside u of a lesser degree is one of these.
abbrev pub HasAllLower : Problem → ℕ → ℕ → ℕ → List (ℕ × ℕ) → Type 0
HasAllLower q p u d refused = (r w : ℕ) → r < size q.pattern → is_high q.pattern p d r ≡ true
    → w < size q.target → is_place q u w ≡ true → degree q.target w < d
    → IsOneOf r w refused
