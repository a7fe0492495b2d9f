-- A vertex that is near two others, as it is found in a row.

use Rattle.std.specs.Prelude.{◌≡◌, ℕ, true, List}
use Rattle.graph_theory.specs.Graph.{Graph}
use Rattle.graph_theory.specs.Neighbours.{is_near}
use Rattle.bit_rows.specs.BitRows.{has}

-- Vertex c is in the row, is another than p, and is near r.
pub record IsNearInRow (g : Graph) (row : List ℕ) (p r c : ℕ) : Type 0 where
  pub in_row : has row c ≡ true
  pub other : p ≡ c → ⊥
  pub near : is_near g c r ≡ true
