-- How a graph is made from a test of two vertices.

use Rattle.std.specs.Prelude.{◌≡◌, ℕ, ◌<◌, Bool, ◌&&◌, nat_lt, List, length}
use Rattle.lad_reader.specs.Parts.{AreBelow, AllBelow}
use Rattle.graph_rows.specs.Held.{stands_in, said}

-- The list has those numbers below n that pass, among those below m.
pub record ListsThose (n m : ℕ) (test : ℕ → Bool) (list : List ℕ) : Type 0 where
  pub each : (b : ℕ) → stands_in list b ≡ (nat_lt b m && test b)
  pub below : AreBelow n list

-- The lists say the pairs of the first m of n vertices.
pub record ListsPairs (n m : ℕ) (pair : ℕ → ℕ → Bool) (lists : List (List ℕ)) : Type 0 where
  pub many : length lists ≡ m
  pub each : (a b : ℕ) → a < m → said lists a b ≡ (nat_lt b n && pair a b)
  pub below : AllBelow n lists
