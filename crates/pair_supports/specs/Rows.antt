-- Rows of consistent values, as the layers above see them.

use Rattle.std.specs.Prelude.{◌≡◌, ℕ, Bool, true, false, List, slice_index_or}
use Rattle.graph_theory.specs.Embedding.{Problem}

-- The problem whose values the rows hold, and for each target vertex whether its rows are made.
pub record Rows : Type 0 where
  pub problem : Problem
  pub made : List Bool

-- The rows at t are made.
abbrev pub IsMade : Rows → ℕ → Type 0
IsMade rows t = slice_index_or rows.made t false ≡ true

-- The problem, a pattern vertex and a value of it, of which rows say what goes together with them.
pub record At : Type 0 where
  pub problem : Problem
  pub vertex : ℕ
  pub value : ℕ
