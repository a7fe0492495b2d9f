-- What is written into the rows.

use Rattle.std.specs.Prelude.{◌≡◌, ℕ, ◌+◌, ◌*◌, ◌<◌, ◌≤◌, ◌==◌, ◌&&◌, ◌||◌, ◌⊎◌, not, List, slice_index}
use Rattle.graph_rows.specs.Held.{marked}

-- The words from one place up to another are 0, and the others as they were.
pub record Clears (old new : List ℕ) (from to : ℕ) : Type 0 where
  pub inside : (k : ℕ) → from ≤ k → k < to → slice_index new k ≡ 0
  pub outside : (k : ℕ) → (k < from) ⊎ (to ≤ k) → slice_index new k ≡ slice_index old k

-- The row after a level is emptied, and a value is marked in the level's own.
pub record Refutes (width : ℕ) (old new : List ℕ) (level value : ℕ) : Type 0 where
  pub each : (i t : ℕ) → t < 64 * width → marked new width i t ≡ (not (i == level + 1)
      && (marked old width i t || (i == level && t == value)))
