-- How two lists hold a set.
use Rattle.std.specs.Prelude.{◌≡◌, ℕ, ◌<◌, ◌≤◌, List, length, slice_index, take}
use Rattle.sparse_set.specs.Removals.{State}

-- `items` has each number below its length once, `places` says where, and the removed ones stand in front
pub record Held (items places : List ℕ) (gone : ℕ) : Type 0 where
  pub long : length places ≡ length items
  pub within : gone ≤ length items
  pub item : (k : ℕ) → k < length items → slice_index items k < length items
  pub place : (p : ℕ) → p < length items → slice_index places p < length items
  pub place_of_item : (k : ℕ) → k < length items → slice_index places (slice_index items k) ≡ k
  pub item_at_place : (p : ℕ) → p < length items → slice_index items (slice_index places p) ≡ p

-- the set that they hold
abbrev pub state : List ℕ → ℕ → State
state items gone = record { count = length items; removed = take gone items }
