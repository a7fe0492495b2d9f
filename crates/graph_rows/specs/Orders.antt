-- The pairs of pattern vertices whose images a problem may ask to be in order.

use Rattle.std.specs.Prelude.{◌≡◌, ℕ, ◌<◌, ◌≤◌, List, length, Some, slice_get}

-- They are 64 at most, each of two of the n vertices that are not one.
pub record IsOrder (n : ℕ) (pairs : List (ℕ × ℕ)) : Type 0 where
  pub few : length pairs ≤ 64
  pub first : (k : ℕ) (x : ℕ × ℕ) → slice_get pairs k ≡ Some x → x.0 < n
  pub second : (k : ℕ) (x : ℕ × ℕ) → slice_get pairs k ≡ Some x → x.1 < n
  pub two : (k : ℕ) (x : ℕ × ℕ) → slice_get pairs k ≡ Some x → x.0 ≡ x.1 → ⊥
