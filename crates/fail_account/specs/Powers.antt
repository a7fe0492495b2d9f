-- Powers of two.

use Rattle.std.specs.Prelude.{◌≡◌, ℕ, ◌*◌, ◌^◌, ◌<◌, ◌≤◌}

-- The greatest power of two that is not above i.
pub record IsPowerWithin (power i : ℕ) : Type 0 where
  pub exponent : ℕ
  pub is : power ≡ 2 ^ exponent
  pub within : power ≤ i
  pub above : i < 2 * power
