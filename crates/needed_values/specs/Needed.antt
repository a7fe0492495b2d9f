-- Needed values: a mark for each vertex, and a row of values behind another.

use Rattle.std.specs.Prelude.{◌≡◌, ℕ, ◌*◌, ◌<◌, ◌≤◌, Bool, true, false, ◌&&◌, List, length, get_or, drop}
use Rattle.bit_rows.specs.BitRows.{has, words_for}

-- Of so many values, value u of vertex r is needed: r is marked, and its row has u.
abbrev pub needs : ℕ → List Bool → List ℕ → ℕ → ℕ → Bool
needs values marked rows r u = get_or marked r false && has (drop (r * words_for values) rows) u

-- There is a row for each vertex, with room for all values.
pub record AreRows (values : ℕ) (marked : List Bool) (rows : List ℕ) : Type 0 where
  pub few : values ≤ 8192
  pub vertices : length marked ≤ 1024
  pub long : length rows ≡ length marked * words_for values

-- What was needed still is.
abbrev pub StaysNeeded : ℕ → (ℕ → ℕ → Bool) → (ℕ → ℕ → Bool) → Type 0
StaysNeeded values old new = (r u : ℕ) → u < values → old r u ≡ true → new r u ≡ true

-- All vertices but one need what they needed.
abbrev pub AreOthers : ℕ → ℕ → (ℕ → ℕ → Bool) → (ℕ → ℕ → Bool) → Type 0
AreOthers values r old new = (s u : ℕ) → (s ≡ r → ⊥) → u < values → new s u ≡ old s u
