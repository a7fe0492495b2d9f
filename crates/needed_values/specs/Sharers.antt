-- Rows of the values that share enough neighbours with a value.

use Rattle.std.specs.Prelude.{◌≡◌, ℕ, ◌<◌, List, length, slice_index, slice_get, Some}
use Rattle.graph_theory.specs.Graph.{Graph, size}
use Rattle.graph_theory.specs.Neighbours.{common}
use Rattle.bit_rows.specs.BitRows.{has, words_for}
use Rattle.common_neighbour.specs.Sharing.{shares}
use Rattle.needed_values.specs.declared.sharers.SharerRow.{SharerRow}
use Rattle.needed_values.specs.declared.sharers.SharedCount.{SharedCount}

-- How many neighbours t shares with each other value.
pub record AreCounts (g : Graph) (t : ℕ) (counts : List ℕ) : Type 0 where
  pub long : length counts ≡ size g
  pub exact : (u : ℕ) → u < size g → (t ≡ u → ⊥) → slice_index counts u ≡ common g t u

-- A row has exactly the other values that share at least so many neighbours with its own.
pub record IsSharerRow (g : Graph) (row : SharerRow) : Type 0 where
  pub long : length row.words.items ≡ words_for (size g)
  pub bits : (u : ℕ) → has row.words.items u ≡ shares g row.t row.least u

-- So it is with each of these.
abbrev pub AreSharers : Graph → List SharerRow → Type 0
AreSharers g rows = (k : ℕ) (row : SharerRow) → slice_get rows k ≡ Some row → IsSharerRow g row

-- A count is that of its two vertices, where they are two.
abbrev pub IsSharedCount : Graph → SharedCount → Type 0
IsSharedCount g c = (c.p ≡ c.r → ⊥) → c.count ≡ common g c.p c.r

-- So it is with each of these.
abbrev pub AreSharedCounts : Graph → List SharedCount → Type 0
AreSharedCounts g counts = (k : ℕ) (c : SharedCount) → slice_get counts k ≡ Some c
    → IsSharedCount g c
