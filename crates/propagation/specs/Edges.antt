-- Edges between vertices that are not decided: which values have support.

use Rattle.std.specs.Prelude.{◌≡◌, ℕ, ◌<◌, true, is_some, List, Some}
use Rattle.graph_theory.specs.Graph.{Graph, size, edge}
use Rattle.graph_theory.specs.Embedding.{Problem}
use Rattle.graph_theory.specs.Reversed.{turned}
use Rattle.graph_theory.specs.declared.direction.Direction.{Direction}
use Rattle.bit_rows.specs.BitRows.{has, words_for}
use Rattle.domain_bits.specs.Removals.{State, in_domain}
use Rattle.recorder.specs.Telling.{IsUnsupported}

-- The row has each value to which an edge leads, in the direction, from a value below n that is left for p.
abbrev pub UnitesBefore : Graph → State → Direction → ℕ → List ℕ → ℕ → Type 0
UnitesBefore target d direction p row n = (w u : ℕ) → w < n → in_domain d p w ≡ true
    → is_some (edge (turned direction target) w u) ≡ true → has row u ≡ true

-- From any value that is left for p: so whatever the row has not is without support.
abbrev pub Unites : Graph → State → Direction → ℕ → List ℕ → Type 0
Unites target d direction p row = (w u : ℕ) → in_domain d p w ≡ true
    → is_some (edge (turned direction target) w u) ≡ true → has row u ≡ true

-- No value of the row has support.
abbrev pub AreUnsupported : Problem → State → Direction → ℕ → ℕ → List ℕ → Type 0
AreUnsupported q d direction p r row = (u : ℕ) → has row u ≡ true
    → IsUnsupported q d direction p r u

-- ---- with labels

-- No value below n that is left for p has an edge with this label to u.
abbrev pub LacksBefore : Graph → State → Direction → ℕ → ℕ → ℕ → ℕ → Type 0
LacksBefore target d direction p u label n = (w : ℕ) → w < n → in_domain d p w ≡ true
    → edge (turned direction target) w u ≡ Some label → ⊥

-- No value that is left for p has one.
abbrev pub LacksSupport : Graph → State → Direction → ℕ → ℕ → ℕ → Type 0
LacksSupport target d direction p u label = (w : ℕ) → in_domain d p w ≡ true
    → edge (turned direction target) w u ≡ Some label → ⊥

-- ---- memory

-- How many vertices, and how many words of a row, there is room for.
pub record RoomSize : Type 0 where
  pub vertices : ℕ
  pub words : ℕ

-- It is made for the problem.
pub record IsRoomFor (q : Problem) (room : RoomSize) : Type 0 where
  pub vertices_is : room.vertices ≡ size q.pattern
  pub words_is : room.words ≡ words_for (size q.target)
