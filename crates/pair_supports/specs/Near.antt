-- Lists of the neighbours of target vertices.

use Rattle.std.specs.Prelude.{◌≡◌, ℕ, ◌*◌, ◌<◌, nat_lt, Bool, true, ◌&&◌, List, [], length, slice_index_or}
use Rattle.graph_theory.specs.Graph.{size}
use Rattle.graph_theory.specs.Embedding.{Problem}
use Rattle.graph_theory.specs.Neighbours.{degree, is_neighbour}
use Rattle.bit_rows.specs.BitRows.{words_for}
use Rattle.graph_rows.specs.Held.{stands_in}

-- The neighbours of t are listed: the copy is to be an induced one, and they are less than twice the words of a row.
abbrev pub is_listed : Problem → ℕ → Bool
is_listed q t = q.induced && nat_lt (degree q.target t) (2 * words_for (size q.target))

-- Each of the first n target vertices has a list, of its neighbours where they are listed.
pub record AreNear (q : Problem) (lists : List (List ℕ)) (n : ℕ) : Type 0 where
  pub long : length lists ≡ n
  pub each : (t : ℕ) → t < n → is_listed q t ≡ true → (u : ℕ)
      → stands_in (slice_index_or lists t []) u ≡ is_neighbour q.target t u
