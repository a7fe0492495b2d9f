-- Rows of the target vertices whose sequences keep those of pattern vertices.

use Rattle.std.specs.Prelude.{◌≡◌, ℕ, ◌<◌, ◌≤◌, true, List, [], length, slice_index, slice_index_or}
use Rattle.graph_theory.specs.Graph.{size}
use Rattle.graph_theory.specs.Embedding.{Problem}
use Rattle.graph_theory.specs.Neighbours.{degree, sequence, IsKeptBy}
use Rattle.bit_rows.specs.BitRows.{has, words_for}

-- The row holds the target vertices whose sequence keeps that of p; these have as many neighbours, at least.
pub record KeptRow (q : Problem) (p : ℕ) (row : List ℕ) : Type 0 where
  pub long : length row ≡ words_for (size q.target)
  pub within : (t : ℕ) → has row t ≡ true → t < size q.target
  pub right : (t : ℕ) → has row t ≡ true → IsKeptBy (sequence q.pattern p) (sequence q.target t)
  pub degrees : (t : ℕ) → has row t ≡ true → degree q.pattern p ≤ degree q.target t
  pub complete : (t : ℕ) → t < size q.target
      → IsKeptBy (sequence q.pattern p) (sequence q.target t) → has row t ≡ true

-- Row k of the rows.
abbrev pub row_at : List (List ℕ) → ℕ → List ℕ
row_at rows k = slice_index_or rows k []

-- Each class has the row of its first vertex.
pub record AreFirsts (q : Problem) (firsts : List ℕ) (rows : List (List ℕ)) : Type 0 where
  pub long : length firsts ≡ length rows
  pub inside : (k : ℕ) → k < length firsts → slice_index firsts k < size q.pattern
  pub each : (k : ℕ) → k < length firsts → KeptRow q (slice_index firsts k) (row_at rows k)

-- Rows stand where they stood.
pub record RowsStay (old new : List (List ℕ)) : Type 0 where
  pub longer : length old ≤ length new
  pub each : (k : ℕ) → k < length old → row_at new k ≡ row_at old k

-- The row of its class belongs to each of the first n pattern vertices.
pub record AreKept (q : Problem) (classes : List ℕ) (rows : List (List ℕ)) (n : ℕ) : Type 0 where
  pub long : length classes ≡ n
  pub inside : (p : ℕ) → p < n → slice_index classes p < length rows
  pub each : (p : ℕ) → p < n → KeptRow q p (row_at rows (slice_index classes p))
