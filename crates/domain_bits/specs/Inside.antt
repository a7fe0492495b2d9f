-- How rows, sizes and trail hold the domains.
use Rattle.std.specs.Prelude.{◌≡◌, ℕ, true, ◌+◌, ◌*◌, ◌<◌, ◌≤◌, List, All, length, drop, sum, slice_index}
use Rattle.bit_rows.specs.BitRows.{has, words_for}
use Rattle.domain_bits.specs.Removals.{State, times, in_domain, size_of}

-- the pair is a vertex and a value of these domains
pub record InRange (vertices values : ℕ) (x : ℕ × ℕ) : Type 0 where
  pub vertex : x.0 < vertices
  pub value : x.1 < values

-- the row of each vertex is its domain, its size is the domain's, and no pair was removed twice
pub record Kept (d : State) (words : ℕ) (rows sizes : List ℕ) (capacity : ℕ) : Type 0 where
  pub words_are : words ≡ words_for d.values
  pub short : words ≤ 1024
  pub long : length rows ≡ d.vertices * words
  pub sized : length sizes ≡ d.vertices
  pub bits : (p t : ℕ) → p < d.vertices → t < 64 * words
      → has (drop (p * words) rows) t ≡ in_domain d p t
  pub counts : (p : ℕ) → p < d.vertices → slice_index sizes p ≡ size_of d p
  pub once : (p t : ℕ) → times d.removed p t ≤ 1
  pub range : All (InRange d.vertices d.values) d.removed
  pub all : sum sizes + length d.removed ≡ d.vertices * d.values
  pub room : d.vertices * d.values ≤ capacity

-- the value noted for each vertex is in its domain, where that has one value only
pub record Noted (d : State) (singles : List ℕ) : Type 0 where
  pub long : length singles ≡ d.vertices
  pub single : (p : ℕ) → p < d.vertices → size_of d p ≡ 1
      → in_domain d p (slice_index singles p) ≡ true

-- rows, sizes and noted values are as the trail says
pub record Held (d : State) (words : ℕ) (rows sizes singles : List ℕ) (capacity : ℕ) : Type 0 where
  pub kept : Kept d words rows sizes capacity
  pub noted : Noted d singles
