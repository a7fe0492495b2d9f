-- How rows are held: blocks of rows, of which each belongs to one target vertex.

use Rattle.std.specs.Prelude.{◌≡◌, ℕ, ◌+◌, ◌*◌, ◌<◌, ◌≤◌, ◌==◌, Bool, true, false, ◌⊎◌, List, Some, [], ◌∷◌, ◌++◌, length, drop, slice_get, slice_index}
use Rattle.graph_theory.specs.Graph.{size, tabulate}
use Rattle.graph_theory.specs.Embedding.{Problem}
use Rattle.bit_rows.specs.BitRows.{words_for}
use Rattle.pair_supports.specs.declared.kinds.PairKind.{PairKind}
use Rattle.pair_supports.specs.Kinds.{kind_of, AreKinds, HasRow}

-- The block of t is its own.
abbrev pub owns : List ℕ → List ℕ → ℕ → Bool
owns block_of owners t = slice_index owners (slice_index block_of t) == t

-- For each target vertex whether its block is its own.
abbrev pub made_in : List ℕ → List ℕ → List Bool
made_in block_of owners = tabulate (length block_of) (owns block_of owners)

-- A block has been added that nobody owns, or none; there may be more words, and the others are as they were.
pub record IsAdded (owners pool owners' pool' : List ℕ) : Type 0 where
  pub owners_are : (owners' ≡ owners) ⊎ (owners' ≡ owners ++ 65535 ∷ [])
  pub words : List ℕ
  pub pool_is : pool' ≡ pool ++ words

-- The rows of a problem: where the block of t is its own, it has the row of each kind at t.
pub record Held (q : Problem) (vertices width : ℕ) (kinds : List PairKind) (places : List ℕ)
    (most : ℕ) (block_of owners : List ℕ) (counts in_counts pool : List ℕ)
    (both_ways : Bool) : Type 0 where
  pub few_pattern : size q.pattern ≤ 1024
  pub few_target : size q.target ≤ 8192
  pub vertices_are : vertices ≡ size q.pattern
  pub width_is : width ≡ words_for (size q.target)
  pub classed : AreKinds q kinds places (size q.pattern * size q.pattern)
  pub counts_are : length counts ≡ size q.target
  pub in_counts_are : both_ways ≡ false → length in_counts ≡ size q.target
  pub block_of_are : length block_of ≡ size q.target
  pub owners_few : length owners ≤ most
  pub most_few : most ≤ size q.target
  pub owners_some : 0 < size q.target → 0 < length owners
  pub blocks_in : (t : ℕ) → t < size q.target → slice_index block_of t < length owners
  pub pool_is : length owners * (length kinds * width) ≤ length pool
  pub rows : (t i : ℕ) → t < size q.target → owns block_of owners t ≡ true
      → HasRow q kinds width t i (drop ((slice_index block_of t * length kinds + i) * width) pool)

-- The place of the kind of p and each other vertex, and a block that has the row of each kind at t.
pub record HeldAt (q : Problem) (width : ℕ) (kinds : List PairKind) (p t : ℕ)
    (own block : List ℕ) : Type 0 where
  pub value_in : t < size q.target
  pub width_is : width ≡ words_for (size q.target)
  pub own_long : length own ≡ size q.pattern
  pub each : (r : ℕ) → r < size q.pattern → (p ≡ r → ⊥)
      → slice_get kinds (slice_index own r) ≡ Some (kind_of q p r)
  pub block_long : length block ≡ length kinds * width
  pub rows : (i : ℕ) → HasRow q kinds width t i (drop (i * width) block)
