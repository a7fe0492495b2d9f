-- Removed values in runs, each of one vertex and one word.
use Rattle.std.specs.Prelude.{◌≡◌, ℕ, ◌^◌, ◌<◌, List, [], ◌∷◌, ◌++◌, All, length}
use Rattle.domain_bits.specs.declared.trail.Run.{Run}
use Rattle.bit_rows.specs.BitRows.{word_values}
use Rattle.domain_bits.specs.Removals.{at_vertex}

-- the pairs that runs list, in order
abbrev pub pairs_of : List Run → List (ℕ × ℕ)
pairs_of [] = []
pairs_of (r ∷ rs) = at_vertex r.vertex (word_values r.place r.word) ++ pairs_of rs

-- the pairs that a trail of runs lists, and for how many runs it has room
pub record Runs : Type 0 where
  pub listed : List (ℕ × ℕ)
  pub room : ℕ

-- a run of a word that has values
pub record IsRun (r : Run) : Type 0 where
  pub some : 0 < r.word
  pub small : r.word < 2 ^ 64

-- runs that list so many pairs
pub record AreRuns (runs : List Run) (pairs : ℕ) : Type 0 where
  pub each : All IsRun runs
  pub counted : pairs ≡ length (pairs_of runs)
