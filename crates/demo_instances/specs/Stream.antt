-- The words of a seed, from which both problems are made.

use Rattle.std.specs.Prelude.{◌≡◌, ℕ, zero, suc, ◌<◌, List, length, slice_index}
use Rattle.rand_xoshiro.specs.Xoshiro256.{of_seed, plus_plus}
use Rattle.rand_xoshiro.specs.SplitMix64.{splitmix_seed}

-- The state of the generator xoshiro256++ of this seed, after n words.
unfoldable pub state : ℕ → ℕ → List ℕ
state seed zero = of_seed (splitmix_seed 32 seed)
state seed (suc n) = (plus_plus (state seed n)).1

-- Word n of the seed, counted from 0.
unfoldable pub word : ℕ → ℕ → ℕ
word seed n = (plus_plus (state seed n)).0

-- These are the first words of the seed, as many as both problems take.
pub record AreWords (seed : ℕ) (words : List ℕ) : Type 0 where
  pub many : length words ≡ 12085
  pub each : (n : ℕ) → n < 12085 → slice_index words n ≡ word seed n
