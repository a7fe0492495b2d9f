-- The streams of words of the workers.
use Rattle.std.specs.Prelude.{ℕ, List}
use Rattle.std.proofs.Common.{zero, suc}
use Rattle.rand_xoshiro.specs.Xoshiro256.{jump, jump_polynomial, of_seed}
use Rattle.rand_xoshiro.specs.SplitMix64.{splitmix_seed}

-- the state after so many jumps
abbrev pub jumps : ℕ → List ℕ → List ℕ
jumps zero state = state
jumps (suc n) state = jump jump_polynomial (jumps n state)

-- where the stream of a seed begins
abbrev pub seeded : ℕ → List ℕ
seeded seed = of_seed (splitmix_seed 32 seed)
