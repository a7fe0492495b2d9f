-- The value that a word chooses among the members of a row, by weights that double with each degree.
use Rattle.std.specs.Prelude.{◌≡◌, ℕ, ◌+◌, ◌-◌, ◌*◌, ◌%◌, ◌^◌, ◌<◌, ◌≤◌, Bool, true, cond, List, length, slice_index}
use Rattle.std.proofs.Common.{zero, suc, max}
use Rattle.bit_rows.specs.BitRows.{has}

-- the greatest degree among the numbers below n that pass
abbrev pub greatest : (ℕ → Bool) → (ℕ → ℕ) → ℕ → ℕ
greatest f degree zero = 0
greatest f degree (suc n) = max (greatest f degree n) (cond (f n) (degree n) 0)

-- the weights of the numbers below n that pass, together
abbrev pub total : (ℕ → Bool) → (ℕ → ℕ) → ℕ → ℕ
total f weight zero = 0
total f weight (suc n) = total f weight n + cond (f n) (weight n) 0

-- the weight of a degree: halved for each degree below the greatest one, down to one
abbrev pub weight : ℕ → ℕ → ℕ
weight top degree = 2 ^ (40 - (top - degree))

-- the greatest degree of a member of the row
abbrev pub top_degree : List ℕ → List ℕ → ℕ
top_degree row degrees = greatest (has row) (slice_index degrees) (64 * length row)

-- the weight of v among the members of the row
abbrev pub weight_of : List ℕ → List ℕ → ℕ → ℕ
weight_of row degrees v = weight (top_degree row degrees) (slice_index degrees v)

-- the weights of the members below v
abbrev pub below : List ℕ → List ℕ → ℕ → ℕ
below row degrees v = total (has row) (weight_of row degrees) v

-- the weights of all members
abbrev pub total_weight : List ℕ → List ℕ → ℕ
total_weight row degrees = below row degrees (64 * length row)

-- v is the member at which the running sum of weights passes the word modulo the total
pub record Bias (row degrees : List ℕ) (word v : ℕ) : Type 0 where
  pub member : has row v ≡ true
  pub from : below row degrees v ≤ word % total_weight row degrees
  pub upto : word % total_weight row degrees < below row degrees v + weight_of row degrees v

-- a word chooses one member, and the total of a row of 8,192 values is at most 2^53
pub record BiasLaws : Type 0 where
  pub one : (row degrees : List ℕ) (word v u : ℕ) → Bias row degrees word v
      → Bias row degrees word u → v ≡ u
  pub small : (row degrees : List ℕ) → 64 * length row ≤ 8192 → total_weight row degrees ≤ 2 ^ 53
