-- What a sum of constraints keeps of its terms as they stand.
use Rattle.std.specs.Prelude.{◌≡◌, ℕ, ℤ, List}
use Rattle.proof_theory.specs.Forms.{IsNarrow, size}

-- The terms as they stand are narrow, and this is the sum of their absolute coefficients.
pub record IsWeighed (terms : List (ℕ × ℤ)) (bound : ℤ) (weight : ℕ) : Type 0 where
  pub narrow : IsNarrow terms bound
  pub weighed : weight ≡ size terms
