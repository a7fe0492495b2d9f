-- What constraints and sums of short terms keep of them.
use Rattle.std.specs.Prelude.{◌≡◌, ℕ, ◌<◌, ◌^◌, ℤ, List, unsigned_abs}
use Rattle.proof_theory.specs.Forms.{Rises, size}

-- The bound and the sum of the absolute coefficients, which is this weight, are below 2^31 in size.
pub record IsWeighed (terms : List (ℕ × ℤ)) (bound : ℤ) (weight : ℕ) : Type 0 where
  pub weighed : weight ≡ size terms
  pub light : size terms < 2 ^ 31
  pub small : unsigned_abs bound < 2 ^ 31

-- The terms rise, and they and their bound are light.
pub record IsLight (terms : List (ℕ × ℤ)) (bound : ℤ) (weight : ℕ) : Type 0 where
  pub rises : Rises 0 terms
  pub weighed : IsWeighed terms bound weight
