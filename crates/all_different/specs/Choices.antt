-- Injective choices of one value from each domain.
use Rattle.std.specs.Prelude.{◌≡◌, ℕ, ◌<◌, true, List, ◌++◌}
use Rattle.domain_bits.specs.Removals.{State, in_domain}

-- m chooses a value from each domain, and no value twice
pub record Chooses (d : State) (m : ℕ → ℕ) : Type 0 where
  pub inside : (p : ℕ) → p < d.vertices → in_domain d p (m p) ≡ true
  pub distinct : (p q : ℕ) → p < d.vertices → q < d.vertices → m p ≡ m q → p ≡ q

-- the domains are the old ones with fewer values, and lose no injective choice
pub record LosesNoChoice (old new : State) : Type 0 where
  pub vertices_same : new.vertices ≡ old.vertices
  pub values_same : new.values ≡ old.values
  pub rest : List (ℕ × ℕ)
  pub front : new.removed ≡ old.removed ++ rest
  pub less : (p t : ℕ) → in_domain new p t ≡ true → in_domain old p t ≡ true
  pub keeps : (m : ℕ → ℕ) → Chooses old m → Chooses new m
