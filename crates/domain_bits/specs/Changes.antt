-- What a call changes, in terms of membership.
use Rattle.std.specs.Prelude.{◌≡◌, ℕ, Bool, true, ◌&&◌, List, ◌++◌}
use Rattle.domain_bits.specs.Removals.{State, in_domain}

-- t is all of the domain of p
pub record Single (d : State) (p t : ℕ) : Type 0 where
  pub here : in_domain d p t ≡ true
  pub only : (u : ℕ) → in_domain d p u ≡ true → u ≡ t

-- the domain of p has no value
abbrev pub IsEmptyDomain : State → ℕ → Type 0
IsEmptyDomain d p = (t : ℕ) → in_domain d p t ≡ true → ⊥

-- values may have left the domain of p, and no other domain has changed
pub record Shrinks (old new : State) (p : ℕ) : Type 0 where
  pub vertices_same : new.vertices ≡ old.vertices
  pub values_same : new.values ≡ old.values
  pub rest : List (ℕ × ℕ)
  pub front : new.removed ≡ old.removed ++ rest
  pub others : (q t : ℕ) → (q ≡ p → ⊥) → in_domain new q t ≡ in_domain old q t
  pub less : (q t : ℕ) → in_domain new q t ≡ true → in_domain old q t ≡ true

-- the domain of p keeps the values that pass, and no other domain has changed
pub record Keeps (old new : State) (p : ℕ) (keeps : ℕ → Bool) : Type 0 where
  pub shrinks : Shrinks old new p
  pub kept : (t : ℕ) → in_domain new p t ≡ (in_domain old p t && keeps t)

-- values may have come back, and none has left
pub record Grows (old new : State) : Type 0 where
  pub vertices_same : new.vertices ≡ old.vertices
  pub values_same : new.values ≡ old.values
  pub rest : List (ℕ × ℕ)
  pub front : old.removed ≡ new.removed ++ rest
  pub more : (q t : ℕ) → in_domain old q t ≡ true → in_domain new q t ≡ true
