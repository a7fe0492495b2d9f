-- The first n domains by size and number, and what their union tells.
use Rattle.std.specs.Prelude.{◌≡◌, ℕ, ◌<◌, ◌≤◌, Bool, true, false, nat_lt, ◌&&◌, ◌||◌}
use Rattle.std.proofs.Common.{zero, suc}
use Rattle.graph_theory.specs.Neighbours.{count}
use Rattle.domain_bits.specs.Removals.{State, in_domain, size_of}
use Rattle.all_different.specs.Ranks.{rank}

-- whether some number below n passes
abbrev pub any : (ℕ → Bool) → ℕ → Bool
any f zero = false
any f (suc n) = f n || any f n

-- whether p is one of the first n vertices, by rising size of their domains and then by number
abbrev pub in_prefix : State → ℕ → ℕ → Bool
in_prefix d n p = nat_lt p d.vertices && nat_lt (rank (size_of d) d.vertices p) n

-- whether t is in one of the first n domains
abbrev pub in_union : State → ℕ → ℕ → Bool
in_union d n t = any (λ p. in_prefix d n p && in_domain d p t) d.vertices

-- how many values the first n domains have together
abbrev pub union_size : State → ℕ → ℕ
union_size d n = count (in_union d n) d.values

-- the first n domains have fewer than n values
pub record Short (d : State) (n : ℕ) : Type 0 where
  pub within : n ≤ d.vertices
  pub few : union_size d n < n

-- the first n domains have n values, and one of these is in a later domain
pub record Tight (d : State) (n : ℕ) : Type 0 where
  pub within : n ≤ d.vertices
  pub full : union_size d n ≡ n
  pub vertex : ℕ
  pub value : ℕ
  pub vertex_in : vertex < d.vertices
  pub later : in_prefix d n vertex ≡ false
  pub shared : in_union d n value ≡ true
  pub met : in_domain d vertex value ≡ true

-- the least number of which it holds
pub record First (P : ℕ → Type 0) (n : ℕ) : Type 0 where
  pub here : P n
  pub none_before : (m : ℕ) → m < n → P m → ⊥

-- no number of first domains has too few values, or just enough and one of them elsewhere
pub record Balanced (d : State) : Type 0 where
  pub not_short : (n : ℕ) → Short d n → ⊥
  pub not_tight : (n : ℕ) → Tight d n → ⊥
