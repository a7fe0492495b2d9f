-- Neighbours that would have too few values: what a look at a vertex and a value of it gathers.

use Rattle.std.specs.Prelude.{◌≡◌, ℕ, ◌*◌, ◌<◌, ◌≤◌, true, length, List}
use Rattle.graph_theory.specs.Neighbours.{count}
use Rattle.bit_rows.specs.BitRows.{has, words_for}
use Rattle.domain_bits.specs.Removals.{State, in_domain}

-- There is a row of vertices, with a count for each, and one of values, and t is a value.
pub record LooksAt (d : State) (t : ℕ) (near images counts : List ℕ) : Type 0 where
  pub short : length near ≤ 1024
  pub near_in : (r : ℕ) → has near r ≡ true → r < d.vertices
  pub counts_long : length counts ≡ d.vertices
  pub t_in : t < d.values
  pub images_long : length images ≡ words_for d.values

-- These are rows of values, of vertices and of values again.
pub record AreRowsOf (d : State) (row chosen union : List ℕ) : Type 0 where
  pub row_long : length row ≡ words_for d.values
  pub chosen_long : length chosen ≡ words_for d.vertices
  pub union_long : length union ≡ words_for d.values

-- The chosen vertices are near p, and others than p; what is left for them among the images, t itself aside, is in the union, which has nothing but images.
pub record Gathers (d : State) (p t : ℕ) (near images chosen union : List ℕ) : Type 0 where
  pub near_all : (r : ℕ) → has chosen r ≡ true → has near r ≡ true
  pub apart : (r : ℕ) → has chosen r ≡ true → p ≡ r → ⊥
  pub images_all : (u : ℕ) → has union u ≡ true → has images u ≡ true
  pub within : (r u : ℕ) → has chosen r ≡ true → in_domain d r u ≡ true → (t ≡ u → ⊥)
      → has images u ≡ true → has union u ≡ true

-- The second row has fewer members than the first.
abbrev pub IsShort : List ℕ → List ℕ → Type 0
IsShort chosen union = count (has union) (64 * length union) < count (has chosen) (64
    * length chosen)
