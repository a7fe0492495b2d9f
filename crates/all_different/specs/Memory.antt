-- The working memory as its users see it.
use Rattle.std.specs.Prelude.{◌≡◌, ℕ, ◌+◌, ◌≤◌, List, length, take}
use Rattle.bit_rows.specs.BitRows.{words_for}

-- for which sizes it is, and the set that was found with the union of its domains
pub record Memory : Type 0 where
  pub vertices : ℕ
  pub values : ℕ
  pub set : List ℕ
  pub union : List ℕ

-- the set is a front of the order
abbrev pub memory : ℕ → ℕ → ℕ → List ℕ → List ℕ → Memory
memory vertices values found order union = record {
  vertices = vertices;
  values = values;
  set =
      take found order;
  union = union;
}

-- all parts have their lengths
pub record Holds (vertices values found : ℕ) (starts order union keep : List ℕ) : Type 0 where
  pub starts_long : length starts ≡ vertices + 1
  pub order_long : length order ≡ vertices
  pub union_long : length union ≡ words_for values
  pub keep_long : length keep ≡ words_for values
  pub found_in : found ≤ vertices
