-- Nogoods with their watches.
use Rattle.std.specs.Prelude.{◌≡◌, ℕ, ◌+◌, ◌-◌, ◌*◌, ◌/◌, ◌%◌, ◌<◌, List, [], ◌∷◌, ◌++◌, length, slice_index_or}

-- literals that never all hold, and a name
pub record Nogood : Type 0 where
  pub literals : List (ℕ × ℕ)
  pub name : ℕ

-- the nogoods of two or more literals and those of one, each in the order of adding, and what was forced last. Watches 2 i and
-- 2 i + 1 are those of nogood i; in a unit and in what is forced a vertex, a value and a name stand
pub record State : Type 0 where
  pub vertices : ℕ
  pub values : ℕ
  pub nogoods : List Nogood
  pub watches : List (ℕ × ℕ)
  pub units : List (ℕ × ℕ × ℕ)
  pub forced : List (ℕ × ℕ × ℕ)

-- no nogoods
abbrev pub empty : ℕ → ℕ → State
empty vertices values = record {
  vertices = vertices;
  values = values;
  nogoods = [];
  watches = [];
  units = [];
  forced = [];
}

-- a nogood more: one literal is a unit, and of more the first two are watched
abbrev pub added : State → List (ℕ × ℕ) → ℕ → State
added s [] name = s
added s (x ∷ []) name = record s { units = s.units ++ (x.0, x.1, name) ∷ [] }
added s (x ∷ y ∷ rest) name = record s {
  nogoods = s.nogoods ++ record { literals = x ∷ y ∷ rest; name = name } ∷ [];
  watches = s.watches ++ x ∷ y ∷ [];
}

-- literal number k of a list
abbrev pub literal : List (ℕ × ℕ) → ℕ → ℕ × ℕ
literal xs k = slice_index_or xs k (0, 0)

-- the other watch of the same nogood
abbrev pub partner : ℕ → ℕ
partner x = x + 1 - 2 * (x % 2)

-- nogood number i
abbrev pub nogood : List Nogood → ℕ → Nogood
nogood nogoods i = slice_index_or nogoods i (record { literals = []; name = 0 })

-- the nogood that watch x is of
abbrev pub nogood_of : List Nogood → ℕ → Nogood
nogood_of nogoods x = nogood nogoods (x / 2)

-- each literal is a vertex and a value, and no vertex has two
pub record AreLiterals (vertices values : ℕ) (xs : List (ℕ × ℕ)) : Type 0 where
  pub vertex : (k : ℕ) → k < length xs → (literal xs k).0 < vertices
  pub value : (k : ℕ) → k < length xs → (literal xs k).1 < values
  pub apart : (j k : ℕ) → j < k → k < length xs → (literal xs j).0 ≡ (literal xs k).0 → ⊥

-- the watches of each nogood are two of its literals
pub record AreWatches (nogoods : List Nogood) (watches : List (ℕ × ℕ)) : Type 0 where
  pub two : length watches ≡ 2 * length nogoods
  pub of : (x : ℕ) → x < length watches → (k : ℕ) × (k < length (nogood_of nogoods x).literals)
      × (literal (nogood_of nogoods x).literals k ≡ literal watches x)
  pub apart : (x : ℕ) → x < length watches
      → (literal watches x).0 ≡ (literal watches (partner x)).0 → ⊥
