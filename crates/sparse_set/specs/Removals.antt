-- Sets of numbers that lose their members one by one, seen as all numbers below a count without those that were removed.
use Rattle.std.specs.Prelude.{ℕ, ◌==◌, nat_lt, Bool, false, ◌&&◌, ◌||◌, not, List, [], ◌∷◌, ◌++◌, take}

-- all numbers below `count`, without those that were removed, in their order
pub record State : Type 0 where
  pub count : ℕ
  pub removed : List ℕ

-- whether p stands in the list
abbrev pub among : List ℕ → ℕ → Bool
among [] p = false
among (x ∷ xs) p = (x == p) || among xs p

-- whether p is a member
abbrev pub has : State → ℕ → Bool
has s p = nat_lt p s.count && not (among s.removed p)

-- every number below n is a member
abbrev pub whole : ℕ → State
whole n = record { count = n; removed = [] }

-- p leaves the set
abbrev pub without : State → ℕ → State
without s p = record s { removed = s.removed ++ p ∷ [] }

-- only the first `mark` removals have taken place
abbrev pub undone : State → ℕ → State
undone s mark = record s { removed = take mark s.removed }
