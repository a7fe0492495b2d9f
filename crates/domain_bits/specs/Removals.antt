-- Domains, seen as the full ones without what was removed from them.
use Rattle.std.specs.Prelude.{ℕ, ◌+◌, ◌==◌, nat_lt, Bool, ◌&&◌, not, cond, List, [], ◌∷◌, ◌++◌, map, take}
use Rattle.graph_theory.specs.Neighbours.{count, members}
use Rattle.bit_rows.specs.BitRows.{has}

-- a domain for each vertex: all values below `values`, without the pairs that were removed, in their order
pub record State : Type 0 where
  pub vertices : ℕ
  pub values : ℕ
  pub removed : List (ℕ × ℕ)

-- how often t was removed from the domain of p
abbrev pub times : List (ℕ × ℕ) → ℕ → ℕ → ℕ
times [] p t = 0
times (x ∷ xs) p t = cond ((x.0 == p) && (x.1 == t)) 1 0 + times xs p t

-- whether t is in the domain of p
abbrev pub in_domain : State → ℕ → ℕ → Bool
in_domain d p t = nat_lt t d.values && (times d.removed p t == 0)

-- how many values the domain of p has
abbrev pub size_of : State → ℕ → ℕ
size_of d p = count (in_domain d p) d.values

-- every domain has every value
abbrev pub full : ℕ → ℕ → State
full vertices values = record { vertices = vertices; values = values; removed = [] }

-- each of these values with the vertex p
abbrev pub at_vertex : ℕ → List ℕ → List (ℕ × ℕ)
at_vertex p us = map (λ u. (p, u)) us

-- these values leave the domain of p, in this order
abbrev pub without_all : State → ℕ → List ℕ → State
without_all d p us = record d { removed = d.removed ++ at_vertex p us }

-- t leaves the domain of p
abbrev pub without : State → ℕ → ℕ → State
without d p t = without_all d p (t ∷ [])

-- the values that fail the test leave the domain of p, rising
abbrev pub filtered : State → ℕ → (ℕ → Bool) → State
filtered d p keeps = without_all d p (members (λ u. in_domain d p u && not (keeps u)) d.values)

-- all values but t leave the domain of p, rising
abbrev pub assigned : State → ℕ → ℕ → State
assigned d p t = filtered d p (λ u. u == t)

-- the values that are not in the row leave the domain of p, rising
abbrev pub intersected : State → ℕ → List ℕ → State
intersected d p row = filtered d p (has row)

-- only the first `mark` removals have taken place
abbrev pub undone : State → ℕ → State
undone d mark = record d { removed = take mark d.removed }
