-- Neighbours of a vertex: how many there are, how many two vertices share, and the degrees of a vertex's neighbours.
-- (These counts bound what an embedding can do: Zampelli, Deville, Solnon 2010; McCreesh, Prosser 2015.)

use Rattle.std.specs.Prelude.{◌≡◌, ℕ, ◌+◌, ◌<◌, ◌==◌, nat_lt, Bool, true, false, ◌&&◌, ◌||◌, not, is_some, if◌then◌else◌, List, [], ◌∷◌, ◌++◌, length, map, zero, suc, slice_index}
use Rattle.graph_theory.specs.Graph.{Graph, size, edge}

-- How many of the numbers below n pass the test.
abbrev pub count : (ℕ → Bool) → ℕ → ℕ
count f zero = 0
count f (suc n) = (if f n then 1 else 0) + count f n

-- The numbers below n that pass the test, rising.
abbrev pub members : (ℕ → Bool) → ℕ → List ℕ
members f zero = []
members f (suc n) = members f n ++ (if f n then n ∷ [] else [])

-- Vertex b is a neighbour of a where it is another vertex and an edge leads from a to b.
abbrev pub is_neighbour : Graph → ℕ → ℕ → Bool
is_neighbour g a b = not (a == b) && is_some (edge g a b)

-- The number of neighbours.
abbrev pub degree : Graph → ℕ → ℕ
degree g a = count (is_neighbour g a) (size g)

-- Vertex b is an in-neighbour of a where it is another vertex and an edge leads from b to a.
abbrev pub is_in_neighbour : Graph → ℕ → ℕ → Bool
is_in_neighbour g a b = not (a == b) && is_some (edge g b a)

-- The number of in-neighbours.
abbrev pub in_degree : Graph → ℕ → ℕ
in_degree g a = count (is_in_neighbour g a) (size g)

-- Vertex b is near a where it is another vertex and an edge stands between the two, in either direction.
abbrev pub is_near : Graph → ℕ → ℕ → Bool
is_near g a b = not (a == b) && (is_some (edge g a b) || is_some (edge g b a))

-- The number of vertices that are neighbours of both.
abbrev pub common : Graph → ℕ → ℕ → ℕ
common g a b = count (λ c. is_neighbour g a c && is_neighbour g b c) (size g)

-- A falling list with one number more.
abbrev pub into_falling : ℕ → List ℕ → List ℕ
into_falling d [] = d ∷ []
into_falling d (e ∷ es) = if nat_lt d e then e ∷ into_falling d es else d ∷ e ∷ es

-- The numbers in falling order.
abbrev pub falling : List ℕ → List ℕ
falling [] = []
falling (d ∷ ds) = into_falling d (falling ds)

-- The degrees of a vertex's neighbours in falling order.
abbrev pub sequence : Graph → ℕ → List ℕ
sequence g a = falling (map (degree g) (members (is_neighbour g a) (size g)))

-- At place i the second sequence has ended, or is less than the first.
abbrev pub fails_at : List ℕ → List ℕ → ℕ → Bool
fails_at ps ts i = nat_lt i (length ps) && not (nat_lt i (length ts)
    && not (nat_lt (slice_index ts i) (slice_index ps i)))

-- The second sequence goes on at least as long as the first, and is nowhere less.
abbrev pub IsKeptBy : List ℕ → List ℕ → Type 0
IsKeptBy ps ts = (i : ℕ) → fails_at ps ts i ≡ false

-- Place i is the first at which it is not.
pub record FailsFirstAt (ps ts : List ℕ) (i : ℕ) : Type 0 where
  pub here : fails_at ps ts i ≡ true
  pub before : (j : ℕ) → j < i → fails_at ps ts j ≡ false
