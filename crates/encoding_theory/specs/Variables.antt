-- The 0/1 variables of a problem, and the 0/1 list of a map.

use Rattle.std.specs.Prelude.{ℕ, zero, suc, ◌+◌, ◌*◌, ◌==◌, Bool, if◌then◌else◌, List, [], ◌++◌, slice_index}
use Rattle.graph_theory.specs.Graph.{size, tabulate}
use Rattle.graph_theory.specs.Embedding.{Problem}

-- The variable that says that pattern vertex p goes to target vertex t.
abbrev pub variable : Problem → ℕ → ℕ → ℕ
variable q p t = p * size q.target + t + 1

-- The number of variables.
abbrev pub variables : Problem → ℕ
variables q = size q.pattern * size q.target

-- The lists f 0, f 1 and so on below n, one after another.
abbrev pub collect : {X : Type 0} → (ℕ → List X) → ℕ → List X
collect f zero = []
collect f (suc n) = collect f n ++ f n

-- The list where the test is passed, and nothing where it is not.
abbrev pub when : {X : Type 0} → Bool → List X → List X
when b xs = if b then xs else []

-- The places of one pattern vertex: one for each target vertex, true at the image alone.
abbrev pub image_row : Problem → List ℕ → ℕ → List Bool
image_row q m p = tabulate (size q.target) (λ t. slice_index m p == t)

-- The 0/1 list of a map: the places of each pattern vertex, one vertex after another.
abbrev pub indicator : Problem → List ℕ → List Bool
indicator q m = collect (image_row q m) (size q.pattern)
