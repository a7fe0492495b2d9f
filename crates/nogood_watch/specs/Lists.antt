-- Lists of numbers by index: the head of each list, and for each number the next one.
use Rattle.std.specs.Prelude.{◌≡◌, ℕ, ◌+◌, ◌<◌, ◌≤◌, ◌==◌, ◌&&◌, nat_lt, cond, List, [], ◌∷◌, length, slice_index}
use Rattle.std.proofs.Common.{zero, suc}

-- what stands where a list ends
abbrev pub no_watch : ℕ
no_watch = 4294967295

-- how often x stands in a list
abbrev pub times : List ℕ → ℕ → ℕ
times [] x = 0
times (y ∷ ys) x = cond (y == x) 1 0 + times ys x

-- the list that begins with this number
abbrev pub Chain : List ℕ → ℕ → List ℕ → Type 0
Chain next at [] = at ≡ no_watch
Chain next at (x ∷ xs) = (at ≡ x) × (x < length next) × Chain next (slice_index next x) xs

-- no number stands twice in it
abbrev pub IsOnceEach : List ℕ → Type 0
IsOnceEach l = (y : ℕ) → times l y ≤ 1

-- each number is once in the list of its home, and in no other
pub record Chained (home : ℕ → ℕ) (heads next : List ℕ) : Type 0 where
  pub few : length next ≤ no_watch
  pub lists : ℕ → List ℕ
  pub chains : (k : ℕ) → k < length heads → Chain next (slice_index heads k) (lists k)
  pub once : (k x : ℕ) → k < length heads
      → times (lists k) x ≡ cond (nat_lt x (length next) && (home x == k)) 1 0

-- x has another home
abbrev pub moved : (ℕ → ℕ) → ℕ → ℕ → ℕ → ℕ
moved home x k y = cond (y == x) k (home y)

-- all of one home have another
abbrev pub renamed : (ℕ → ℕ) → ℕ → ℕ → ℕ → ℕ
renamed home j k y = cond (home y == j) k (home y)

-- where x is left out
abbrev pub without : ℕ → List ℕ → List ℕ
without x [] = []
without x (y ∷ ys) = cond (y == x) ys (y ∷ without x ys)

-- the first so many numbers of the list that begins here
abbrev pub followed : ℕ → List ℕ → ℕ → List ℕ
followed zero next at = []
followed (suc n) next at = cond (nat_lt at (length next)) (at ∷ followed n next
    (slice_index next at)) []
