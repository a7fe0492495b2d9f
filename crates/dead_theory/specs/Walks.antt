-- Walking back over changes, from the last one to the first, and choosing those that an end rests on.

use Rattle.std.specs.Prelude.{◌≡◌, ℕ, ◌<◌, Bool, true, ◌⊎◌, List, [], ◌∷◌, ◌++◌}
use Rattle.graph_theory.specs.Graph.{size}
use Rattle.graph_theory.specs.Embedding.{Problem}
use Rattle.nogood_book.specs.declared.row.Row.{Row}
use Rattle.recorder.specs.Recording.{Change}
use Rattle.dead_theory.specs.Changes.{Chosen, MayTake, Covers, Suffices, Needs}

-- The change takes none of the needed values that there are.
abbrev pub MayPass : Problem → List Row → Change → (ℕ → ℕ → Bool) → Type 0
MayPass q rows c needed = (r u : ℕ) → u < size q.target → needed r u ≡ true
    → MayTake q rows c r u → ⊥

-- What is asked of the change takes each needed value that the change took. Those that it does not take by itself are needed before it too, and
-- so is what it rests on.
pub record RestsOn (q : Problem) (rows : List Row) (path : List (ℕ
    × ℕ)) (c : Chosen) (needed now : ℕ → ℕ → Bool) : Type 0 where
  pub suffices : (r u : ℕ) → u < size q.target → needed r u ≡ true → Suffices q c r u
  pub carried : (r u : ℕ) → needed r u ≡ true → (now r u ≡ true) ⊎ Covers q c r u
  pub needs : Needs q rows path c.change now

-- Of these changes, the last one first, some are chosen for the needed values of a path: one that is chosen has others needed before it, and one
-- that is not may be passed.
pub data IsChoice (q : Problem) (rows : List Row) (path : List (ℕ × ℕ)) : List Change
    → List Chosen → (ℕ → ℕ → Bool) → Type 0 where
  nothing : (needed : ℕ → ℕ → Bool) → IsChoice q rows path [] [] needed
  keeps : (c : Chosen) (cs : List Change) (chosen : List Chosen) (needed now : ℕ → ℕ → Bool)
      → RestsOn q rows path c needed now → IsChoice q rows path cs chosen now
      → IsChoice q rows path (c.change ∷ cs) (c ∷ chosen) needed
  passes : (c : Change) (cs : List Change) (chosen : List Chosen) (needed : ℕ → ℕ → Bool)
      → MayPass q rows c needed → IsChoice q rows path cs chosen needed
      → IsChoice q rows path (c ∷ cs) chosen needed

-- Going back over the changes that were seen has chosen some of them, and come from the needed values to others: whatever is chosen of the
-- changes before them for these, both together are chosen.
abbrev pub Walked : Problem → List Row → List (ℕ × ℕ) → List Change → List Chosen → (ℕ → ℕ
    → Bool) → (ℕ → ℕ → Bool) → Type 0
Walked q rows path seen chosen needed now = (rest : List Change) (more : List Chosen)
    → IsChoice q rows path rest more now
    → IsChoice q rows path (seen ++ rest) (chosen ++ more) needed

-- All of the one test passes the other.
abbrev pub IsWithin : (ℕ → ℕ → Bool) → (ℕ → ℕ → Bool) → Type 0
IsWithin fewer more = (r u : ℕ) → fewer r u ≡ true → more r u ≡ true
