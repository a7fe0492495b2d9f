-- What a filter takes from domains whose vertices have flags, and that it is told.

use Rattle.std.specs.Prelude.{◌≡◌, ℕ, ◌*◌, ◌<◌, ◌≤◌, Bool, true, ◌⊎◌, List, length, Option, Result, IfErr}
use Rattle.std.specs.Result.{is_ok}
use Rattle.graph_theory.specs.Graph.{size}
use Rattle.graph_theory.specs.Embedding.{Problem}
use Rattle.domain_bits.specs.Removals.{State, in_domain}
use Rattle.search_theory.specs.Claims.{Single}
use Rattle.nogood_watch.specs.Nogoods as watched
use Rattle.recorder.specs.declared.change.Failure.{Failure}
use Rattle.recorder.specs.Recording.{Change, CountedSet, NoNewGuess}
use Rattle.recorder.specs.Telling.{IsOf, Fails, IsEmptied, TellsOn}
use Rattle.propagation.specs.Learning.{Forces}
use Rattle.propagation.specs.Propagation.{PrunesFor, waits_at}

-- The domains are of the problem, with a flag for each vertex, and no more values have left than there were.
pub record AreFlagged (q : Problem) (d : State) (waiting : List Bool) : Type 0 where
  pub is_of : IsOf q d
  pub long : length waiting ≡ size q.pattern
  pub bounded : length d.removed ≤ d.vertices * d.values

-- No value but t is left for p, and r is another vertex, which waits, or has not one value only.
pub record Meets (q : Problem) (d : State) (waiting : List Bool) (p t r : ℕ) : Type 0 where
  pub p_in : p < size q.pattern
  pub t_in : t < size q.target
  pub r_in : r < size q.pattern
  pub apart : p ≡ r → ⊥
  pub single : Single (in_domain d) p t
  pub undecided : (waits_at waiting r ≡ true) ⊎ ((v : ℕ) → Single (in_domain d) r v → ⊥)

-- Values have left that no embedding needs; or a domain is empty, and no embedding was within the old ones. What has left is told, and is no guess.
pub record Takes {A : Type 0} (answer : Result A Failure) (q : Problem) (old : State) (before : List
    Bool) (told : Option (List Change)) (new : State) (after : List Bool)
    (tells : Option (List Change)) : Type 0 where
  pub forces : Forces (is_ok answer) q old before new after
  pub none : IfErr answer (IsEmptied q new)
  pub told_on : TellsOn q old told new tells
  pub guesses : NoNewGuess told tells

-- The same of domains at rest, by whether values have left, with what they have else, and what a failure says.
pub record Prunes (Has : State → Type 0) (answer : Result Bool Failure) (q : Problem) (old : State) (told : Option
    (List Change)) (new : State) (after : List Bool) (tells : Option (List Change))
    (short : Option CountedSet) : Type 0 where
  pub pruned : PrunesFor Has answer q old new after
  pub fails : (s : Option watched.State) → IfErr answer (Fails q s new tells short)
  pub told_on : TellsOn q old told new tells
  pub guesses : NoNewGuess told tells
