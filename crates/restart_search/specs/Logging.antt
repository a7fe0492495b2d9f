-- What a search has told of itself: what was told of its domains is true, each guess that was told is one of the path, and lines stand for all that it has refuted.

use Rattle.std.specs.Prelude.{◌≡◌, ℕ, Bool, true, false, ◌⊎◌, List, [], ◌∷◌, Option}
use Rattle.graph_theory.specs.Embedding.{Problem}
use Rattle.search_theory.specs.Account.{Account, path}
use Rattle.domain_bits.specs.Removals.{State}
use Rattle.nogood_watch.specs.Nogoods as watched
use Rattle.nogood_book.specs.declared.row.Row.{Row}
use Rattle.recorder.specs.Recording.{Change, HasGuess}
use Rattle.recorder.specs.Telling.{Tells}
use Rattle.restart_search.specs.declared.position.Moment.{Moment}
use Rattle.restart_search.specs.declared.outcome.Outcome.{Outcome}
use Rattle.restart_search.specs.declared.outcome.Outcome.TheVariants.{Found, Refuted, Spent, Stopped, Interrupted, NoMemory}
use Rattle.restart_search.specs.declared.outcome.Stage.{Stage}
use Rattle.restart_search.specs.declared.outcome.Stage.TheVariants.{Fresh, Halfway, Over}

-- At some level of the path t was guessed for p, and the level's moment is this mark.
abbrev pub IsGuessAt : List (ℕ × ℕ) → List Moment → ℕ → ℕ → ℕ → Type 0
IsGuessAt [] ks p t from = ⊥
IsGuessAt (x ∷ xs) [] p t from = ⊥
IsGuessAt (x ∷ xs) (k ∷ ks) p t from = ((x ≡ (p, t))
    × (k.domains ≡ from)) ⊎ IsGuessAt xs ks p t from

-- What was told of the domains is true, and each guess that was told is one of the path, told at its level's moment.
pub record IsTold (q : Problem) (nogoods : Option watched.State) (d : State) (xs : List (ℕ
    × ℕ)) (marks : List Moment) (changes : Option (List Change)) : Type 0 where
  pub told : Tells q nogoods d changes
  pub guesses : (p t from : ℕ) → HasGuess changes p t from → IsGuessAt xs marks p t from

-- So it is for the account's path, and lines stand for all that the account has refuted.
pub record IsLogged (q : Problem) (rows : List Row) (nogoods : Option watched.State) (d : State)
    (a : Account) (marks : List Moment) (changes : Option (List Change))
    (Writes : Problem → List Row → Account → Type 0) : Type 0 where
  pub told : IsTold q nogoods d (path a) marks changes
  pub writes : Writes q rows a

-- What is logged where a step answers whether embeddings may be left.
abbrev pub LogsOn : Bool → Problem → List Row → Option watched.State → State → Account
    → List Moment → Option (List Change) → (Problem → List Row → Account → Type 0) → (Problem
    → List Row → Type 0) → Type 0
LogsOn true q rows nogoods d a marks changes Writes Refutes = IsLogged q rows nogoods d a marks
    changes Writes
LogsOn false q rows nogoods d a marks changes Writes Refutes = Refutes q rows

-- After a refutation this holds.
abbrev pub IfRefuted : Outcome → Type 0 → Type 0
IfRefuted (Found m) P = Unit {0}
IfRefuted Refuted P = P
IfRefuted Spent P = Unit {0}
IfRefuted (Stopped n) P = Unit {0}
IfRefuted Interrupted P = Unit {0}
IfRefuted NoMemory P = Unit {0}

-- Between the runs of a worker what was logged before is logged; after the last one the lines step.
abbrev pub LoggedAt : Stage → Type 0 → Type 0 → Type 0
LoggedAt Fresh Logs Steps = Logs
LoggedAt Halfway Logs Steps = Logs
LoggedAt Over Logs Steps = Steps
