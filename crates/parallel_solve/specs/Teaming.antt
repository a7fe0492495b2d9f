-- The workers of one solve: before they run, after it, and what their outcomes say together.

use Rattle.std.specs.Prelude.{◌≡◌, ◌≢◌, ◌⊎◌, ℕ, ◌<◌, ◌≤◌, Bool, true, false, List, [], ◌∷◌, length, All, Option, Some, IfSome, Vec, unwrap_or}
use Rattle.std.specs.Global.{Global}
use Rattle.std.specs.List.{Any}
use Rattle.graph_theory.specs.Graph.{size}
use Rattle.graph_theory.specs.Embedding.{Problem, Embeds, HasNone}
use Rattle.search_theory.specs.Bounds.{enough}
use Rattle.search_theory.specs.Account.{Account, Honest, Spends}
use Rattle.nogood_book.specs.declared.row.Row.{Row}
use Rattle.nogood_book.specs.Seats.{BookName, SeatName, IsSeatOf, facts_of}
use Rattle.proof_logger.specs.Logging.{EndsInOwn, GrowsBeside}
use Rattle.restart_search.specs.declared.outcome.Outcome.{Outcome}
use Rattle.restart_search.specs.declared.outcome.Outcome.TheVariants.{Found, Refuted, Spent, Stopped, Interrupted, NoMemory}
use Rattle.restart_search.specs.declared.outcome.Stage.TheVariants.{Over}
use Rattle.parallel_solve.specs.declared.tally.Tally.{Tally}
use Rattle.restart_search.specs.Searching.{Search, Ends, IfInterrupted, IsNotStopped, stage_after}
use Rattle.restart_search.specs.Sharing.{IsSeatFor}
use Rattle.restart_search.specs.Logging.{IfRefuted}
use Rattle.proof_collection.specs.Making.{IsFinisher}

-- Each of these numbers is below n.
abbrev pub AreBelow : List ℕ → ℕ → Type 0
AreBelow [] n = Unit {0}
AreBelow (x ∷ xs) n = (x < n) × AreBelow xs n

-- The worker may run: its seat is the book's, it is of this problem and budget, its log is its own, and it has not ended.
pub record IsJob {K : Type 0} (owner : K
    → ℕ) (b : BookName) (q : Problem) (budget : ℕ) (w : Search SeatName K) : Type 0 where
  pub seat_of : IsSeatOf b w.seat
  pub problem_is : w.problem ≡ q
  pub budget_is : w.account.budget ≡ budget
  pub owner_is : owner w.log ≡ w.number
  pub goes_on : w.stage ≢ Over

-- The worker has run to this outcome, and its log says so beside the rows that its seat has, of the book and its own.
pub record HasRun {K : Type 0} (owner : K → ℕ) (steps refutes : K → Problem → List Row
    → Type 0) (b : BookName) (q : Problem) (budget : ℕ) (w : Search SeatName K)
    (o : Outcome) : Type 0 where
  pub seat_of : IsSeatOf b w.seat
  pub facts_are : w.facts ≡ facts_of w.seat
  pub seat_for : IsSeatFor w.problem w.number w.facts
  pub problem_is : w.problem ≡ q
  pub budget_is : w.account.budget ≡ budget
  pub owner_is : owner w.log ≡ w.number
  pub ends : Ends o q w.account
  pub honest : Honest q w.account
  pub stage_is : w.stage ≡ stage_after o
  pub steps_of : steps w.log q w.facts.seen
  pub refutes_of : IfRefuted o (refutes w.log q w.facts.seen)

-- It has run so at a gate, by which it was interrupted only where the gate may close.
pub record HasRunAt {K : Type 0} (owner : K → ℕ) (steps refutes : K → Problem → List Row
    → Type 0) (MayClose : Type 0) (b : BookName) (q : Problem) (budget : ℕ) (w : Search SeatName K)
    (o : Outcome) : Type 0 where
  pub run : HasRun owner steps refutes b q budget w o
  pub closed : IfInterrupted o MayClose

-- The budget was spent where a guess was due, and it is less than enough.
pub record IsSpent (q : Problem) (budget : ℕ) (a : Account) : Type 0 where
  pub spends : Spends q budget a
  pub short : budget < enough (size q.pattern) (size q.target)

-- What has been heard of the workers so far is true: a map embeds, a refutation is one, and where all were spent these are their accounts.
pub record IsTally (q : Problem) (budget : ℕ) (t : Tally) : Type 0 where
  pub map_of : IfSome t.map (λ m. Embeds q m.items)
  pub refuted_of : IfSome t.refuted (λ _. HasNone q)
  pub spent_of : t.spent ≡ true → All (IsSpent q budget) t.accounts.items

-- ---- who decided

-- The outcome decides the problem.
abbrev pub Decides : Outcome → Type 0
Decides (Found m) = Unit {0}
Decides Refuted = Unit {0}
Decides Spent = ⊥
Decides (Stopped n) = ⊥
Decides Interrupted = ⊥
Decides NoMemory = ⊥

-- One of these decides the problem, or none of them was stopped.
abbrev pub AreSettled : {X : Type 0} → (X → Outcome) → List X → Type 0
AreSettled outcome xs = Any (λ x. Decides (outcome x)) xs
    ⊎ All (λ x. IsNotStopped (outcome x)) xs

-- The run has come to its end: it was neither stopped nor interrupted.
abbrev pub HasEnded : Outcome → Type 0
HasEnded (Found m) = Unit {0}
HasEnded Refuted = Unit {0}
HasEnded Spent = Unit {0}
HasEnded (Stopped n) = ⊥
HasEnded Interrupted = ⊥
HasEnded NoMemory = Unit {0}

-- One of these decides the problem, or all of them have come to their ends.
abbrev pub HaveEnded : {X : Type 0} → (X → Outcome) → List X → Type 0
HaveEnded outcome xs = Any (λ x. Decides (outcome x)) xs
    ⊎ All (λ x. HasEnded (outcome x)) xs

-- The run was interrupted.
abbrev pub IsInterrupted : Outcome → Type 0
IsInterrupted (Found m) = ⊥
IsInterrupted Refuted = ⊥
IsInterrupted Spent = ⊥
IsInterrupted (Stopped n) = ⊥
IsInterrupted Interrupted = Unit {0}
IsInterrupted NoMemory = ⊥

-- ---- who refuted

-- The embedding that was found last, after one more outcome; and whether all were spent.
abbrev pub map_by : Option (Vec ℕ Global) → Outcome → Option (Vec ℕ Global)
map_by map (Found m) = Some m
map_by map Refuted = map
map_by map Spent = map
map_by map (Stopped n) = map
map_by map Interrupted = map
map_by map NoMemory = map

abbrev pub spent_by : Bool → Outcome → Bool
spent_by spent (Found m) = false
spent_by spent Refuted = false
spent_by spent Spent = spent
spent_by spent (Stopped n) = false
spent_by spent Interrupted = false
spent_by spent NoMemory = false

-- The first that refuted, after one more of this number.
abbrev pub refuted_by : Option ℕ → ℕ → Outcome → Option ℕ
refuted_by refuted number (Found m) = refuted
refuted_by refuted number Refuted = Some (unwrap_or refuted number)
refuted_by refuted number Spent = refuted
refuted_by refuted number (Stopped n) = refuted
refuted_by refuted number Interrupted = refuted
refuted_by refuted number NoMemory = refuted

-- The number is that of one of these, and this one refutes.
pub record IsRefuter {X : Type 0} (refutes : X → Type 0) (xs : List X) (number : ℕ) : Type 0 where
  pub some : 1 ≤ number
  pub there : number ≤ length xs
  pub finisher : IsFinisher refutes xs number

-- ---- what stays as rows of others come

-- What is so beside some rows of a problem is so beside more of them, none of which is a nogood of the owner.
abbrev pub StaysBeside : ℕ → (Problem → List Row → Type 0) → Type 0
StaysBeside owner says = (q : Problem) (rows more : List Row) → GrowsBeside owner rows more
    → says q rows → says q more

-- What is so beside some rows of a problem is so without those at the end that the owner keeps for itself.
abbrev pub StaysWithoutOwn : ℕ → (Problem → List Row → Type 0) → Type 0
StaysWithoutOwn owner says = (q : Problem) (rows whole : List Row) → EndsInOwn owner rows whole
    → says q whole → says q rows
