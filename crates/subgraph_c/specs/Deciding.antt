-- What a call that decides answers.

use Rattle.std.specs.Prelude.{◌≡◌, ◌≢◌, ℕ, ◌<◌, ◌≤◌, ◌⊎◌, List, ◌++◌, length, drop, Some, None, Result, Ok, Err}
use Rattle.graph_theory.specs.Graph.{size}
use Rattle.graph_theory.specs.Embedding.{Problem, Embeds, HasNone}
use Rattle.search_theory.specs.Account.{Account, Spends}
use Rattle.search_theory.specs.Bounds.{enough}
use Rattle.parallel_solve.specs.declared.answers.Interrupted.{Interrupted}
use Rattle.subgraph_c.specs.Asking.{Call, Asks, IsFaulty, bad_question, bad_search}
use Rattle.subgraph_c.specs.Reports.{refusal_status, refusal_report, images_report, FaultTold}
use Rattle.subgraph_c.specs.declared.passed.Report.{Report}
use Rattle.subgraph_c.specs.declared.refusal.OutOfRange.{OutOfRange}
use Rattle.subgraph_c.specs.declared.refusal.OutOfRange.TheVariants.{Room}
use Rattle.subgraph_c.specs.declared.refusal.Refusal.{Refusal}
use Rattle.subgraph_c.specs.declared.refusal.Refusal.TheVariants.{Number, NoMemory}
use Rattle.subgraph_c.specs.declared.deciding.Decision.{Decision}
use Rattle.subgraph_c.specs.declared.deciding.Decision.TheVariants.{Yes, Nothing, Unknown, Refused}

-- The numbers of the call are in range.
pub record IsInRange (c : Call) : Type 0 where
  pub question : bad_question c.options c.less ≡ None
  pub search : bad_search c.options ≡ None

-- The call asks this problem, its numbers are in range, and there is room for an image of each pattern vertex.
pub record IsAsked (c : Call) (room : ℕ) (q : Problem) : Type 0 where
  pub asks : Asks c q
  pub in_range : IsInRange c
  pub fits : size q.pattern ≤ room

-- The map embeds the problem that is asked.
pub record Found (c : Call) (room : ℕ) (m : List ℕ) : Type 0 where
  pub problem : Problem
  pub asked : IsAsked c room problem
  pub embeds : Embeds problem m

-- The problem that is asked has no embedding.
pub record Refuted (c : Call) (room : ℕ) : Type 0 where
  pub problem : Problem
  pub asked : IsAsked c room problem
  pub none : HasNone problem

-- The search for the problem that is asked spent its budget where a further guess was due, and the budget is less than
-- is enough for every problem of these sizes.
pub record Undecided (c : Call) (room : ℕ) : Type 0 where
  pub problem : Problem
  pub asked : IsAsked c room problem
  pub account : Account
  pub spends : Spends problem c.options.budget account
  pub not_enough : c.options.budget < enough (size problem.pattern) (size problem.target)

-- The problem that is asked has a pattern with more vertices than there is room for images.
pub record LacksRoom (c : Call) (room : ℕ) : Type 0 where
  pub problem : Problem
  pub asks : Asks c problem
  pub in_range : IsInRange c
  pub short : room < size problem.pattern

-- The first number out of range is this one: those that choose the problem are judged first, then those that choose
-- the search, and the room last, behind the texts.
abbrev pub IsOutOfRange : Call → ℕ → OutOfRange → Type 0
IsOutOfRange c room n = (bad_question c.options c.less ≡ Some n)
    ⊎ (((bad_question c.options c.less ≡ None) × (bad_search c.options ≡ Some n))
    ⊎ ((n ≡ Room) × LacksRoom c room))

-- Why a call decides nothing.
abbrev pub IsRefused : Call → ℕ → Refusal → Type 0
IsRefused c room (Number n) = IsOutOfRange c room n
IsRefused c room NoMemory = IsInRange c
IsRefused c room refusal = IsInRange c × IsFaulty c refusal

-- What a decision says, where there is room for so many images.
abbrev pub DecisionSays : Decision → Call → ℕ → Type 0
DecisionSays (Yes m) c room = Found c room m.items
DecisionSays Nothing c room = Refuted c room
DecisionSays Unknown c room = Undecided c room
DecisionSays (Refused refusal) c room = IsRefused c room refusal

-- A search for the problem spent the budget, as `Undecided` says of a call.
pub record IsSpent (q : Problem) (budget : ℕ) : Type 0 where
  pub account : Account
  pub spends : Spends q budget account
  pub not_enough : budget < enough (size q.pattern) (size q.target)

-- What a decision says of a problem that a call asks, where there is room for so many images.
abbrev pub ProblemSays : Decision → Problem → ℕ → Type 0
ProblemSays (Yes m) q budget = Embeds q m.items
ProblemSays Nothing q budget = HasNone q
ProblemSays Unknown q budget = IsSpent q budget
ProblemSays (Refused refusal) q budget = refusal ≡ NoMemory

-- The problem is decided where there is room for so many images, and else that is told.
abbrev pub RoomSays : Decision → Problem → ℕ → ℕ → Type 0
RoomSays d q budget room = ((size q.pattern ≤ room) × ProblemSays d q budget)
    ⊎ ((room < size q.pattern) × (d ≡ Refused (Number Room)))

-- The call asks a problem, its numbers are in range, and there is room for an image of each pattern vertex.
abbrev pub IsGood : Call → ℕ → Type 0
IsGood c room = (q : Problem) × IsAsked c room q

-- What is said of a call at a gate: what its decision says, and of one that a closed gate ended that it asks a problem.
abbrev pub EndSays : Result Decision Interrupted → Call → ℕ → Type 0
EndSays (Ok d) c room = DecisionSays d c room
EndSays (Err _) c room = IsGood c room

-- There is room for what is found.
abbrev pub Fits : Decision → ℕ → Type 0
Fits (Yes m) room = length m.items ≤ room
Fits Nothing room = Unit {0}
Fits Unknown room = Unit {0}
Fits (Refused refusal) room = Unit {0}

-- ---- what C sees of it

-- The status of a decision, its report, and the images that it leaves.
abbrev pub decision_status : Decision → ℕ
decision_status (Yes m) = 0
decision_status Nothing = 1
decision_status Unknown = 2
decision_status (Refused refusal) = refusal_status refusal

abbrev pub decision_report : Decision → Report
decision_report (Yes m) = images_report (length m.items)
decision_report Nothing = images_report 0
decision_report Unknown = images_report 0
decision_report (Refused refusal) = refusal_report refusal

abbrev pub images_after : Decision → List ℕ → List ℕ
images_after (Yes m) before = m.items ++ drop (length m.items) before
images_after Nothing before = before
images_after Unknown before = before
images_after (Refused refusal) before = before

-- An embedding was found, and is written to the front of the images.
pub record FoundWritten (c : Call) (before after : List ℕ) (report : Report) : Type 0 where
  pub map : List ℕ
  pub found : Found c (length before) map
  pub after_is : after ≡ map ++ drop (length map) before
  pub report_is : report ≡ images_report (length map)

-- A number is out of range, and the report tells which.
pub record RangeTold (c : Call) (room : ℕ) (report : Report) : Type 0 where
  pub number : OutOfRange
  pub is : IsOutOfRange c room number
  pub report_is : report ≡ refusal_report (Number number)

-- What a call leads to.
pub record DecideLeads (status : ℕ) (c : Call) (room : ℕ) : Type 0 where
  pub answered : (q : Problem) → IsAsked c room q
      → (status ≡ 0) ⊎ ((status ≡ 1) ⊎ ((status ≡ 2) ⊎ (status ≡ 6)))
  pub found : (q : Problem) (m : List ℕ) → Asks c q → Embeds q m → status ≢ 1
  pub none : (q : Problem) → Asks c q → HasNone q → status ≢ 0
  pub enough : (q : Problem) → Asks c q
      → enough (size q.pattern) (size q.target) ≤ c.options.budget → status ≢ 2
  pub no_room : LacksRoom c room → (status ≡ 3) ⊎ (status ≡ 6)
  pub range : (IsInRange c → ⊥) → status ≡ 3
  pub faulty : (refusal : Refusal) → IsInRange c → IsFaulty c refusal
      → (status ≡ 4) ⊎ (status ≡ 6)

-- What the status of a call says of what was passed, of the images and of the report.
pub record DecideStatus (status : ℕ) (c : Call) (before after : List ℕ)
    (report : Report) : Type 0 where
  pub yes : status ≡ 0 → FoundWritten c before after report
  pub none : status ≡ 1 → Refuted c (length before)
  pub unknown : status ≡ 2 → Undecided c (length before)
  pub range : status ≡ 3 → RangeTold c (length before) report
  pub faulty : status ≡ 4 → IsInRange c × FaultTold c report
  pub zeros : (status ≡ 1) ⊎ ((status ≡ 2) ⊎ (status ≡ 6)) → report ≡ images_report 0
  pub kept : status ≢ 0 → after ≡ before
  pub one_of : (status ≤ 4) ⊎ (status ≡ 6)
  pub leads : DecideLeads status c (length before)
