-- What calls on flags answer.

use Rattle.std.specs.Prelude.{◌≡◌, ◌≢◌, ℕ, ◌⊎◌, Bool, true, List, length, Option, Some, Result, Ok, Err}
use Rattle.target_handle.specs.Target.{Target}
use Rattle.call_flag.specs.declared.handle.FlagHandle.{FlagHandle}
use Rattle.parallel_solve.specs.declared.answers.Interrupted.{Interrupted}
use Rattle.subgraph_c.specs.Asking.{Call, call}
use Rattle.subgraph_c.specs.Reports.{images_report}
use Rattle.subgraph_c.specs.Deciding.{IsGood, DecideStatus, decision_status, decision_report, images_after}
use Rattle.subgraph_c.specs.Holding.{IsTextOf, HasFormat, HeldSays, HeldStatus}
use Rattle.subgraph_c.specs.declared.passed.Options.{Options}
use Rattle.subgraph_c.specs.declared.passed.Pair.{Pair}
use Rattle.subgraph_c.specs.declared.passed.Report.{Report}
use Rattle.subgraph_c.specs.declared.deciding.Decision.{Decision}

-- One of two handles has an owner.
abbrev pub IsEither : FlagHandle → FlagHandle → Type 0
IsEither f g = (f.there ≡ true) ⊎ (g.there ≡ true)

-- What the status of a call that opens a flag says of the two handles before and after it.
pub record FlagStatus (status : ℕ) (first second first_after second_after : FlagHandle) : Type 0 where
  pub opened : status ≡ 0 → (first_after.there ≡ true) × (second_after.there ≡ true)
  pub refused : status ≡ 3 → IsEither first second
  pub kept : status ≢ 0 → (first_after ≡ first) × (second_after ≡ second)
  pub one_of : (status ≡ 0) ⊎ ((status ≡ 3) ⊎ (status ≡ 6))
  pub leads : IsEither first second → status ≡ 3

-- The status, the report and the images of a call that may be ended.
abbrev pub end_status : Result Decision Interrupted → ℕ
end_status (Ok d) = decision_status d
end_status (Err _) = 8

abbrev pub end_report : Result Decision Interrupted → Report
end_report (Ok d) = decision_report d
end_report (Err _) = images_report 0

abbrev pub images_at_end : Result Decision Interrupted → List ℕ → List ℕ
images_at_end (Ok d) before = images_after d before
images_at_end (Err _) before = before

-- The call was ended: its handle had an owner, it asks a problem, and nothing is told.
pub record IsStopped (c : Call) (there : Bool) (before after : List ℕ) (report : Report) : Type 0 where
  pub there_is : there ≡ true
  pub good : IsGood c (length before)
  pub kept : after ≡ before
  pub report_is : report ≡ images_report 0

-- What the status of a call that may be ended says: it was ended, or the status is one of a call that decides.
abbrev pub StopStatus : ℕ → Call → Bool → List ℕ → List ℕ → Report → Type 0
StopStatus status c there before after report =
    ((status ≡ 8) × IsStopped c there before after report) ⊎ DecideStatus status c before after report

-- ---- of a target that is open

-- The options name the format of the target's text, and with each text of the target the call is good.
pub record IsHeldGood (t : Target) (pattern : List ℕ) (o : Options) (less : List Pair) (room : ℕ) : Type 0 where
  pub format : HasFormat o t
  pub good : (text : List ℕ) → IsTextOf text t → IsGood (call pattern text o less) room

-- What is said of a call on a target at a gate: what its decision says, and of one that a closed gate ended that it is
-- good.
abbrev pub HeldEndSays : Result Decision Interrupted → Target → List ℕ → Options → List Pair → ℕ
    → Type 0
HeldEndSays (Ok d) t pattern o less room = HeldSays d t pattern o less room
HeldEndSays (Err _) t pattern o less room = IsHeldGood t pattern o less room

-- The call on a handle was ended: its flag had an owner, the target that is held makes it a good one, and nothing is
-- told.
pub record IsHeldStopped (held : Option Target) (pattern : List ℕ) (o : Options) (less : List Pair)
    (there : Bool) (before after : List ℕ) (report : Report) : Type 0 where
  pub there_is : there ≡ true
  pub target : Target
  pub held_is : held ≡ Some target
  pub good : IsHeldGood target pattern o less (length before)
  pub kept : after ≡ before
  pub report_is : report ≡ images_report 0

-- What the status of a call on a handle that may be ended says: it was ended, or the status is one of a call that
-- decides.
abbrev pub HeldStopStatus : ℕ → Option Target → List ℕ → Options → List Pair → Bool → List ℕ → List ℕ
    → Report → Type 0
HeldStopStatus status held pattern o less there before after report =
    ((status ≡ 8) × IsHeldStopped held pattern o less there before after report)
    ⊎ HeldStatus status held pattern o less before after report
