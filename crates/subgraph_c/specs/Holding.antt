-- What calls on a handle answer: one that opens a target, and one that decides a question of an open target.

use Rattle.std.specs.Prelude.{◌≡◌, ◌≢◌, ℕ, ◌≤◌, ◌<◌, ◌⊎◌, List, Option, Some, None, Result, Ok, Err, Vec}
use Rattle.std.specs.Global.{Global}
use Rattle.graph_theory.specs.Text.{words}
use Rattle.graph_theory.specs.Graph.{Graph}
use Rattle.graph_theory.specs.GraphText.{ReadsGraph}
use Rattle.graph_theory.specs.LadFault.{Fault}
use Rattle.graph_theory.specs.declared.lad_text.LadCause.{LadCause}
use Rattle.target_handle.specs.Opened.{opened}
use Rattle.target_handle.specs.Target.{Target}
use Rattle.target_handle.specs.declared.handle.TargetHandle.{TargetHandle}
use Rattle.subgraph_c.specs.Asking.{call, format_of, bad_question, bad_search, pairs_of, HaveVertices, AreInRange}
use Rattle.subgraph_c.specs.Deciding.{IsRefused, DecisionSays, DecideStatus}
use Rattle.subgraph_c.specs.Reports.{refusal_status, refusal_report, images_report}
use Rattle.subgraph_c.specs.declared.deciding.Decision.{Decision}
use Rattle.subgraph_c.specs.declared.deciding.Decision.TheVariants.{Refused}
use Rattle.subgraph_c.specs.declared.passed.Options.{Options}
use Rattle.subgraph_c.specs.declared.passed.Pair.{Pair}
use Rattle.subgraph_c.specs.declared.passed.Report.{Report}
use Rattle.subgraph_c.specs.declared.refusal.OutOfRange.{OutOfRange}
use Rattle.subgraph_c.specs.declared.refusal.OutOfRange.TheVariants.{Format, Handle}
use Rattle.subgraph_c.specs.declared.refusal.Refusal.{Refusal}
use Rattle.subgraph_c.specs.declared.refusal.Refusal.TheVariants.{Number, Target as InTarget, NoMemory}

-- The bytes are a text of the target.
abbrev pub IsTextOf : List ℕ → Target → Type 0
IsTextOf text t = ReadsGraph (words text) t.kind 8192 t.graph

-- ---- opening

-- The bytes are a text of the target in the format of this number.
pub record IsRead (t : Target) (text : List ℕ) (format : ℕ) : Type 0 where
  pub known : format ≤ 3
  pub kind_is : t.kind ≡ format_of format
  pub text_is : IsTextOf text t

-- The number names a format, and in it the bytes have this first faulty word.
pub record IsUnreadable (text : List ℕ) (format word : ℕ) (cause : LadCause) : Type 0 where
  pub known : format ≤ 3
  pub fault : Fault (words text) (format_of format) 8192 word cause

-- Why a target is not read.
abbrev pub IsUnread : Refusal → List ℕ → ℕ → Type 0
IsUnread (Number n) text format = (n ≡ Format) × (3 < format)
IsUnread (InTarget word cause) text format = IsUnreadable text format word cause
IsUnread NoMemory text format = format ≤ 3
IsUnread refusal text format = ⊥

-- What reading a target answers.
abbrev pub ReadSays : Result Target Refusal → List ℕ → ℕ → Type 0
ReadSays (Ok t) text format = IsRead t text format
ReadSays (Err refusal) text format = IsUnread refusal text format

-- The target whose text the bytes are is held.
pub record IsHeld (held : Option Target) (text : List ℕ) (format : ℕ) : Type 0 where
  pub target : Target
  pub held_is : held ≡ Some target
  pub read : IsRead target text format

-- What making a handle for a text answers.
abbrev pub HoldSays : Result TargetHandle Refusal → List ℕ → ℕ → Type 0
HoldSays (Ok h) text format = IsHeld (opened h) text format
HoldSays (Err refusal) text format = IsUnread refusal text format

-- Why a number is out of range: a target is held already, or the format is none.
abbrev pub IsNumberOf : OutOfRange → ℕ → Option Target → Type 0
IsNumberOf n format before = ((n ≡ Handle) × ((t : Target) × (before ≡ Some t)))
    ⊎ ((n ≡ Format) × ((before ≡ None) × (3 < format)))

-- What a call that opens a target leaves of what was held before: the target of the text, or what it was.
abbrev pub OpenSays : Result (Unit {0}) Refusal → List ℕ → ℕ → Option Target → Option Target → Type 0
OpenSays (Ok _) text format before after = (before ≡ None) × IsHeld after text format
OpenSays (Err (Number n)) text format before after = (after ≡ before) × IsNumberOf n format before
OpenSays (Err refusal) text format before after =
    (after ≡ before) × ((before ≡ None) × IsUnread refusal text format)

abbrev pub open_status : Result (Unit {0}) Refusal → ℕ
open_status (Ok _) = 0
open_status (Err refusal) = refusal_status refusal

abbrev pub open_report : Result (Unit {0}) Refusal → Report
open_report (Ok _) = images_report 0
open_report (Err refusal) = refusal_report refusal

-- A number is out of range, and the report tells which.
pub record OpenRangeTold (format : ℕ) (before : Option Target) (report : Report) : Type 0 where
  pub number : OutOfRange
  pub is : IsNumberOf number format before
  pub report_is : report ≡ refusal_report (Number number)

-- The bytes have a faulty word, and the report tells where and why.
pub record OpenFaultTold (text : List ℕ) (format : ℕ) (report : Report) : Type 0 where
  pub word : ℕ
  pub cause : LadCause
  pub is : IsUnreadable text format word cause
  pub report_is : report ≡ refusal_report (InTarget word cause)

-- What a call that opens a target leads to.
pub record OpenLeads (status : ℕ) (text : List ℕ) (format : ℕ) (before : Option Target) : Type 0 where
  pub held : (t : Target) → before ≡ Some t → status ≡ 3
  pub range : 3 < format → status ≡ 3
  pub read : (t : Target) → before ≡ None → IsRead t text format → (status ≡ 0) ⊎ (status ≡ 6)
  pub faulty : (word : ℕ) (cause : LadCause) → before ≡ None → IsUnreadable text format word cause
      → (status ≡ 4) ⊎ (status ≡ 6)

-- What the status of a call that opens a target says.
pub record OpenStatus (status : ℕ) (text : List ℕ) (format : ℕ) (before after : Option Target)
    (report : Report) : Type 0 where
  pub opened : status ≡ 0 → IsHeld after text format
  pub range : status ≡ 3 → OpenRangeTold format before report
  pub faulty : status ≡ 4 → OpenFaultTold text format report
  pub zeros : (status ≡ 0) ⊎ (status ≡ 6) → report ≡ images_report 0
  pub kept : status ≢ 0 → after ≡ before
  pub one_of : (status ≡ 0) ⊎ ((status ≡ 3) ⊎ ((status ≡ 4) ⊎ (status ≡ 6)))
  pub leads : OpenLeads status text format before

-- ---- deciding

-- The options name the format of the target's text.
pub record HasFormat (o : Options) (t : Target) : Type 0 where
  pub known : o.format ≤ 3
  pub kind_is : format_of o.format ≡ t.kind

-- The numbers are in range, the pattern's text is that of the graph, and the pairs are of its vertices.
pub record Premises (g : Graph) (pairs : List (ℕ × ℕ)) (pattern : List ℕ) (o : Options)
    (less : List Pair) : Type 0 where
  pub question : bad_question o less ≡ None
  pub search : bad_search o ≡ None
  pub in_range : AreInRange o less
  pub pattern_is : ReadsGraph (words pattern) (format_of o.format) 1024 g
  pub pairs_are : pairs ≡ pairs_of less
  pub vertices : HaveVertices g less

-- What is read of a call beside its target: it is good, or the call is refused whatever its target is.
abbrev pub PremisesSay : Result (Graph × Vec (ℕ × ℕ) Global) Refusal → List ℕ → Options
    → List Pair → Type 0
PremisesSay (Ok p) pattern o less = Premises p.0 p.1.items pattern o less
PremisesSay (Err refusal) pattern o less =
    (text : List ℕ) (room : ℕ) → IsRefused (call pattern text o less) room refusal

-- For each text of the target a decision says what it says of the call with that text. Where the options name
-- another format than the target's, the format is refused.
pub record HeldSays (d : Decision) (t : Target) (pattern : List ℕ) (o : Options) (less : List Pair)
    (room : ℕ) : Type 0 where
  pub other : (HasFormat o t → ⊥) → d ≡ Refused (Number Format)
  pub same : HasFormat o t → (text : List ℕ) → IsTextOf text t
      → DecisionSays d (call pattern text o less) room

-- This number is told as out of range, and the images are as before.
pub record TellsNumber (n : OutOfRange) (status : ℕ) (before after : List ℕ) (report : Report) : Type 0 where
  pub status_is : status ≡ 3
  pub report_is : report ≡ refusal_report (Number n)
  pub kept : after ≡ before

-- What the status of a call on a handle says. Where no target is held, that is told; where the options name another
-- format than the target's, that. Else it says for each text of the target what it says of the call with that text.
pub record HeldStatus (status : ℕ) (held : Option Target) (pattern : List ℕ) (o : Options) (less : List Pair)
    (before after : List ℕ) (report : Report) : Type 0 where
  pub closed : held ≡ None → TellsNumber Handle status before after report
  pub other : (t : Target) → held ≡ Some t → (HasFormat o t → ⊥)
      → TellsNumber Format status before after report
  pub decided : (t : Target) → held ≡ Some t → HasFormat o t → (text : List ℕ) → IsTextOf text t
      → DecideStatus status (call pattern text o less) before after report
