-- What a `check` answers.

use Rattle.std.specs.Prelude.{◌≡◌, ℕ, ◌<◌, ◌≤◌, ◌^◌, ◌⊎◌, IsTrue, List, length, Bool, Option, Some, Result, Ok, Err, codes}
use Rattle.proof_theory.specs.Forms.{IsSolution, HasNoSolution}
use Rattle.log_theory.specs.OpbText.{OpbModel}
use Rattle.log_theory.specs.OpbReading.{opb_answer}
use Rattle.log_theory.specs.declared.step.Cause.{Cause}
use Rattle.log_theory.specs.declared.step.Verdict.{Verdict}
use Rattle.log_theory.specs.declared.step.Verdict.TheVariants as verdict
use Rattle.log_theory.specs.Verdicts.{verdict_of}
use Rattle.log_theory.specs.Acceptance.{Accepts, Refuses}
use Rattle.command_line.specs.declared.commands.CheckWords.{CheckWords}
use Rattle.subgraph_cli.specs.Disk.{Disk, IsReadingOf}
use Rattle.subgraph_cli.specs.Lines.{line_of, log_text, refusal_text, stop_text, stop_status}
use Rattle.subgraph_cli.specs.Streams.{Stream, IsAsBefore, Got, GotFront, Tells}
use Rattle.subgraph_cli.specs.Outcomes.{Outcome}
use Rattle.subgraph_cli.specs.Solving.{IsOrStops}
use Rattle.subgraph_cli.specs.declared.stop.Role.{Role}
use Rattle.subgraph_cli.specs.declared.stop.Role.TheVariants.{Encoding, Log}
use Rattle.subgraph_cli.specs.declared.stop.TextFault.{TextFault}
use Rattle.subgraph_cli.specs.declared.stop.TextFault.TheVariants.{TooLong, Opb}
use Rattle.subgraph_cli.specs.declared.stop.Stop.{Stop}
use Rattle.subgraph_cli.specs.declared.stop.Stop.TheVariants.{Refused, FilesFault, OutputFault, NoMemory}
use Rattle.subgraph_cli.specs.declared.check.Claim.{Claim}
use Rattle.subgraph_cli.specs.declared.check.Claim.TheVariants.{Unsatisfiable, Satisfiable, Undecided}
use Rattle.subgraph_cli.specs.declared.check.Checked.{Checked}
use Rattle.subgraph_cli.specs.declared.check.Checked.TheVariants.{Accepted, NotAccepted}

-- The content of a file is the text of this model, within the limit of 2^40 bytes.
pub record HoldsModel (content : Option (List ℕ)) (m : OpbModel) : Type 0 where
  pub bytes : List ℕ
  pub there : content ≡ Some bytes
  pub short : length bytes ≤ 2 ^ 40
  pub is : opb_answer bytes ≡ Ok m

-- Bytes are no model's text, for this fault: they are over the limit, or have a first faulty line.
abbrev pub IsNoModel : List ℕ → TextFault → Type 0
IsNoModel bytes TooLong = 2 ^ 40 < length bytes
IsNoModel bytes (Opb n cause) = (length bytes ≤ 2 ^ 40) × (opb_answer bytes ≡ Err (n, cause))
IsNoModel bytes _ = ⊥

-- The content of a file is no model's text, for this fault.
pub record HoldsNoModel (content : Option (List ℕ)) (fault : TextFault) : Type 0 where
  pub bytes : List ℕ
  pub there : content ≡ Some bytes
  pub is : IsNoModel bytes fault

-- The content of a file is this log, within the limit of 2^40 bytes.
pub record HoldsLog (content : Option (List ℕ)) (log : List ℕ) : Type 0 where
  pub there : content ≡ Some log
  pub short : length log ≤ 2 ^ 40

-- The content of a file is over the limit, which is the only way in which a log's text is refused as a text.
pub record HoldsNoLog (content : Option (List ℕ)) (fault : TextFault) : Type 0 where
  pub bytes : List ℕ
  pub there : content ≡ Some bytes
  pub long : 2 ^ 40 < length bytes
  pub is : fault ≡ TooLong

-- The files hold this model and this log.
pub record Holds (encoding log : Option (List ℕ)) (m : OpbModel) (text : List ℕ) : Type 0 where
  pub model_is : HoldsModel encoding m
  pub log_is : HoldsLog log text

-- The first file holds a model, and the second no log.
pub record LacksLog (encoding log : Option (List ℕ)) (fault : TextFault) : Type 0 where
  pub model : OpbModel
  pub model_is : HoldsModel encoding model
  pub log_is : HoldsNoLog log fault

-- The first of the two files that is not good is this one, for this fault; the log counts only where the model is good.
abbrev pub IsFirstOfCheck : Option (List ℕ) → Option (List ℕ) → Role → TextFault → Type 0
IsFirstOfCheck encoding log Encoding fault = HoldsNoModel encoding fault
IsFirstOfCheck encoding log Log fault = LacksLog encoding log fault
IsFirstOfCheck encoding log _ fault = ⊥

-- The last fault was one of reading the encoding's file, or of reading the log's where the encoding's holds a model.
abbrev pub IsFaultOfCheck : CheckWords → Disk → Type 0
IsFaultOfCheck w d =
    IsReadingOf w.encoding d ⊎ (IsReadingOf w.log d
    × (IsTrue d.tells → (m : OpbModel) × HoldsModel (d.content w.encoding) m))

-- The claim of a last line, as a verdict.
abbrev pub verdict_of_claim : Claim → Verdict
verdict_of_claim Unsatisfiable = verdict.Unsatisfiable
verdict_of_claim Satisfiable = verdict.Satisfiable
verdict_of_claim Undecided = verdict.Undecided

-- What is written for a claim.
abbrev pub claim_text : Claim → List ℕ
claim_text Unsatisfiable = line_of (codes "accepted unsatisfiable")
claim_text Satisfiable = line_of (codes "accepted satisfiable")
claim_text Undecided = line_of (codes "accepted undecided")

-- What a claim that is accepted says of the model.
abbrev pub ClaimHolds : Claim → OpbModel → Type 0
ClaimHolds Unsatisfiable m = HasNoSolution m.variables m.constraints
ClaimHolds Satisfiable m = (a : List Bool) × IsSolution m.variables m.constraints a
ClaimHolds Undecided m = Unit {0}

-- The log that the second file holds is accepted with this claim over the model that the first one holds, and the claim holds.
pub record IsAccepted (claim : Claim) (encoding log : Option (List ℕ)) : Type 0 where
  pub model : OpbModel
  pub text : List ℕ
  pub holds : Holds encoding log model text
  pub verdict : verdict_of model.variables model.constraints text ≡ verdict_of_claim claim
  pub accepts : Accepts model.variables model.constraints text (verdict_of_claim claim)
  pub claim_holds : ClaimHolds claim model

-- It is refused at this line, for this cause.
pub record IsRefusedLog (line : ℕ) (cause : Cause) (encoding log : Option (List ℕ)) : Type 0 where
  pub model : OpbModel
  pub text : List ℕ
  pub holds : Holds encoding log model text
  pub verdict : verdict_of model.variables model.constraints text ≡ verdict.Refused line cause
  pub refuses : Refuses model.variables model.constraints text line cause

-- What a check says: what the log claims, which is written, or why it is refused; or why it stopped.
abbrev pub CheckSays : Result Checked Stop → Option (List ℕ) → Option (List ℕ) → Stream → Type 0
CheckSays (Ok (Accepted claim)) encoding log out =
    IsAccepted claim encoding log × Got out (claim_text claim)
CheckSays (Ok (NotAccepted line cause)) encoding log out = IsRefusedLog line cause encoding log
CheckSays (Err (Refused role fault)) encoding log out = IsFirstOfCheck encoding log role fault
CheckSays (Err OutputFault) encoding log out = (claim : Claim) × IsAccepted claim encoding log
    × GotFront out (claim_text claim)
CheckSays (Err FilesFault) encoding log out = Unit {0}
CheckSays (Err NoMemory) encoding log out = Unit {0}

-- Where the log is refused the output is as it was.
abbrev pub KeepsWhenRefused : Result Checked Stop → Stream → Type 0
KeepsWhenRefused (Ok (Accepted claim)) out = Unit {0}
KeepsWhenRefused (Ok (NotAccepted line cause)) out = IsAsBefore out
KeepsWhenRefused (Err stop) out = Unit {0}

-- The error stream is given a line where the log is refused and where the command stopped, and else nothing.
abbrev pub TellsChecked : Result Checked Stop → Stream → Type 0
TellsChecked (Ok (Accepted claim)) err = IsAsBefore err
TellsChecked (Ok (NotAccepted line cause)) err = Tells err (log_text line cause)
TellsChecked (Err stop) err = Tells err (stop_text stop)

-- The status of an answer.
abbrev pub checked_status : Checked → ℕ
checked_status (Accepted claim) = 0
checked_status (NotAccepted line cause) = 7

abbrev pub check_status : Result Checked Stop → ℕ
check_status (Ok checked) = checked_status checked
check_status (Err stop) = stop_status stop

-- What the files lead to: the definition's answer where both are good, and a refusal where one is not.
pub record CheckLeads (status : ℕ) (encoding log : Option (List ℕ)) : Type 0 where
  pub accepted : (m : OpbModel) (text : List ℕ) (claim : Claim) → Holds encoding log m text
      → verdict_of m.variables m.constraints text ≡ verdict_of_claim claim → IsOrStops 0 status
  pub refused_log : (m : OpbModel) (text : List ℕ) (line : ℕ) (cause : Cause)
      → Holds encoding log m text
      → verdict_of m.variables m.constraints text ≡ verdict.Refused line cause → IsOrStops 7 status
  pub refused : (role : Role) (fault : TextFault) → IsFirstOfCheck encoding log role fault
      → IsOrStops 4 status

-- What the status of a check says, where the files tell their contents.
pub record CheckStatus (o : Outcome) (encoding log : Option (List ℕ)) : Type 0 where
  pub accepted : o.status ≡ 0 → (claim : Claim) × IsAccepted claim encoding log
      × Got o.out (claim_text claim)
  pub refused_log : o.status ≡ 7 → (line : ℕ) × (cause : Cause)
      × IsRefusedLog line cause encoding log × Tells o.err (log_text line cause)
  pub refused : o.status ≡ 4 → (role : Role) × (fault : TextFault)
      × IsFirstOfCheck encoding log role fault × Tells o.err (refusal_text role fault)
  pub fault : o.status ≡ 5 → IsAsBefore o.out
      ⊎ ((claim : Claim) × IsAccepted claim encoding log × GotFront o.out (claim_text claim))
  pub leads : CheckLeads o.status encoding log

-- What loading an encoding answers.
abbrev pub ModelSays : Result OpbModel Stop → Option (List ℕ) → Type 0
ModelSays (Ok m) content = HoldsModel content m
ModelSays (Err (Refused role fault)) content = (role ≡ Encoding) × HoldsNoModel content fault
ModelSays (Err FilesFault) content = Unit {0}
ModelSays (Err OutputFault) content = ⊥
ModelSays (Err NoMemory) content = Unit {0}

-- What the verdict of a log says, as the program tells it.
abbrev pub VerdictSays : Checked → OpbModel → List ℕ → Type 0
VerdictSays (Accepted claim) m log =
    (verdict_of m.variables m.constraints log ≡ verdict_of_claim claim)
    × Accepts m.variables m.constraints log (verdict_of_claim claim) × ClaimHolds claim m
VerdictSays (NotAccepted line cause) m log =
    (verdict_of m.variables m.constraints log ≡ verdict.Refused line cause)
    × Refuses m.variables m.constraints log line cause

-- The content of a file is a log, within the limit of 2^40 bytes, and this is what its verdict says.
pub record IsJudgedLog (checked : Checked) (m : OpbModel) (content : Option (List ℕ)) : Type 0 where
  pub text : List ℕ
  pub log_is : HoldsLog content text
  pub says : VerdictSays checked m text

-- What checking a log as it is read answers.
abbrev pub JudgedSays : Result Checked Stop → OpbModel → Option (List ℕ) → Type 0
JudgedSays (Ok checked) m content = IsJudgedLog checked m content
JudgedSays (Err (Refused role fault)) m content = (role ≡ Log) × HoldsNoLog content fault
JudgedSays (Err FilesFault) m content = Unit {0}
JudgedSays (Err OutputFault) m content = ⊥
JudgedSays (Err NoMemory) m content = Unit {0}

-- What is told of a verdict: its claim, its line and cause, or that memory was refused.
abbrev pub TellsVerdict : Result Checked Stop → Verdict → Type 0
TellsVerdict (Ok (Accepted claim)) v = v ≡ verdict_of_claim claim
TellsVerdict (Ok (NotAccepted line cause)) v = v ≡ verdict.Refused line cause
TellsVerdict (Err NoMemory) v = v ≡ verdict.NoMemory
TellsVerdict (Err FilesFault) v = ⊥
TellsVerdict (Err OutputFault) v = ⊥
TellsVerdict (Err (Refused role fault)) v = ⊥

-- What telling of an answer says: the claim's line was written, or the output failed within it; nothing is written of a log that is not accepted.
abbrev pub ToldSays : Result Unit Stop → Checked → Stream → Type 0
ToldSays (Ok done) (Accepted claim) out = Got out (claim_text claim)
ToldSays (Ok done) (NotAccepted line cause) out = IsAsBefore out
ToldSays (Err OutputFault) (Accepted claim) out = GotFront out (claim_text claim)
ToldSays (Err stop) checked out = ⊥
