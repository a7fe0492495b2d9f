-- What a `trim` answers.

use Rattle.std.specs.Prelude.{◌≡◌, ℕ, ◌⊎◌, IsTrue, List, ◌++◌, ◌∷◌, [], Option, Some, Result, Ok, Err, codes}
use Rattle.std.specs.Fmt.{decimal}
use Rattle.log_theory.specs.OpbText.{OpbModel}
use Rattle.log_theory.specs.declared.step.Cause.{Cause}
use Rattle.log_theory.specs.declared.step.Verdict.{Verdict}
use Rattle.log_theory.specs.declared.step.Verdict.TheVariants as verdict
use Rattle.log_theory.specs.Verdicts.{verdict_of, IsClaim}
use Rattle.log_theory.specs.Acceptance.{Accepts}
use Rattle.outer_io.specs.declared.fault.Purpose.TheVariants.{Writing}
use Rattle.proof_files.specs.OneFile.{IsCutShort}
use Rattle.proof_trim.specs.Trimmed.{IsTrimmed}
use Rattle.command_line.specs.declared.commands.TrimWords.{TrimWords}
use Rattle.subgraph_cli.specs.Disk.{Disk, IsReadingOf, IsUntouched}
use Rattle.subgraph_cli.specs.Lines.{log_text, refusal_text, stop_text, stop_status}
use Rattle.subgraph_cli.specs.Streams.{Stream, IsAsBefore, Got, GotFront, Tells}
use Rattle.subgraph_cli.specs.Outcomes.{Outcome}
use Rattle.subgraph_cli.specs.Solving.{IsOrStops}
use Rattle.subgraph_cli.specs.Checking.{HoldsModel, HoldsNoLog, Holds, IsFirstOfCheck, IsRefusedLog, verdict_of_claim}
use Rattle.subgraph_cli.specs.declared.stop.Role.{Role}
use Rattle.subgraph_cli.specs.declared.stop.Role.TheVariants.{Log}
use Rattle.subgraph_cli.specs.declared.stop.TextFault.{TextFault}
use Rattle.subgraph_cli.specs.declared.stop.Stop.{Stop}
use Rattle.subgraph_cli.specs.declared.stop.Stop.TheVariants.{Refused, FilesFault, OutputFault, NoMemory}
use Rattle.subgraph_cli.specs.declared.check.Claim.{Claim}
use Rattle.subgraph_cli.specs.declared.trim.Trimming.{Trimming}
use Rattle.subgraph_cli.specs.declared.trim.Trimming.TheVariants.{Shortened, NotAccepted}

-- The line that tells how many lines that make a constraint are kept, of how many.
abbrev pub kept_text : ℕ → ℕ → List ℕ
kept_text kept made = codes "kept " ++ decimal kept ++ codes " of " ++ decimal made ++ 10 ∷ []

-- The log that the second file holds is accepted over the model that the first one holds, and this is its trimmed log, which is accepted with the same claim.
pub record IsTrimmedLog (encoding log : Option (List ℕ)) (text : List ℕ)
    (kept made : ℕ) : Type 0 where
  pub model : OpbModel
  pub whole : List ℕ
  pub holds : Holds encoding log model whole
  pub claim : Verdict
  pub is_claim : IsClaim claim
  pub verdict : verdict_of model.variables model.constraints whole ≡ claim
  pub accepts : Accepts model.variables model.constraints whole claim
  pub trimmed : IsTrimmed model.constraints whole text made kept
  pub accepted : Accepts model.variables model.constraints text claim

-- The third file holds the trimmed log.
pub record IsKept (w : TrimWords) (encoding log : Option (List ℕ)) (d : Disk)
    (kept made : ℕ) : Type 0 where
  pub text : List ℕ
  pub trimmed : IsTrimmedLog encoding log text kept made
  pub held : d.after w.out ≡ Some text

-- The third file holds what it held, or a front part of the trimmed log.
pub record IsCut (w : TrimWords) (encoding log : Option (List ℕ)) (d : Disk) : Type 0 where
  pub text : List ℕ
  pub kept : ℕ
  pub made : ℕ
  pub trimmed : IsTrimmedLog encoding log text kept made
  pub cut : IsCutShort (d.content w.out) (d.after w.out) text

-- The last call that failed was one of writing this file.
abbrev pub IsWritingOf : List ℕ → Disk → Type 0
IsWritingOf name d = d.fault_at ≡ Some (name, Writing)

-- The last fault was one of reading the encoding's file, or the log's where the encoding's holds a model.
abbrev pub IsReadingOfTwo : TrimWords → Disk → Type 0
IsReadingOfTwo w d =
    IsReadingOf w.encoding d ⊎ (IsReadingOf w.log d
    × (IsTrue d.tells → (m : OpbModel) × HoldsModel (d.content w.encoding) m))

-- The last fault was one of reading the two files, or of writing the third where the log in the second is accepted.
abbrev pub IsFaultOfTrim : TrimWords → Disk → Type 0
IsFaultOfTrim w d =
    IsReadingOfTwo w d ⊎ (IsWritingOf w.out d
    × (IsTrue d.tells → IsCut w (d.content w.encoding) (d.content w.log) d))

-- A call on the files failed: where the two are read, and no file was written, or where the third is written.
abbrev pub StopsAtTrim : TrimWords → Option (List ℕ) → Option (List ℕ) → Disk → Type 0
StopsAtTrim w encoding log d = (IsReadingOfTwo w d × IsUntouched d)
    ⊎ (IsWritingOf w.out d × IsCut w encoding log d)

-- What a trim says: the third file holds the trimmed log, and how much it keeps was written; or why the log is refused; or why it stopped. The third file is untouched but where the log is accepted.
abbrev pub TrimSays : Result Trimming Stop → TrimWords → Option (List ℕ) → Option (List ℕ) → Disk
    → Stream → Type 0
TrimSays (Ok (Shortened kept made)) w encoding log d out =
    IsKept w encoding log d kept made × Got out (kept_text kept made)
TrimSays (Ok (NotAccepted line cause)) w encoding log d out =
    IsRefusedLog line cause encoding log × IsUntouched d
TrimSays (Err (Refused role fault)) w encoding log d out =
    IsFirstOfCheck encoding log role fault × IsUntouched d
TrimSays (Err OutputFault) w encoding log d out = (kept : ℕ) × (made : ℕ)
    × IsKept w encoding log d kept made × GotFront out (kept_text kept made)
TrimSays (Err FilesFault) w encoding log d out = StopsAtTrim w encoding log d
TrimSays (Err NoMemory) w encoding log d out = IsUntouched d

-- Where the log is refused the output is as it was.
abbrev pub KeepsWhenShort : Result Trimming Stop → Stream → Type 0
KeepsWhenShort (Ok (Shortened kept made)) out = Unit {0}
KeepsWhenShort (Ok (NotAccepted line cause)) out = IsAsBefore out
KeepsWhenShort (Err stop) out = Unit {0}

-- The error stream is given a line where the log is refused and where the command stopped, and else nothing.
abbrev pub TellsTrimming : Result Trimming Stop → Stream → Type 0
TellsTrimming (Ok (Shortened kept made)) err = IsAsBefore err
TellsTrimming (Ok (NotAccepted line cause)) err = Tells err (log_text line cause)
TellsTrimming (Err stop) err = Tells err (stop_text stop)

-- The status of an answer.
abbrev pub trimming_status : Trimming → ℕ
trimming_status (Shortened kept made) = 0
trimming_status (NotAccepted line cause) = 7

abbrev pub trim_status : Result Trimming Stop → ℕ
trim_status (Ok trimming) = trimming_status trimming
trim_status (Err stop) = stop_status stop

-- What the files lead to: a trimmed log where the log is accepted, and a refusal where it is not or where a text is not good.
pub record TrimLeads (status : ℕ) (encoding log : Option (List ℕ)) : Type 0 where
  pub accepted : (m : OpbModel) (text : List ℕ) (claim : Claim) → Holds encoding log m text
      → verdict_of m.variables m.constraints text ≡ verdict_of_claim claim → IsOrStops 0 status
  pub refused_log : (m : OpbModel) (text : List ℕ) (line : ℕ) (cause : Cause)
      → Holds encoding log m text
      → verdict_of m.variables m.constraints text ≡ verdict.Refused line cause → IsOrStops 7 status
  pub refused : (role : Role) (fault : TextFault) → IsFirstOfCheck encoding log role fault
      → IsOrStops 4 status

-- What the status of a trim says, where the files tell their contents.
pub record TrimStatus (o : Outcome) (w : TrimWords)
    (encoding log : Option (List ℕ)) : Type 0 where
  pub kept : o.status ≡ 0 → (kept : ℕ) × (made : ℕ) × IsKept w encoding log o.disk kept made
      × Got o.out (kept_text kept made)
  pub refused_log : o.status ≡ 7 → (line : ℕ) × (cause : Cause)
      × IsRefusedLog line cause encoding log × Tells o.err (log_text line cause)
      × IsUntouched o.disk
  pub refused : o.status ≡ 4 → (role : Role) × (fault : TextFault)
      × IsFirstOfCheck encoding log role fault × Tells o.err (refusal_text role fault)
      × IsUntouched o.disk
  pub fault : o.status ≡ 5 → (IsAsBefore o.out × StopsAtTrim w encoding log o.disk)
      ⊎ ((kept : ℕ) × (made : ℕ) × IsKept w encoding log o.disk kept made
      × GotFront o.out (kept_text kept made))
  pub no_memory : o.status ≡ 6 → IsUntouched o.disk
  pub leads : TrimLeads o.status encoding log

-- ---- the parts of a trim

-- Why no log is loaded: its file is over the limit, or a call failed, or memory was refused.
abbrev pub NoLog : Stop → Option (List ℕ) → Type 0
NoLog (Refused role fault) content = (role ≡ Log) × HoldsNoLog content fault
NoLog FilesFault content = Unit {0}
NoLog OutputFault content = ⊥
NoLog NoMemory content = Unit {0}

-- Why not both of a model and a log are loaded.
abbrev pub NotBoth : Stop → Option (List ℕ) → Option (List ℕ) → Type 0
NotBoth (Refused role fault) encoding log = IsFirstOfCheck encoding log role fault
NotBoth FilesFault encoding log = Unit {0}
NotBoth OutputFault encoding log = ⊥
NotBoth NoMemory encoding log = Unit {0}

-- What writing the third file answers: it holds the text, or a front part of it, or memory was refused before it was touched.
abbrev pub OutSays : Result Unit Stop → List ℕ → List ℕ → Disk → Type 0
OutSays (Ok done) name text d = d.after name ≡ Some text
OutSays (Err FilesFault) name text d =
    IsWritingOf name d × IsCutShort (d.content name) (d.after name) text
OutSays (Err NoMemory) name text d = IsUntouched d
OutSays (Err OutputFault) name text d = ⊥
OutSays (Err (Refused role fault)) name text d = ⊥

-- What telling how much is kept says.
abbrev pub CountSays : Result Unit Stop → ℕ → ℕ → Stream → Type 0
CountSays (Ok done) kept made out = Got out (kept_text kept made)
CountSays (Err OutputFault) kept made out = GotFront out (kept_text kept made)
CountSays (Err FilesFault) kept made out = ⊥
CountSays (Err NoMemory) kept made out = ⊥
CountSays (Err (Refused role fault)) kept made out = ⊥

-- What leaving a trimmed log says: the third file holds it, and how much it keeps was written; or why that stopped.
abbrev pub LeftSays : Result Unit Stop → TrimWords → List ℕ → ℕ → ℕ → Disk → Stream → Type 0
LeftSays (Ok done) w text kept made d out =
    (d.after w.out ≡ Some text) × Got out (kept_text kept made)
LeftSays (Err OutputFault) w text kept made d out =
    (d.after w.out ≡ Some text) × GotFront out (kept_text kept made)
LeftSays (Err FilesFault) w text kept made d out =
    IsWritingOf w.out d × IsCutShort (d.content w.out) (d.after w.out) text
LeftSays (Err NoMemory) w text kept made d out = IsUntouched d
LeftSays (Err (Refused role fault)) w text kept made d out = ⊥
