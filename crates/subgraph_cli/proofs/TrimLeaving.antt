-- What leaving a trimmed log says of a trim.

use Rattle.std.specs.Prelude.{ℕ, List, Option, Result, Ok, Err, IfErr, IsTrue}
use Rattle.std.proofs.Common.{inr}
use Rattle.log_theory.specs.OpbText.{OpbModel}
use Rattle.log_theory.specs.TextLaws.{AnswerLaws}
use Rattle.log_theory.specs.Acceptance.{Accepts}
use Rattle.log_theory.specs.Verdicts.{IsClaim}
use Rattle.log_theory.specs.declared.step.Verdict.{Verdict}
use Rattle.proof_trim.specs.Trimmed.{IsTrimmed}
use Rattle.command_line.specs.declared.commands.TrimWords.{TrimWords}
use Rattle.subgraph_cli.specs.Disk.{Disk}
use Rattle.subgraph_cli.specs.Streams.{Stream, Got}
use Rattle.subgraph_cli.specs.Stops.{HasCause}
use Rattle.subgraph_cli.specs.Checking.{Holds}
use Rattle.subgraph_cli.specs.Trimming.{IsTrimmedLog, IsKept, IsWritingOf, IsFaultOfTrim, TrimSays, CountSays, LeftSays, kept_text}
use Rattle.subgraph_cli.specs.declared.stop.Stop.{Stop}
use Rattle.subgraph_cli.specs.declared.stop.Stop.TheVariants.{Refused, FilesFault, OutputFault, NoMemory}

-- What the trimmer gives of what the files hold is a trimmed log.
pub is_trimmed_log : AnswerLaws → (e l : Option (List ℕ)) (m : OpbModel) (whole text : List ℕ) (kept made : ℕ) → Holds e l m whole
    → IsTrimmed m.constraints whole text made kept
    → ((claim : Verdict) × IsClaim claim × Accepts m.variables m.constraints whole claim × Accepts m.variables m.constraints text claim)
    → IsTrimmedLog e l text kept made
is_trimmed_log laws e l m whole text kept made holds trimmed says = record {
  model = m;
  whole = whole;
  holds = holds;
  claim = says.0;
  is_claim = says.1;
  verdict = laws.accepts m.variables m.constraints whole says.0 says.2;
  accepts = says.2;
  trimmed = trimmed;
  accepted = says.3;
}

-- Where leaving it stops, so does the trim.
pub left_stops : (s : Stop) (w : TrimWords) (e l : Option (List ℕ)) (text : List ℕ) (kept made : ℕ) (d : Disk) (out : Stream)
    → IsTrimmedLog e l text kept made → LeftSays (Err s) w text kept made d out → TrimSays (Err s) w e l d out
left_stops OutputFault w e l text kept made d out trimmed says = (kept, made, record { text = text; trimmed = trimmed; held = says.0 }, says.1)
left_stops FilesFault w e l text kept made d out trimmed says = inr (says.0, record { text = text; kept = kept; made = made; trimmed = trimmed; cut = says.1 })
left_stops NoMemory w e l text kept made d out trimmed says = says
left_stops (Refused role fault) w e l text kept made d out trimmed says = absurd says

-- Its cause is one of a trim.
pub left_cause : (s : Stop) (w : TrimWords) (text : List ℕ) (kept made : ℕ) (d : Disk) (out : Stream)
    → (IsTrue d.tells → IsTrimmedLog (d.content w.encoding) (d.content w.log) text kept made) → (IsTrue d.tells → LeftSays (Err s) w text kept made d out)
    → HasCause s (IsWritingOf w.out) d → HasCause s (IsFaultOfTrim w) d
left_cause FilesFault w text kept made d out trimmed says cause = record {
  rose = cause.rose;
  of_one = inr (cause.of_one, λ told. record { text = text; kept = kept; made = made; trimmed = trimmed told; cut = (says told).1 });
}
left_cause OutputFault w text kept made d out trimmed says cause = tt
left_cause (Refused role fault) w text kept made d out trimmed says cause = tt
left_cause NoMemory w text kept made d out trimmed says cause = tt

-- Telling how much is kept stops for the output alone.
pub count_cause : (r : Result Unit Stop) (kept made : ℕ) (out : Stream) (blame : Disk → Type 0) (d : Disk) → CountSays r kept made out → IfErr r (λ (s : Stop). HasCause s blame d)
count_cause (Ok done) kept made out blame d says = tt
count_cause (Err OutputFault) kept made out blame d says = tt
count_cause (Err FilesFault) kept made out blame d says = absurd says
count_cause (Err NoMemory) kept made out blame d says = tt
count_cause (Err (Refused role fault)) kept made out blame d says = tt

-- Where it is left, the third file holds it, and how much it keeps was written.
pub left_whole : (w : TrimWords) (e l : Option (List ℕ)) (text : List ℕ) (kept made : ℕ) (d : Disk) (out : Stream)
    → IsTrimmedLog e l text kept made → LeftSays (Ok tt) w text kept made d out → IsKept w e l d kept made × Got out (kept_text kept made)
left_whole w e l text kept made d out trimmed says = (record { text = text; trimmed = trimmed; held = says.0 }, says.1)
