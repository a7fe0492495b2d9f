-- What the status of a trim says, by the cases of its end.

use Rattle.std.specs.Prelude.{◌≡◌, ℕ, ◌⊎◌, List, Option, Result, Ok, Err, IfErr, refl}
use Rattle.std.proofs.Common.{sym, subst, ◌∙◌, inl, inr, arith}
use Rattle.log_theory.specs.OpbText.{OpbModel}
use Rattle.log_theory.specs.declared.step.Cause.{Cause}
use Rattle.log_theory.specs.declared.step.Verdict.{Verdict}
use Rattle.log_theory.specs.declared.step.Verdict.TheVariants as verdict
use Rattle.log_theory.specs.Verdicts.{verdict_of, IsClaim}
use Rattle.search_theory.specs.Account.{Account}
use Rattle.command_line.specs.declared.commands.TrimWords.{TrimWords}
use Rattle.subgraph_cli.specs.Lines.{refusal_text, log_text}
use Rattle.subgraph_cli.specs.Disk.{Disk, IsUntouched}
use Rattle.subgraph_cli.specs.Streams.{Stream, IsAsBefore, Got, GotFront, Tells}
use Rattle.subgraph_cli.specs.Outcomes.{outcome}
use Rattle.subgraph_cli.specs.Stops.{SparesOutput}
use Rattle.subgraph_cli.specs.Solving.{IsOrStops}
use Rattle.subgraph_cli.specs.Checking.{Holds, IsFirstOfCheck, IsRefusedLog, verdict_of_claim}
use Rattle.subgraph_cli.specs.Trimming.{IsKept, StopsAtTrim, TrimSays, TellsTrimming, TrimStatus, trim_status, kept_text}
use Rattle.subgraph_cli.specs.declared.stop.Role.{Role}
use Rattle.subgraph_cli.specs.declared.stop.TextFault.{TextFault}
use Rattle.subgraph_cli.specs.declared.stop.Stop.{Stop}
use Rattle.subgraph_cli.specs.declared.stop.Stop.TheVariants.{Refused, FilesFault, OutputFault, NoMemory}
use Rattle.subgraph_cli.specs.declared.check.Claim.{Claim}
use Rattle.subgraph_cli.specs.declared.trim.Trimming.{Trimming}
use Rattle.subgraph_cli.specs.declared.trim.Trimming.TheVariants.{Shortened, NotAccepted}
use Rattle.subgraph_cli.proofs.CheckStatuses.{held_not_refused, same_verdict, claim_not_refused}

kept_says : (r : Result Trimming Stop) (w : TrimWords) (e l : Option (List ℕ)) (d : Disk) (out : Stream) → TrimSays r w e l d out → trim_status r ≡ 0
    → (kept : ℕ) × (made : ℕ) × IsKept w e l d kept made × Got out (kept_text kept made)
kept_says (Ok (Shortened kept made)) w e l d out says is = (kept, made, says.0, says.1)
kept_says (Ok (NotAccepted line cause)) w e l d out says is = absurd (omega arith)
kept_says (Err (Refused role fault)) w e l d out says is = absurd (omega arith)
kept_says (Err FilesFault) w e l d out says is = absurd (omega arith)
kept_says (Err OutputFault) w e l d out says is = absurd (omega arith)
kept_says (Err NoMemory) w e l d out says is = absurd (omega arith)

refused_log_says : (r : Result Trimming Stop) (w : TrimWords) (e l : Option (List ℕ)) (d : Disk) (out err : Stream) → TrimSays r w e l d out → TellsTrimming r err → trim_status r ≡ 7
    → (line : ℕ) × (cause : Cause) × IsRefusedLog line cause e l × Tells err (log_text line cause) × IsUntouched d
refused_log_says (Ok (NotAccepted line cause)) w e l d out err says told is = (line, cause, says.0, told, says.1)
refused_log_says (Ok (Shortened kept made)) w e l d out err says told is = absurd (omega arith)
refused_log_says (Err (Refused role fault)) w e l d out err says told is = absurd (omega arith)
refused_log_says (Err FilesFault) w e l d out err says told is = absurd (omega arith)
refused_log_says (Err OutputFault) w e l d out err says told is = absurd (omega arith)
refused_log_says (Err NoMemory) w e l d out err says told is = absurd (omega arith)

refused_says : (r : Result Trimming Stop) (w : TrimWords) (e l : Option (List ℕ)) (d : Disk) (out err : Stream) → TrimSays r w e l d out → TellsTrimming r err → trim_status r ≡ 4
    → (role : Role) × (fault : TextFault) × IsFirstOfCheck e l role fault × Tells err (refusal_text role fault) × IsUntouched d
refused_says (Err (Refused role fault)) w e l d out err says told is = (role, fault, says.0, told, says.1)
refused_says (Ok (Shortened kept made)) w e l d out err says told is = absurd (omega arith)
refused_says (Ok (NotAccepted line cause)) w e l d out err says told is = absurd (omega arith)
refused_says (Err FilesFault) w e l d out err says told is = absurd (omega arith)
refused_says (Err OutputFault) w e l d out err says told is = absurd (omega arith)
refused_says (Err NoMemory) w e l d out err says told is = absurd (omega arith)

fault_says : (r : Result Trimming Stop) (w : TrimWords) (e l : Option (List ℕ)) (d : Disk) (out : Stream) → TrimSays r w e l d out → IfErr r (λ (s : Stop). SparesOutput s out) → trim_status r ≡ 5
    → (IsAsBefore out × StopsAtTrim w e l d) ⊎ ((kept : ℕ) × (made : ℕ) × IsKept w e l d kept made × GotFront out (kept_text kept made))
fault_says (Err FilesFault) w e l d out says spares is = inl (spares, says)
fault_says (Err OutputFault) w e l d out says spares is = inr says
fault_says (Ok (Shortened kept made)) w e l d out says spares is = absurd (omega arith)
fault_says (Ok (NotAccepted line cause)) w e l d out says spares is = absurd (omega arith)
fault_says (Err (Refused role fault)) w e l d out says spares is = absurd (omega arith)
fault_says (Err NoMemory) w e l d out says spares is = absurd (omega arith)

memory_says : (r : Result Trimming Stop) (w : TrimWords) (e l : Option (List ℕ)) (d : Disk) (out : Stream) → TrimSays r w e l d out → trim_status r ≡ 6 → IsUntouched d
memory_says (Err NoMemory) w e l d out says is = says
memory_says (Ok (Shortened kept made)) w e l d out says is = absurd (omega arith)
memory_says (Ok (NotAccepted line cause)) w e l d out says is = absurd (omega arith)
memory_says (Err (Refused role fault)) w e l d out says is = absurd (omega arith)
memory_says (Err FilesFault) w e l d out says is = absurd (omega arith)
memory_says (Err OutputFault) w e l d out says is = absurd (omega arith)

-- A claim is no refusal.
claim_stands : (v : Verdict) (line : ℕ) (cause : Cause) → IsClaim v → v ≡ verdict.Refused line cause → ⊥
claim_stands v line cause claim is = subst IsClaim is claim

accepted_leads : (r : Result Trimming Stop) (w : TrimWords) (e l : Option (List ℕ)) (d : Disk) (out : Stream) → TrimSays r w e l d out
    → (m : OpbModel) (text : List ℕ) (claim : Claim) → Holds e l m text → verdict_of m.variables m.constraints text ≡ verdict_of_claim claim → IsOrStops 0 (trim_status r)
accepted_leads (Ok (Shortened kept made)) w e l d out says m text claim h v = inl refl
accepted_leads (Ok (NotAccepted line cause)) w e l d out says m text claim h v =
    absurd (claim_not_refused claim line cause (sym v ∙ same_verdict e l m says.0.model text says.0.text h says.0.holds ∙ says.0.verdict))
accepted_leads (Err (Refused role fault)) w e l d out says m text claim h v = absurd (held_not_refused e l m text role fault h says.0)
accepted_leads (Err FilesFault) w e l d out says m text claim h v = inr (inl refl)
accepted_leads (Err OutputFault) w e l d out says m text claim h v = inr (inl refl)
accepted_leads (Err NoMemory) w e l d out says m text claim h v = inr (inr refl)

refused_log_leads : (r : Result Trimming Stop) (w : TrimWords) (e l : Option (List ℕ)) (d : Disk) (out : Stream) → TrimSays r w e l d out
    → (m : OpbModel) (text : List ℕ) (line : ℕ) (cause : Cause) → Holds e l m text → verdict_of m.variables m.constraints text ≡ verdict.Refused line cause → IsOrStops 7 (trim_status r)
refused_log_leads (Ok (NotAccepted k why)) w e l d out says m text line cause h v = inl refl
refused_log_leads (Ok (Shortened kept made)) w e l d out says m text line cause h v =
    let t = says.0.trimmed in absurd (claim_stands t.claim line cause t.is_claim (sym t.verdict ∙ same_verdict e l t.model m t.whole text t.holds h ∙ v))
refused_log_leads (Err (Refused role fault)) w e l d out says m text line cause h v = absurd (held_not_refused e l m text role fault h says.0)
refused_log_leads (Err FilesFault) w e l d out says m text line cause h v = inr (inl refl)
refused_log_leads (Err OutputFault) w e l d out says m text line cause h v = inr (inl refl)
refused_log_leads (Err NoMemory) w e l d out says m text line cause h v = inr (inr refl)

refused_leads : (r : Result Trimming Stop) (w : TrimWords) (e l : Option (List ℕ)) (d : Disk) (out : Stream) → TrimSays r w e l d out
    → (role : Role) (fault : TextFault) → IsFirstOfCheck e l role fault → IsOrStops 4 (trim_status r)
refused_leads (Ok (Shortened kept made)) w e l d out says role fault refused = let t = says.0.trimmed in absurd (held_not_refused e l t.model t.whole role fault t.holds refused)
refused_leads (Ok (NotAccepted line cause)) w e l d out says role fault refused = absurd (held_not_refused e l says.0.model says.0.text role fault says.0.holds refused)
refused_leads (Err (Refused who why)) w e l d out says role fault refused = inl refl
refused_leads (Err FilesFault) w e l d out says role fault refused = inr (inl refl)
refused_leads (Err OutputFault) w e l d out says role fault refused = inr (inl refl)
refused_leads (Err NoMemory) w e l d out says role fault refused = inr (inr refl)

-- The status of a trim says what its end says.
pub trim_status_says : (r : Result Trimming Stop) (w : TrimWords) (e l : Option (List ℕ)) (accounts : List Account) (d : Disk) (out err : Stream)
    → TrimSays r w e l d out → IfErr r (λ (s : Stop). SparesOutput s out) → TellsTrimming r err
    → TrimStatus (outcome (trim_status r) accounts d out err) w e l
trim_status_says r w e l accounts d out err says spares told = record {
  kept = kept_says r w e l d out says;
  refused_log = refused_log_says r w e l d out err says told;
  refused = refused_says r w e l d out err says told;
  fault = fault_says r w e l d out says spares;
  no_memory = memory_says r w e l d out says;
  leads = record {
    accepted = accepted_leads r w e l d out says;
    refused_log = refused_log_leads r w e l d out says;
    refused = refused_leads r w e l d out says;
  };
}
