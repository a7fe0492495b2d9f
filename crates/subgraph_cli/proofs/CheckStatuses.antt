-- What the status of a check says, by the cases of its end.

use Rattle.std.specs.Prelude.{◌≡◌, ℕ, ◌^◌, ◌⊎◌, List, length, Option, Some, Result, Ok, Err, IfErr, refl}
use Rattle.std.proofs.Common.{sym, subst, ap, ◌∙◌, inl, inr, arith}
use Rattle.log_theory.specs.OpbText.{OpbModel}
use Rattle.log_theory.specs.OpbReading.{opb_answer}
use Rattle.log_theory.specs.declared.opb.OpbCause.{OpbCause}
use Rattle.log_theory.specs.declared.step.Cause.{Cause}
use Rattle.log_theory.specs.declared.step.Verdict.{Verdict}
use Rattle.log_theory.specs.declared.step.Verdict.TheVariants as verdict
use Rattle.log_theory.specs.Verdicts.{verdict_of, IsClaim}
use Rattle.log_theory.specs.Acceptance.{Accepts}
use Rattle.log_theory.specs.TextLaws.{AnswerLaws, LogLaws}
use Rattle.proof_checker.specs.Filed.{FileSays, IsJudged}
use Rattle.proof_checker.specs.declared.log_file.Checked.TheVariants.{Verdict as Judged}
use Rattle.search_theory.specs.Account.{Account}
use Rattle.subgraph_cli.specs.Lines.{refusal_text, log_text}
use Rattle.subgraph_cli.specs.Disk.{Disk}
use Rattle.subgraph_cli.specs.Streams.{Stream, IsAsBefore, Got, GotFront, Tells}
use Rattle.subgraph_cli.specs.Outcomes.{outcome}
use Rattle.subgraph_cli.specs.Stops.{SparesOutput, IsOfFiles, HasCause}
use Rattle.subgraph_cli.specs.Solving.{IsOrStops}
use Rattle.subgraph_cli.specs.Checking.{HoldsModel, HoldsNoModel, HoldsLog, HoldsNoLog, Holds, IsFirstOfCheck, IsAccepted, IsRefusedLog, CheckSays, TellsChecked, CheckStatus, check_status, verdict_of_claim, claim_text, ModelSays, JudgedSays, VerdictSays, ClaimHolds, TellsVerdict, ToldSays}
use Rattle.subgraph_cli.specs.declared.stop.Role.{Role}
use Rattle.subgraph_cli.specs.declared.stop.Role.TheVariants.{Pattern, Less, Target, Mapping, Encoding, Log, JobList, JobPattern, JobTarget}
use Rattle.subgraph_cli.specs.declared.stop.TextFault.{TextFault}
use Rattle.subgraph_cli.specs.declared.stop.TextFault.TheVariants.{TooLong, Opb}
use Rattle.subgraph_cli.specs.declared.stop.Stop.{Stop}
use Rattle.subgraph_cli.specs.declared.stop.Stop.TheVariants.{Refused, FilesFault, OutputFault, NoMemory}
use Rattle.subgraph_cli.specs.declared.check.Claim.{Claim}
use Rattle.subgraph_cli.specs.declared.check.Claim.TheVariants.{Unsatisfiable, Satisfiable, Undecided}
use Rattle.subgraph_cli.specs.declared.check.Checked.{Checked}
use Rattle.subgraph_cli.specs.declared.check.Checked.TheVariants.{Accepted, NotAccepted}

-- ---- a content is one text, and has one answer

same_bytes : (o : Option (List ℕ)) (a b : List ℕ) → o ≡ Some a → o ≡ Some b → a ≡ b
same_bytes o a b e f = cc

ok_same : (r : Result OpbModel (ℕ × OpbCause)) (m n : OpbModel) → r ≡ Ok m → r ≡ Ok n → m ≡ n
ok_same r m n e f = cc

no_ok_and_err : (r : Result OpbModel (ℕ × OpbCause)) (m : OpbModel) (f : ℕ × OpbCause) → r ≡ Ok m → r ≡ Err f → ⊥
no_ok_and_err r m f a b = cc

one_model : (content : Option (List ℕ)) (m n : OpbModel) → HoldsModel content m → HoldsModel content n → m ≡ n
one_model content m n a b =
    ok_same (opb_answer b.bytes) m n (subst (λ (bytes : List ℕ). opb_answer bytes ≡ Ok m) (same_bytes content a.bytes b.bytes a.there b.there) a.is) b.is

one_log : (content : Option (List ℕ)) (a b : List ℕ) → HoldsLog content a → HoldsLog content b → a ≡ b
one_log content a b x y = same_bytes content a b x.there y.there

model_not_refused : (content : Option (List ℕ)) (m : OpbModel) (fault : TextFault) → HoldsModel content m → HoldsNoModel content fault → ⊥
model_not_refused content m TooLong a b =
    let e = ap length (same_bytes content a.bytes b.bytes a.there b.there) in
    omega (arith, e, a.short, b.is)
model_not_refused content m (Opb n cause) a b =
    no_ok_and_err (opb_answer b.bytes) m (n, cause) (subst (λ (bytes : List ℕ). opb_answer bytes ≡ Ok m) (same_bytes content a.bytes b.bytes a.there b.there) a.is) b.is.1
model_not_refused content m _ a b = b.is

log_not_refused : (content : Option (List ℕ)) (text : List ℕ) (fault : TextFault) → HoldsLog content text → HoldsNoLog content fault → ⊥
log_not_refused content text fault a b =
    let e = ap length (same_bytes content text b.bytes a.there b.there) in
    omega (arith, e, a.short, b.long)

pub held_not_refused : (encoding log : Option (List ℕ)) (m : OpbModel) (text : List ℕ) (role : Role) (fault : TextFault)
    → Holds encoding log m text → IsFirstOfCheck encoding log role fault → ⊥
held_not_refused encoding log m text Encoding fault h r = model_not_refused encoding m fault h.model_is r
held_not_refused encoding log m text Log fault h r = log_not_refused log text fault h.log_is r.log_is
held_not_refused encoding log m text _ fault h r = r

-- The verdict over what the files hold is the one over any model and log that they hold.
pub same_verdict : (encoding log : Option (List ℕ)) (m n : OpbModel) (a b : List ℕ) → Holds encoding log m a → Holds encoding log n b
    → verdict_of m.variables m.constraints a ≡ verdict_of n.variables n.constraints b
same_verdict encoding log m n a b x y =
    ap (λ (k : OpbModel). verdict_of k.variables k.constraints a) (one_model encoding m n x.model_is y.model_is)
    ∙ ap (λ (t : List ℕ). verdict_of n.variables n.constraints t) (one_log log a b x.log_is y.log_is)

pub claim_not_refused : (claim : Claim) (line : ℕ) (cause : Cause) → verdict_of_claim claim ≡ verdict.Refused line cause → ⊥
claim_not_refused Unsatisfiable line cause e = cc
claim_not_refused Satisfiable line cause e = cc
claim_not_refused Undecided line cause e = cc

-- ---- what an end says

accepted_says : (r : Result Checked Stop) (e l : Option (List ℕ)) (out : Stream) → CheckSays r e l out → check_status r ≡ 0
    → (claim : Claim) × IsAccepted claim e l × Got out (claim_text claim)
accepted_says (Ok (Accepted claim)) e l out says is = (claim, says.0, says.1)
accepted_says (Ok (NotAccepted line cause)) e l out says is = absurd (omega arith)
accepted_says (Err (Refused role fault)) e l out says is = absurd (omega arith)
accepted_says (Err FilesFault) e l out says is = absurd (omega arith)
accepted_says (Err OutputFault) e l out says is = absurd (omega arith)
accepted_says (Err NoMemory) e l out says is = absurd (omega arith)

refused_log_says : (r : Result Checked Stop) (e l : Option (List ℕ)) (out err : Stream) → CheckSays r e l out → TellsChecked r err → check_status r ≡ 7
    → (line : ℕ) × (cause : Cause) × IsRefusedLog line cause e l × Tells err (log_text line cause)
refused_log_says (Ok (NotAccepted line cause)) e l out err says told is = (line, cause, says, told)
refused_log_says (Ok (Accepted claim)) e l out err says told is = absurd (omega arith)
refused_log_says (Err (Refused role fault)) e l out err says told is = absurd (omega arith)
refused_log_says (Err FilesFault) e l out err says told is = absurd (omega arith)
refused_log_says (Err OutputFault) e l out err says told is = absurd (omega arith)
refused_log_says (Err NoMemory) e l out err says told is = absurd (omega arith)

refused_says : (r : Result Checked Stop) (e l : Option (List ℕ)) (out err : Stream) → CheckSays r e l out → TellsChecked r err → check_status r ≡ 4
    → (role : Role) × (fault : TextFault) × IsFirstOfCheck e l role fault × Tells err (refusal_text role fault)
refused_says (Err (Refused role fault)) e l out err says told is = (role, fault, says, told)
refused_says (Ok (Accepted claim)) e l out err says told is = absurd (omega arith)
refused_says (Ok (NotAccepted line cause)) e l out err says told is = absurd (omega arith)
refused_says (Err FilesFault) e l out err says told is = absurd (omega arith)
refused_says (Err OutputFault) e l out err says told is = absurd (omega arith)
refused_says (Err NoMemory) e l out err says told is = absurd (omega arith)

fault_says : (r : Result Checked Stop) (e l : Option (List ℕ)) (out : Stream) → CheckSays r e l out
    → IfErr r (λ (s : Stop). SparesOutput s out) → check_status r ≡ 5
    → IsAsBefore out ⊎ ((claim : Claim) × IsAccepted claim e l × GotFront out (claim_text claim))
fault_says (Err FilesFault) e l out says spares is = inl spares
fault_says (Err OutputFault) e l out says spares is = inr says
fault_says (Ok (Accepted claim)) e l out says spares is = absurd (omega arith)
fault_says (Ok (NotAccepted line cause)) e l out says spares is = absurd (omega arith)
fault_says (Err (Refused role fault)) e l out says spares is = absurd (omega arith)
fault_says (Err NoMemory) e l out says spares is = absurd (omega arith)

accepted_leads : (r : Result Checked Stop) (e l : Option (List ℕ)) (out : Stream) → CheckSays r e l out
    → (m : OpbModel) (text : List ℕ) (claim : Claim) → Holds e l m text → verdict_of m.variables m.constraints text ≡ verdict_of_claim claim → IsOrStops 0 (check_status r)
accepted_leads (Ok (Accepted told)) e l out says m text claim h v = inl refl
accepted_leads (Ok (NotAccepted line cause)) e l out says m text claim h v =
    absurd (claim_not_refused claim line cause (sym v ∙ same_verdict e l m says.model text says.text h says.holds ∙ says.verdict))
accepted_leads (Err (Refused role fault)) e l out says m text claim h v = absurd (held_not_refused e l m text role fault h says)
accepted_leads (Err FilesFault) e l out says m text claim h v = inr (inl refl)
accepted_leads (Err OutputFault) e l out says m text claim h v = inr (inl refl)
accepted_leads (Err NoMemory) e l out says m text claim h v = inr (inr refl)

refused_log_leads : (r : Result Checked Stop) (e l : Option (List ℕ)) (out : Stream) → CheckSays r e l out
    → (m : OpbModel) (text : List ℕ) (line : ℕ) (cause : Cause) → Holds e l m text → verdict_of m.variables m.constraints text ≡ verdict.Refused line cause → IsOrStops 7 (check_status r)
refused_log_leads (Ok (NotAccepted k why)) e l out says m text line cause h v = inl refl
refused_log_leads (Ok (Accepted claim)) e l out says m text line cause h v =
    absurd (claim_not_refused claim line cause (sym says.0.verdict ∙ same_verdict e l says.0.model m says.0.text text says.0.holds h ∙ v))
refused_log_leads (Err (Refused role fault)) e l out says m text line cause h v = absurd (held_not_refused e l m text role fault h says)
refused_log_leads (Err FilesFault) e l out says m text line cause h v = inr (inl refl)
refused_log_leads (Err OutputFault) e l out says m text line cause h v = inr (inl refl)
refused_log_leads (Err NoMemory) e l out says m text line cause h v = inr (inr refl)

refused_leads : (r : Result Checked Stop) (e l : Option (List ℕ)) (out : Stream) → CheckSays r e l out
    → (role : Role) (fault : TextFault) → IsFirstOfCheck e l role fault → IsOrStops 4 (check_status r)
refused_leads (Ok (Accepted claim)) e l out says role fault refused = absurd (held_not_refused e l says.0.model says.0.text role fault says.0.holds refused)
refused_leads (Ok (NotAccepted line cause)) e l out says role fault refused = absurd (held_not_refused e l says.model says.text role fault says.holds refused)
refused_leads (Err (Refused who why)) e l out says role fault refused = inl refl
refused_leads (Err FilesFault) e l out says role fault refused = inr (inl refl)
refused_leads (Err OutputFault) e l out says role fault refused = inr (inl refl)
refused_leads (Err NoMemory) e l out says role fault refused = inr (inr refl)

-- The status of a check says what its end says.
pub check_status_says : (r : Result Checked Stop) (e l : Option (List ℕ)) (accounts : List Account) (d : Disk) (out err : Stream)
    → CheckSays r e l out → IfErr r (λ (s : Stop). SparesOutput s out) → TellsChecked r err
    → CheckStatus (outcome (check_status r) accounts d out err) e l
check_status_says r e l accounts d out err says spares told = record {
  accepted = accepted_says r e l out says;
  refused_log = refused_log_says r e l out err says told;
  refused = refused_says r e l out err says told;
  fault = fault_says r e l out says spares;
  leads = record {
    accepted = accepted_leads r e l out says;
    refused_log = refused_log_leads r e l out says;
    refused = refused_leads r e l out says;
  };
}

-- ---- the parts of a check

-- An encoding that is not loaded stops a check.
pub model_stops : (s : Stop) (e l : Option (List ℕ)) (out : Stream) → IsOfFiles s → ModelSays (Err s) e → CheckSays (Err s) e l out
model_stops FilesFault e l out of_files says = tt
model_stops OutputFault e l out of_files says = absurd of_files
model_stops NoMemory e l out of_files says = tt
model_stops (Refused Encoding fault) e l out of_files says = says.1
model_stops (Refused Log fault) e l out of_files says = let x : Log ≡ Encoding = says.0 in cc
model_stops (Refused JobList fault) e l out of_files says = let x : JobList ≡ Encoding = says.0 in cc
model_stops (Refused (JobPattern n) fault) e l out of_files says = let x : JobPattern n ≡ Encoding = says.0 in cc
model_stops (Refused (JobTarget n) fault) e l out of_files says = let x : JobTarget n ≡ Encoding = says.0 in cc
model_stops (Refused Pattern fault) e l out of_files says = let x : Pattern ≡ Encoding = says.0 in cc
model_stops (Refused Less fault) e l out of_files says = let x : Less ≡ Encoding = says.0 in cc
model_stops (Refused Target fault) e l out of_files says = let x : Target ≡ Encoding = says.0 in cc
model_stops (Refused Mapping fault) e l out of_files says = let x : Mapping ≡ Encoding = says.0 in cc

-- A log that is not read to its end stops a check of a model that is held.
pub log_stops : (s : Stop) (m : OpbModel) (e l : Option (List ℕ)) (out : Stream) → IsOfFiles s → JudgedSays (Err s) m l → HoldsModel e m → CheckSays (Err s) e l out
log_stops FilesFault m e l out of_files says held = tt
log_stops OutputFault m e l out of_files says held = absurd of_files
log_stops NoMemory m e l out of_files says held = tt
log_stops (Refused Log fault) m e l out of_files says held = record { model = m; model_is = held; log_is = says.1 }
log_stops (Refused JobList fault) m e l out of_files says held = let x : JobList ≡ Log = says.0 in cc
log_stops (Refused (JobPattern n) fault) m e l out of_files says held = let x : JobPattern n ≡ Log = says.0 in cc
log_stops (Refused (JobTarget n) fault) m e l out of_files says held = let x : JobTarget n ≡ Log = says.0 in cc
log_stops (Refused Encoding fault) m e l out of_files says held = let x : Encoding ≡ Log = says.0 in cc
log_stops (Refused Pattern fault) m e l out of_files says held = let x : Pattern ≡ Log = says.0 in cc
log_stops (Refused Less fault) m e l out of_files says held = let x : Less ≡ Log = says.0 in cc
log_stops (Refused Target fault) m e l out of_files says held = let x : Target ≡ Log = says.0 in cc
log_stops (Refused Mapping fault) m e l out of_files says held = let x : Mapping ≡ Log = says.0 in cc

-- The verdict that was told is what a check says.
pub told_says : (checked : Checked) (m : OpbModel) (text : List ℕ) (e l : Option (List ℕ)) (out : Stream)
    → VerdictSays checked m text → Holds e l m text → ToldSays (Ok tt) checked out → CheckSays (Ok checked) e l out
told_says (Accepted claim) m text e l out says held told =
    (record { model = m; text = text; holds = held; verdict = says.0; accepts = says.1; claim_holds = says.2 }, told)
told_says (NotAccepted line cause) m text e l out says held told = record { model = m; text = text; holds = held; verdict = says.0; refuses = says.1 }

-- The output's fault while the claim is told.
pub untold_says : (s : Stop) (checked : Checked) (m : OpbModel) (text : List ℕ) (e l : Option (List ℕ)) (out : Stream)
    → VerdictSays checked m text → Holds e l m text → ToldSays (Err s) checked out → CheckSays (Err s) e l out
untold_says OutputFault (Accepted claim) m text e l out says held told =
    (claim, record { model = m; text = text; holds = held; verdict = says.0; accepts = says.1; claim_holds = says.2 }, told)
untold_says OutputFault (NotAccepted line cause) m text e l out says held told = absurd told
untold_says FilesFault (Accepted claim) m text e l out says held told = absurd told
untold_says FilesFault (NotAccepted line cause) m text e l out says held told = absurd told
untold_says NoMemory (Accepted claim) m text e l out says held told = absurd told
untold_says NoMemory (NotAccepted line cause) m text e l out says held told = absurd told
untold_says (Refused role fault) (Accepted claim) m text e l out says held told = absurd told
untold_says (Refused role fault) (NotAccepted line cause) m text e l out says held told = absurd told

-- Telling a claim stops for the output alone.
pub claim_cause : (s : Stop) (checked : Checked) (out : Stream) (blame : Disk → Type 0) (d : Disk) → ToldSays (Err s) checked out → HasCause s blame d
claim_cause OutputFault checked out blame d told = tt
claim_cause NoMemory checked out blame d told = tt
claim_cause (Refused role fault) checked out blame d told = tt
claim_cause FilesFault (Accepted claim) out blame d told = absurd told
claim_cause FilesFault (NotAccepted line cause) out blame d told = absurd told

-- ---- the verdict of a log

is_claim : (claim : Claim) → IsClaim (verdict_of_claim claim)
is_claim Unsatisfiable = tt
is_claim Satisfiable = tt
is_claim Undecided = tt

claim_holds : (claim : Claim) (m : OpbModel) (text : List ℕ) → LogLaws → verdict_of m.variables m.constraints text ≡ verdict_of_claim claim → ClaimHolds claim m
claim_holds Unsatisfiable m text laws e = laws.unsatisfiable m.variables m.constraints text e
claim_holds Satisfiable m text laws e = laws.satisfiable m.variables m.constraints text e
claim_holds Undecided m text laws e = tt

claim_says : (claim : Claim) (m : OpbModel) (text : List ℕ) → LogLaws → AnswerLaws → verdict_of m.variables m.constraints text ≡ verdict_of_claim claim → VerdictSays (Accepted claim) m text
claim_says claim m text laws answers e = (
  e,
  subst (λ (v : Verdict). Accepts m.variables m.constraints text v) e (answers.accepted m.variables m.constraints text (subst IsClaim (sym e) (is_claim claim))),
  claim_holds claim m text laws e,
)

judged_claim : (claim : Claim) (f : List ℕ → Verdict) (most : ℕ) (content : Option (List ℕ)) → FileSays (Judged (verdict_of_claim claim)) f most content → IsJudged f most content (verdict_of_claim claim)
judged_claim Unsatisfiable f most content s = s
judged_claim Satisfiable f most content s = s
judged_claim Undecided f most content s = s

-- The answer for a log that was read to its end is its verdict's.
pub judged_says : (r : Result Checked Stop) (v : Verdict) (m : OpbModel) (content : Option (List ℕ)) → LogLaws → AnswerLaws
    → TellsVerdict r v → FileSays (Judged v) (verdict_of m.variables m.constraints) (2 ^ 40) content → JudgedSays r m content
judged_says (Ok (Accepted claim)) v m content laws answers tells says =
    let j = judged_claim claim (verdict_of m.variables m.constraints) (2 ^ 40) content (subst (λ (x : Verdict). FileSays (Judged x) (verdict_of m.variables m.constraints) (2 ^ 40) content) tells says) in
    record { text = j.bytes; log_is = record { there = j.there; short = j.short }; says = claim_says claim m j.bytes laws answers j.is }
judged_says (Ok (NotAccepted line cause)) v m content laws answers tells says =
    let j : IsJudged (verdict_of m.variables m.constraints) (2 ^ 40) content (verdict.Refused line cause) = subst (λ (x : Verdict). FileSays (Judged x) (verdict_of m.variables m.constraints) (2 ^ 40) content) tells says in
    record { text = j.bytes; log_is = record { there = j.there; short = j.short }; says = (j.is, answers.refused m.variables m.constraints j.bytes line cause j.is) }
judged_says (Err NoMemory) v m content laws answers tells says = tt
judged_says (Err FilesFault) v m content laws answers tells says = absurd tells
judged_says (Err OutputFault) v m content laws answers tells says = absurd tells
judged_says (Err (Refused role fault)) v m content laws answers tells says = absurd tells

-- A verdict stops a check for memory alone.
pub verdict_loads : (r : Result Checked Stop) (v : Verdict) → TellsVerdict r v → IfErr r IsOfFiles
verdict_loads (Ok checked) v tells = tt
verdict_loads (Err NoMemory) v tells = tt
verdict_loads (Err FilesFault) v tells = absurd tells
verdict_loads (Err OutputFault) v tells = absurd tells
verdict_loads (Err (Refused role fault)) v tells = absurd tells

pub verdict_causes : (r : Result Checked Stop) (v : Verdict) (blame : Disk → Type 0) (d : Disk) → TellsVerdict r v → IfErr r (λ (s : Stop). HasCause s blame d)
verdict_causes (Ok checked) v blame d tells = tt
verdict_causes (Err NoMemory) v blame d tells = tt
verdict_causes (Err FilesFault) v blame d tells = absurd tells
verdict_causes (Err OutputFault) v blame d tells = absurd tells
verdict_causes (Err (Refused role fault)) v blame d tells = absurd tells
