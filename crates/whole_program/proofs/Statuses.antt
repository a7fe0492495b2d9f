-- What a batch came to is what its run says.

use Rattle.std.specs.Prelude.{◌≡◌, ℕ, ◌≤◌, ◌⊎◌, Bool, true, false, IsTrue, List, if◌then◌else◌, Option, Some, Result, Ok, Err, IfErr, IsErrOf, refl}
use Rattle.std.proofs.Common.{inl, inr, ap, sym, subst, ◌∙◌, arith}
use Rattle.std.specs.List.{All}
use Rattle.graph_theory.specs.LadFault.{TextLaws}
use Rattle.graph_theory.specs.Embedding.{Problem}
use Rattle.search_theory.specs.Account.{Account}
use Rattle.job_list.specs.Jobs.{JobText}
use Rattle.command_line.specs.declared.batch.BatchWords.{BatchWords}
use Rattle.subgraph_cli.specs.Lines.{refusal_text, stop_status, stop_text}
use Rattle.subgraph_cli.specs.Disk.{Disk, IsReadingOf, IsUntouched}
use Rattle.subgraph_cli.specs.Streams.{Stream, IsAsBefore, Tells}
use Rattle.subgraph_cli.specs.Outcomes.{Outcome, outcome, IsQuiet}
use Rattle.subgraph_cli.specs.Stops.{HasCause, IsOfFiles, SparesOutput, TellsStop, TellsFault}
use Rattle.subgraph_cli.specs.Completeness.{HasNoFault, IsOrNoMemory}
use Rattle.subgraph_cli.specs.Solving.{IsOrStops}
use Rattle.subgraph_cli.specs.declared.stop.Role.{Role}
use Rattle.subgraph_cli.specs.declared.stop.Role.TheVariants.{Pattern, Less, Target, Mapping, Encoding, Log, JobList, JobPattern, JobTarget}
use Rattle.subgraph_cli.specs.declared.stop.TextFault.{TextFault}
use Rattle.subgraph_cli.specs.declared.stop.Stop.{Stop}
use Rattle.subgraph_cli.specs.declared.stop.Stop.TheVariants.{Refused, FilesFault, OutputFault, NoMemory}
use Rattle.subgraph_cli.proofs.Ends.{ok_quiet, stop_quiet}
use Rattle.whole_program.specs.Jobs.{HoldsList, HoldsNoList, ListSays, AreAsked, JobsSay, IsFaultOfJobs}
use Rattle.whole_program.specs.Texts.{verdicts_text}
use Rattle.whole_program.specs.Verdicts.{AreRight}
use Rattle.whole_program.specs.Batches.{are_decided, batched_of, Decides, BatchWritten, StopsInBatch, IsFirstOfBatch, IsFaultOfBatch, BatchSays, TellingBatch, batch_status, IsEnough, BatchLeads, BatchStatus, IsBatchStatus, BatchEnds, IsBatchWhole, BatchRan}
use Rattle.whole_program.specs.declared.batch.Batched.{Batched}
use Rattle.whole_program.specs.declared.batch.Batched.TheVariants.{AllDecided, SomeUnknown}
use Rattle.whole_program.specs.declared.verdict.JobVerdict.{JobVerdict}
use Rattle.whole_program.proofs.OneBatch.{one_list, one_asked, batch_not_refused, enough_decides}

-- ---- the parts of a batch

-- A list that is not loaded stops a batch.
pub list_stops : (s : Stop) (w : BatchWords) (content : List ℕ → Option (List ℕ)) (accounts : List Account) (out : Stream)
    → ListSays (Err s) (content w.list) → BatchSays (Err s) w content accounts out
list_stops FilesFault w content accounts out says = tt
list_stops OutputFault w content accounts out says = absurd says
list_stops NoMemory w content accounts out says = tt
list_stops (Refused role fault) w content accounts out says = subst (λ (r : Role). IsFirstOfBatch w content r fault) (sym says.0) says.1

-- So does a job whose problem is not loaded, where the list is.
pub jobs_stop : (s : Stop) (w : BatchWords) (content : List ℕ → Option (List ℕ)) (accounts : List Account) (out : Stream) (jobs : List JobText)
    → HoldsList (content w.list) jobs → JobsSay (Err s) jobs content w.format → BatchSays (Err s) w content accounts out
jobs_stop FilesFault w content accounts out jobs holds says = tt
jobs_stop OutputFault w content accounts out jobs holds says = absurd says
jobs_stop NoMemory w content accounts out jobs holds says = tt
jobs_stop (Refused (JobPattern n) fault) w content accounts out jobs holds says = (jobs, holds, says)
jobs_stop (Refused (JobTarget n) fault) w content accounts out jobs holds says = (jobs, holds, says)
jobs_stop (Refused JobList fault) w content accounts out jobs holds says = absurd says
jobs_stop (Refused Less fault) w content accounts out jobs holds says = absurd says
jobs_stop (Refused Pattern fault) w content accounts out jobs holds says = absurd says
jobs_stop (Refused Target fault) w content accounts out jobs holds says = absurd says
jobs_stop (Refused Mapping fault) w content accounts out jobs holds says = absurd says
jobs_stop (Refused Encoding fault) w content accounts out jobs holds says = absurd says
jobs_stop (Refused Log fault) w content accounts out jobs holds says = absurd says

-- Right verdicts of the problems that the files ask, and what telling them says.
pub telling_says : (r : Result Batched Stop) (vs : List JobVerdict) (w : BatchWords) (content : List ℕ → Option (List ℕ)) (jobs : List JobText) (qs : List Problem) (accounts : List Account) (out : Stream)
    → HoldsList (content w.list) jobs → AreAsked content w.format jobs qs → AreRight w.budget qs vs accounts → TellingBatch r vs out → BatchSays r w content accounts out
telling_says (Ok batched) vs w content jobs qs accounts out holds asked right says = record {
  text = verdicts_text vs;
  decides = record { jobs = jobs; problems = qs; verdicts = vs; list_is = holds; asked = asked; right = right; batched_is = says.0; text_is = refl };
  written = says.1;
}
telling_says (Err OutputFault) vs w content jobs qs accounts out holds asked right says = record {
  batched = batched_of vs;
  text = verdicts_text vs;
  decides = record { jobs = jobs; problems = qs; verdicts = vs; list_is = holds; asked = asked; right = right; batched_is = refl; text_is = refl };
  front = says;
}
telling_says (Err FilesFault) vs w content jobs qs accounts out holds asked right says = absurd says
telling_says (Err NoMemory) vs w content jobs qs accounts out holds asked right says = absurd says
telling_says (Err (Refused role fault)) vs w content jobs qs accounts out holds asked right says = absurd says

-- A cause of reading the list, or of reading the jobs' files, is one of a batch.
pub list_cause : (s : Stop) (w : BatchWords) (d : Disk) → HasCause s (IsReadingOf w.list) d → HasCause s (IsFaultOfBatch w) d
list_cause FilesFault w d cause = record { rose = cause.rose; of_one = inl cause.of_one }
list_cause OutputFault w d cause = tt
list_cause (Refused role fault) w d cause = tt
list_cause NoMemory w d cause = tt

pub jobs_cause : (s : Stop) (w : BatchWords) (d : Disk) (jobs : List JobText) → HasCause s (IsFaultOfJobs jobs w.format) d
    → (IsTrue d.tells → HoldsList (d.content w.list) jobs) → HasCause s (IsFaultOfBatch w) d
jobs_cause FilesFault w d jobs cause holds = record { rose = cause.rose; of_one = inr (jobs, holds, cause.of_one) }
jobs_cause OutputFault w d jobs cause holds = tt
jobs_cause (Refused role fault) w d jobs cause holds = tt
jobs_cause NoMemory w d jobs cause holds = tt

-- Telling verdicts stops for the output alone.
pub telling_cause : (r : Result Batched Stop) (vs : List JobVerdict) (out : Stream) (blame : Disk → Type 0) (d : Disk)
    → TellingBatch r vs out → IfErr r (λ (s : Stop). HasCause s blame d)
telling_cause (Ok batched) vs out blame d says = tt
telling_cause (Err OutputFault) vs out blame d says = tt
telling_cause (Err NoMemory) vs out blame d says = absurd says
telling_cause (Err FilesFault) vs out blame d says = absurd says
telling_cause (Err (Refused role fault)) vs out blame d says = absurd says

-- ---- its status

decided_says : (r : Result Batched Stop) (w : BatchWords) (content : List ℕ → Option (List ℕ)) (accounts : List Account) (out : Stream)
    → BatchSays r w content accounts out → batch_status r ≡ 0 → BatchWritten w content accounts AllDecided out
decided_says (Ok AllDecided) w content accounts out says e = says
decided_says (Ok SomeUnknown) w content accounts out says e = absurd (omega arith)
decided_says (Err (Refused role fault)) w content accounts out says e = absurd (omega arith)
decided_says (Err FilesFault) w content accounts out says e = absurd (omega arith)
decided_says (Err OutputFault) w content accounts out says e = absurd (omega arith)
decided_says (Err NoMemory) w content accounts out says e = absurd (omega arith)

unknown_says : (r : Result Batched Stop) (w : BatchWords) (content : List ℕ → Option (List ℕ)) (accounts : List Account) (out : Stream)
    → BatchSays r w content accounts out → batch_status r ≡ 2 → BatchWritten w content accounts SomeUnknown out
unknown_says (Ok SomeUnknown) w content accounts out says e = says
unknown_says (Ok AllDecided) w content accounts out says e = absurd (omega arith)
unknown_says (Err (Refused role fault)) w content accounts out says e = absurd (omega arith)
unknown_says (Err FilesFault) w content accounts out says e = absurd (omega arith)
unknown_says (Err OutputFault) w content accounts out says e = absurd (omega arith)
unknown_says (Err NoMemory) w content accounts out says e = absurd (omega arith)

refused_says : (r : Result Batched Stop) (w : BatchWords) (content : List ℕ → Option (List ℕ)) (accounts : List Account) (out err : Stream)
    → BatchSays r w content accounts out → TellsStop r err → batch_status r ≡ 4
    → (role : Role) × (fault : TextFault) × IsFirstOfBatch w content role fault × Tells err (refusal_text role fault)
refused_says (Err (Refused role fault)) w content accounts out err says line e = (role, fault, says, line)
refused_says (Ok AllDecided) w content accounts out err says line e = absurd (omega arith)
refused_says (Ok SomeUnknown) w content accounts out err says line e = absurd (omega arith)
refused_says (Err FilesFault) w content accounts out err says line e = absurd (omega arith)
refused_says (Err OutputFault) w content accounts out err says line e = absurd (omega arith)
refused_says (Err NoMemory) w content accounts out err says line e = absurd (omega arith)

fault_says : (r : Result Batched Stop) (w : BatchWords) (content : List ℕ → Option (List ℕ)) (accounts : List Account) (out : Stream)
    → BatchSays r w content accounts out → IfErr r (λ (s : Stop). SparesOutput s out) → batch_status r ≡ 5
    → IsAsBefore out ⊎ StopsInBatch w content accounts out
fault_says (Err FilesFault) w content accounts out says spares e = inl spares
fault_says (Err OutputFault) w content accounts out says spares e = inr says
fault_says (Ok AllDecided) w content accounts out says spares e = absurd (omega arith)
fault_says (Ok SomeUnknown) w content accounts out says spares e = absurd (omega arith)
fault_says (Err (Refused role fault)) w content accounts out says spares e = absurd (omega arith)
fault_says (Err NoMemory) w content accounts out says spares e = absurd (omega arith)

-- Jobs that ask problems lead to an answer.
answered_leads : TextLaws → (r : Result Batched Stop) (w : BatchWords) (content : List ℕ → Option (List ℕ)) (accounts : List Account) (out : Stream) → BatchSays r w content accounts out
    → (jobs : List JobText) (qs : List Problem) → HoldsList (content w.list) jobs → AreAsked content w.format jobs qs → (batch_status r ≡ 0) ⊎ IsOrStops 2 (batch_status r)
answered_leads laws (Ok AllDecided) w content accounts out says jobs qs holds asked = inl refl
answered_leads laws (Ok SomeUnknown) w content accounts out says jobs qs holds asked = inr (inl refl)
answered_leads laws (Err (Refused role fault)) w content accounts out says jobs qs holds asked = absurd (batch_not_refused laws w content jobs qs role fault holds asked says)
answered_leads laws (Err FilesFault) w content accounts out says jobs qs holds asked = inr (inr (inl refl))
answered_leads laws (Err OutputFault) w content accounts out says jobs qs holds asked = inr (inr (inl refl))
answered_leads laws (Err NoMemory) w content accounts out says jobs qs holds asked = inr (inr (inr refl))

-- A budget that is enough for each problem leads to no `unknown`.
none_unknown : TextLaws → (w : BatchWords) (content : List ℕ → Option (List ℕ)) (accounts : List Account) (text : List ℕ) → Decides w content accounts SomeUnknown text
    → (jobs : List JobText) (qs : List Problem) → HoldsList (content w.list) jobs → AreAsked content w.format jobs qs → All (IsEnough w.budget) qs → ⊥
none_unknown laws w content accounts text d jobs qs holds asked most =
    let lists : jobs ≡ d.jobs = one_list (content w.list) jobs d.jobs holds d.list_is in
    let same : qs ≡ d.problems = one_asked laws content w.format d.jobs qs d.problems (subst (λ (js : List JobText). AreAsked content w.format js qs) lists asked) d.asked in
    let all : are_decided d.verdicts ≡ true = enough_decides w.budget d.problems d.verdicts accounts d.right (subst (λ (ps : List Problem). All (IsEnough w.budget) ps) same most) in
    let is : SomeUnknown ≡ AllDecided = d.batched_is ∙ ap (λ (b : Bool). if b then AllDecided else SomeUnknown) all in cc

enough_leads : TextLaws → (r : Result Batched Stop) (w : BatchWords) (content : List ℕ → Option (List ℕ)) (accounts : List Account) (out : Stream) → BatchSays r w content accounts out
    → (jobs : List JobText) (qs : List Problem) → HoldsList (content w.list) jobs → AreAsked content w.format jobs qs → All (IsEnough w.budget) qs → batch_status r ≡ 2 → ⊥
enough_leads laws (Ok SomeUnknown) w content accounts out says jobs qs holds asked most e = none_unknown laws w content accounts says.text says.decides jobs qs holds asked most
enough_leads laws (Ok AllDecided) w content accounts out says jobs qs holds asked most e = omega arith
enough_leads laws (Err (Refused role fault)) w content accounts out says jobs qs holds asked most e = omega arith
enough_leads laws (Err FilesFault) w content accounts out says jobs qs holds asked most e = omega arith
enough_leads laws (Err OutputFault) w content accounts out says jobs qs holds asked most e = omega arith
enough_leads laws (Err NoMemory) w content accounts out says jobs qs holds asked most e = omega arith

-- Where a text is refused that is told.
refused_leads : TextLaws → (r : Result Batched Stop) (w : BatchWords) (content : List ℕ → Option (List ℕ)) (accounts : List Account) (out : Stream) → BatchSays r w content accounts out
    → (role : Role) (fault : TextFault) → IsFirstOfBatch w content role fault → IsOrStops 4 (batch_status r)
refused_leads laws (Ok batched) w content accounts out says role fault refused =
    absurd (batch_not_refused laws w content says.decides.jobs says.decides.problems role fault says.decides.list_is says.decides.asked refused)
refused_leads laws (Err (Refused who why)) w content accounts out says role fault refused = inl refl
refused_leads laws (Err FilesFault) w content accounts out says role fault refused = inr (inl refl)
refused_leads laws (Err OutputFault) w content accounts out says role fault refused = inr (inl refl)
refused_leads laws (Err NoMemory) w content accounts out says role fault refused = inr (inr refl)

status_says : TextLaws → (r : Result Batched Stop) (w : BatchWords) (content : List ℕ → Option (List ℕ)) (accounts : List Account) (d : Disk) (out err : Stream)
    → BatchSays r w content accounts out → IfErr r (λ (s : Stop). SparesOutput s out) → TellsStop r err
    → BatchStatus (outcome (batch_status r) accounts d out err) w content
status_says laws r w content accounts d out err says spares line = record {
  decided = decided_says r w content accounts out says;
  unknown = unknown_says r w content accounts out says;
  refused = refused_says r w content accounts out err says line;
  fault = fault_says r w content accounts out says spares;
  leads = record {
    answered = answered_leads laws r w content accounts out says;
    enough = enough_leads laws r w content accounts out says;
    refused = refused_leads laws r w content accounts out says;
  };
}

-- ---- how it ends

answer_ends : (w : BatchWords) (n : ℕ) (accounts : List Account) (d : Disk) (out err : Stream) → n ≤ 2 → IsBatchStatus n → IsAsBefore err
    → IsQuiet (outcome n accounts d out err) → BatchEnds w (outcome n accounts d out err)
answer_ends w n accounts d out err low status silent quiet = record {
  status = status;
  fault = λ e. absurd (omega arith);
  told = record { silent = λ _. silent; no_command = λ e. absurd (omega arith); refused = λ e. absurd (omega arith); no_memory = λ e. absurd (omega arith) };
  kept = record { no_command = λ e. absurd (omega arith); refused = λ e. absurd (omega arith); no_memory = λ p e. absurd (omega arith); bad = λ e. absurd (omega arith) };
  quiet = inr quiet;
}

refusal_ends : (w : BatchWords) (role : Role) (fault : TextFault) (accounts : List Account) (d : Disk) (out err : Stream) → IsAsBefore out → Tells err (stop_text (Refused role fault))
    → IsQuiet (outcome 4 accounts d out err) → BatchEnds w (outcome 4 accounts d out err)
refusal_ends w role fault accounts d out err kept line quiet = record {
  status = inr (inr (inl refl));
  fault = λ e. absurd (omega arith);
  told = record { silent = λ e. absurd (omega arith); no_command = λ e. absurd (omega arith); refused = λ _. (role, fault, line); no_memory = λ e. absurd (omega arith) };
  kept = record { no_command = λ e. absurd (omega arith); refused = λ _. kept; no_memory = λ p e. absurd (omega arith); bad = λ e. absurd (omega arith) };
  quiet = inr quiet;
}

fault_ends : (w : BatchWords) (accounts : List Account) (d : Disk) (out err : Stream) → TellsFault (IsFaultOfBatch w) d out err → BatchEnds w (outcome 5 accounts d out err)
fault_ends w accounts d out err fault = record {
  status = inr (inr (inr (inl refl)));
  fault = λ _. fault;
  told = record { silent = λ e. absurd (omega arith); no_command = λ e. absurd (omega arith); refused = λ e. absurd (omega arith); no_memory = λ e. absurd (omega arith) };
  kept = record { no_command = λ e. absurd (omega arith); refused = λ e. absurd (omega arith); no_memory = λ p e. absurd (omega arith); bad = λ e. absurd (omega arith) };
  quiet = inl refl;
}

memory_ends : (w : BatchWords) (accounts : List Account) (d : Disk) (out err : Stream) → IsAsBefore out → Tells err (stop_text NoMemory)
    → IsQuiet (outcome 6 accounts d out err) → BatchEnds w (outcome 6 accounts d out err)
memory_ends w accounts d out err kept line quiet = record {
  status = inr (inr (inr (inr refl)));
  fault = λ e. absurd (omega arith);
  told = record { silent = λ e. absurd (omega arith); no_command = λ e. absurd (omega arith); refused = λ e. absurd (omega arith); no_memory = λ _. line };
  kept = record { no_command = λ e. absurd (omega arith); refused = λ e. absurd (omega arith); no_memory = λ p _. kept; bad = λ e. absurd (omega arith) };
  quiet = inr quiet;
}

answer_quiet : (b : Batched) (n : ℕ) (accounts : List Account) (d : Disk) (out err : Stream)
    → (IsErrOf (Ok b) FilesFault ⊎ (d.faults_after ≡ d.faults_before)) → (IsErrOf (Ok b) OutputFault ⊎ (out.faults_after ≡ out.faults_before))
    → IsQuiet (outcome n accounts d out err)
answer_quiet b n accounts d out err files output = record {
  files = ok_quiet b FilesFault d.faults_before d.faults_after files;
  output = ok_quiet b OutputFault out.faults_before out.faults_after output;
}

ends : (r : Result Batched Stop) (w : BatchWords) (accounts : List Account) (d : Disk) (out err : Stream)
    → IfErr r (λ (s : Stop). HasCause s (IsFaultOfBatch w) d) → IfErr r (λ (s : Stop). SparesOutput s out)
    → (IsErrOf r FilesFault ⊎ (d.faults_after ≡ d.faults_before)) → (IsErrOf r OutputFault ⊎ (out.faults_after ≡ out.faults_before))
    → TellsStop r err → BatchEnds w (outcome (batch_status r) accounts d out err)
ends (Ok AllDecided) w accounts d out err cause spares files output line =
    answer_ends w 0 accounts d out err (omega arith) (inl refl) line (answer_quiet AllDecided 0 accounts d out err files output)
ends (Ok SomeUnknown) w accounts d out err cause spares files output line =
    answer_ends w 2 accounts d out err (omega arith) (inr (inl refl)) line (answer_quiet SomeUnknown 2 accounts d out err files output)
ends (Err (Refused role fault)) w accounts d out err cause spares files output line =
    refusal_ends w role fault accounts d out err spares line record {
      files = stop_quiet {A = Batched} (Err (Refused role fault)) (Refused role fault) FilesFault d.faults_before d.faults_after refl (λ (e : Refused role fault ≡ FilesFault). cc) files;
      output = stop_quiet {A = Batched} (Err (Refused role fault)) (Refused role fault) OutputFault out.faults_before out.faults_after refl (λ (e : Refused role fault ≡ OutputFault). cc) output;
    }
ends (Err FilesFault) w accounts d out err cause spares files output line = fault_ends w accounts d out err (inl (cause, spares, line))
ends (Err OutputFault) w accounts d out err cause spares files output line = fault_ends w accounts d out err (inr (spares, line))
ends (Err NoMemory) w accounts d out err cause spares files output line =
    memory_ends w accounts d out err spares line record {
      files = stop_quiet {A = Batched} (Err NoMemory) NoMemory FilesFault d.faults_before d.faults_after refl (λ (e : NoMemory ≡ FilesFault). cc) files;
      output = stop_quiet {A = Batched} (Err NoMemory) NoMemory OutputFault out.faults_before out.faults_after refl (λ (e : NoMemory ≡ OutputFault). cc) output;
    }

-- ---- its run

no_fault : (w : BatchWords) (o : Outcome) → HasNoFault o → TellsFault (IsFaultOfBatch w) o.disk o.out o.err → ⊥
no_fault w o none (inl files) = none.files files.0.rose
no_fault w o none (inr output) = none.output output.0

or_no_memory : (due status : ℕ) → (status ≡ 5 → ⊥) → IsOrStops due status → IsOrNoMemory due status
or_no_memory due status none (inl is) = inl is
or_no_memory due status none (inr (inl fault)) = absurd (none fault)
or_no_memory due status none (inr (inr memory)) = inr memory

answered : (status : ℕ) → (status ≡ 5 → ⊥) → (status ≡ 0) ⊎ IsOrStops 2 status → (status ≡ 0) ⊎ IsOrNoMemory 2 status
answered status none (inl decided) = inl decided
answered status none (inr rest) = inr (or_no_memory 2 status none rest)

decided : (status : ℕ) → (status ≡ 5 → ⊥) → (status ≡ 2 → ⊥) → (status ≡ 0) ⊎ IsOrStops 2 status → IsOrNoMemory 0 status
decided status none known (inl is) = inl is
decided status none known (inr (inl unknown)) = absurd (known unknown)
decided status none known (inr (inr (inl fault))) = absurd (none fault)
decided status none known (inr (inr (inr memory))) = inr memory

whole : (w : BatchWords) (o : Outcome) (content : List ℕ → Option (List ℕ)) → BatchStatus o w content → (o.status ≡ 5 → ⊥) → IsBatchWhole o.status w content
whole w o content says none = record {
  answered = λ jobs qs holds asked. answered o.status none (says.leads.answered jobs qs holds asked);
  enough = λ jobs qs holds asked most. decided o.status none (says.leads.enough jobs qs holds asked most) (says.leads.answered jobs qs holds asked);
}

ran : (w : BatchWords) (o : Outcome) → (IsTrue o.disk.tells → BatchStatus o w o.disk.content) → BatchEnds w o → BatchRan w o
ran w o says ends = record { says = says; ends = ends; complete = λ none told. whole w o o.disk.content (says told) (λ e. no_fault w o none (ends.fault e)) }

-- A run of a batch.
pub batch_ran : TextLaws → (r : Result Batched Stop) (w : BatchWords) (accounts : List Account) (d : Disk) (out err : Stream) (status : ℕ)
    → (IsTrue d.tells → BatchSays r w d.content accounts out)
    → IfErr r (λ (s : Stop). HasCause s (IsFaultOfBatch w) d) → IfErr r (λ (s : Stop). SparesOutput s out)
    → (IsErrOf r FilesFault ⊎ (d.faults_after ≡ d.faults_before)) → (IsErrOf r OutputFault ⊎ (out.faults_after ≡ out.faults_before))
    → TellsStop r err → status ≡ batch_status r → BatchRan w (outcome status accounts d out err)
batch_ran laws r w accounts d out err status says cause spares files output line is =
    subst (λ (n : ℕ). BatchRan w (outcome n accounts d out err)) (sym is)
    (ran w (outcome (batch_status r) accounts d out err)
    (λ told. status_says laws r w d.content accounts d out err (says told) spares line)
    (ends r w accounts d out err cause spares files output line))

-- A run for which memory was refused before it began.
pub batch_memory_ran : TextLaws → (w : BatchWords) (accounts : List Account) (d : Disk) (out err : Stream) (status : ℕ) → status ≡ 6 → IsAsBefore out → Tells err (stop_text NoMemory)
    → IsQuiet (outcome 6 accounts d out err) → BatchRan w (outcome status accounts d out err)
batch_memory_ran laws w accounts d out err status is kept line quiet =
    batch_ran laws (Err NoMemory) w accounts d out err status (λ told. tt) tt kept (inr quiet.files) (inr quiet.output) line is

-- What a run says of the batch that was given it says of the words' batch.
pub ran_of_batch : (words : Option BatchWords) (v w : BatchWords) (o : Outcome) → words ≡ Some v → words ≡ Some w → BatchRan v o → BatchRan w o
ran_of_batch words v w o e f says = let same : v ≡ w = cc in subst (λ (u : BatchWords). BatchRan u o) same says
