-- What is told of an end says what the end says.

use Rattle.std.specs.Prelude.{◌≡◌, ℕ, Bool, IsTrue, List, Option, Result, Ok, Err, IfErr, refl}
use Rattle.std.proofs.Common.{arith, subst, sym, inl, inr, ◌∙◌}
use Rattle.graph_theory.specs.Embedding.{Problem, Embeds}
use Rattle.search_theory.specs.Account.{Account}
use Rattle.outer_io.specs.Faults.{Use}
use Rattle.command_line.specs.declared.commands.SolveWords.{SolveWords}
use Rattle.command_line.specs.declared.commands.VerifyWords.{VerifyWords}
use Rattle.subgraph_cli.specs.Disk.{Disk, disk, IsReadingOf, KeepsFiles, KeepsAllBut, IsUntouched}
use Rattle.subgraph_cli.specs.Deciding.{IsRight, AreKept, Shows, decision_of, answer_text, LeavingSays, TellingSays, IsOfWriting}
use Rattle.subgraph_cli.specs.Proving.{IsReached, IsWritingOfProof, IsFaultOfSolve}
use Rattle.subgraph_cli.specs.Streams.{Stream, IsAsBefore}
use Rattle.subgraph_cli.specs.Questions.{Asks, AskSays, IsFaultOfTwo}
use Rattle.subgraph_cli.specs.Stops.{HasCause, IsOfFiles, SparesOutput}
use Rattle.subgraph_cli.specs.Solving.{IsAnswer, IsWritten, SolveSays}
use Rattle.subgraph_cli.specs.Verifying.{HoldsMapping, MappingSays, IsFaultOfThree, IsGood, IsBad, VerifySays}
use Rattle.subgraph_cli.specs.declared.deciding.Answer.{Answer}
use Rattle.subgraph_cli.specs.declared.deciding.Answer.TheVariants as answer
use Rattle.subgraph_cli.specs.declared.stop.Role.TheVariants.{Pattern, Less, Target, Mapping, Encoding, Log, JobList, JobPattern, JobTarget}
use Rattle.subgraph_cli.specs.declared.stop.Stop.{Stop}
use Rattle.subgraph_cli.specs.declared.stop.Stop.TheVariants.{Refused, FilesFault, OutputFault, NoMemory}
use Rattle.subgraph_cli.specs.declared.solve.Decision.{Decision}

-- Files that are kept twice are kept.
pub keeps_on : {S : Type 0} (tells : S → Bool) (content : S → List ℕ → Option (List ℕ)) (faults : S → ℕ) (a b c : S)
    → KeepsFiles tells content faults a b → KeepsFiles tells content faults b c → KeepsFiles tells content faults a c
keeps_on tells content faults a b c x y = record {
  told = y.told ∙ x.told;
  same = λ file. y.same file ∙ x.same file;
  later = let h = x.later in let k = y.later in omega arith;
}

-- A stop while loading leaves an output that nothing was put to.
pub loading_spares : (s : Stop) (out : Stream) → IsOfFiles s → IsAsBefore out → SparesOutput s out
loading_spares FilesFault out of_files kept = kept
loading_spares OutputFault out of_files kept = absurd of_files
loading_spares (Refused role fault) out of_files kept = kept
loading_spares NoMemory out of_files kept = kept

-- Files that are kept while they are read are those of the whole run.
pub disk_on : {S : Type 0} (tells : S → Bool) (content : S → List ℕ → Option (List ℕ)) (faults : S → ℕ) (fault_at : S → Option Use) (a b c : S)
    → KeepsFiles tells content faults a b → faults b ≡ faults a → disk tells content faults fault_at b c ≡ disk tells content faults fault_at a c
disk_on tells content faults fault_at a b c k quiet = λ i. record {
  tells = k.told i;
  content = λ file. k.same file i;
  after = content c;
  faults_before = quiet i;
  faults_after = faults c;
  fault_at = fault_at c;
}

-- Files that are kept, and then but for some, are kept but for these.
pub keeps_then : {S : Type 0} (tells : S → Bool) (content : S → List ℕ → Option (List ℕ)) (faults : S → ℕ) (written : List ℕ → Type 0) (a b c : S)
    → KeepsFiles tells content faults a b → KeepsAllBut tells content faults written b c → KeepsAllBut tells content faults written a c
keeps_then tells content faults written a b c x y = record {
  told = y.told ∙ x.told;
  others = λ file none. y.others file none ∙ x.same file;
  later = let h = x.later in let k = y.later in omega arith;
}

-- Files that are kept are kept but for any.
pub keeps_but : {S : Type 0} (tells : S → Bool) (content : S → List ℕ → Option (List ℕ)) (faults : S → ℕ) (written : List ℕ → Type 0) (a b : S)
    → KeepsFiles tells content faults a b → KeepsAllBut tells content faults written a b
keeps_but tells content faults written a b x = record { told = x.told; others = λ file none. x.same file; later = x.later }

-- A stop while loading, where no file was written.
pub loading_says : (s : Stop) (w : SolveWords) (p t : Option (List ℕ)) (accounts : List Account) (d : Disk) (out : Stream)
    → IsOfFiles s → AskSays (Err s) p t w.ask → HasCause s (IsFaultOfTwo w.pattern w.target w.ask) d → IsUntouched d
    → SolveSays (Err s) w p t accounts d out
loading_says FilesFault w p t accounts d out of_files says cause kept = inl (cause.of_one, kept)
loading_says OutputFault w p t accounts d out of_files says cause kept = absurd of_files
loading_says (Refused role fault) w p t accounts d out of_files says cause kept = (says, kept)
loading_says NoMemory w p t accounts d out of_files says cause kept = inl kept

-- What is kept of an answer shows that its decision was reached.
reached_by : (a : Answer) (q : Problem) (w : SolveWords) (accounts : List Account) → AreKept a q w accounts → IsReached (decision_of a) q w accounts
reached_by (answer.Yes m) q w accounts kept = tt
reached_by (answer.Nothing proof) q w accounts kept = tt
reached_by answer.Unknown q w accounts kept = kept

-- A stop where the proof is written, of the answer to the problem that the files ask.
pub leaving_says : (s : Stop) (a : Answer) (q : Problem) (w : SolveWords) (p t : Option (List ℕ)) (accounts : List Account) (d : Disk) (out : Stream)
    → LeavingSays (Err s) a q w.prove d → Asks p t w.ask q → AreKept a q w accounts → SolveSays (Err s) w p t accounts d out
leaving_says FilesFault a q w p t accounts d out says asks kept = inr record {
  names = says.names;
  asked = says.asked;
  problem = q;
  asks = asks;
  decision = decision_of a;
  reached = reached_by a q w accounts kept;
  log = says.log;
  log_is = says.log_is;
  stopped = says.stopped;
}
leaving_says NoMemory a q w p t accounts d out says asks kept = inr record {
  names = says.names;
  asked = says.asked;
  problem = q;
  asks = asks;
  decision = decision_of a;
  reached = reached_by a q w accounts kept;
  log = says.log;
  log_is = says.log_is;
  stopped = says.stopped;
}
leaving_says OutputFault a q w p t accounts d out says asks kept = absurd says
leaving_says (Refused role fault) a q w p t accounts d out says asks kept = absurd says

-- A stop where the proof is written spares an output that nothing was put to.
pub writing_spares : (s : Stop) (out : Stream) → IsOfWriting s → IsAsBefore out → SparesOutput s out
writing_spares FilesFault out of_writing kept = kept
writing_spares OutputFault out of_writing kept = absurd of_writing
writing_spares (Refused role fault) out of_writing kept = absurd of_writing
writing_spares NoMemory out of_writing kept = kept

-- A cause of reading is one of a solve.
pub reading_cause : (s : Stop) (w : SolveWords) (d : Disk) → HasCause s (IsFaultOfTwo w.pattern w.target w.ask) d → HasCause s (IsFaultOfSolve w) d
reading_cause FilesFault w d cause = record { rose = cause.rose; of_one = inl cause.of_one }
reading_cause OutputFault w d cause = tt
reading_cause (Refused role fault) w d cause = tt
reading_cause NoMemory w d cause = tt

-- So is one of writing the proof, where the files ask a problem.
pub writing_cause : (s : Stop) (w : SolveWords) (d : Disk) → HasCause s (IsWritingOfProof w.prove) d
    → (IsTrue d.tells → (q : Problem) × Asks (d.content w.pattern) (d.content w.target) w.ask q) → HasCause s (IsFaultOfSolve w) d
writing_cause FilesFault w d cause asks = record { rose = cause.rose; of_one = inr (cause.of_one, asks) }
writing_cause OutputFault w d cause asks = tt
writing_cause (Refused role fault) w d cause asks = tt
writing_cause NoMemory w d cause asks = tt

-- Telling an answer stops for the output alone.
pub telling_cause : (r : Result Decision Stop) (a : Answer) (out : Stream) (blame : Disk → Type 0) (d : Disk)
    → TellingSays r a out → IfErr r (λ (s : Stop). HasCause s blame d)
telling_cause (Ok decision) a out blame d says = tt
telling_cause (Err OutputFault) a out blame d says = tt
telling_cause (Err NoMemory) a out blame d says = absurd says
telling_cause (Err FilesFault) a out blame d says = absurd says
telling_cause (Err (Refused role fault)) a out blame d says = absurd says

-- An answer that is right, shown and told is the answer of the decision that it is told as.
answers_with : (a : Answer) (q : Problem) (w : SolveWords) (accounts : List Account) (held : List ℕ → Option (List ℕ)) (logged : Bool)
    → IsRight a q logged → AreKept a q w accounts → Shows a w.prove held q → IsAnswer (decision_of a) q w accounts held (answer_text a)
answers_with (answer.Yes m) q w accounts held logged right kept shows = (m.items, right, refl, shows)
answers_with (answer.Nothing proof) q w accounts held logged right kept shows = (right.0, refl, shows)
answers_with answer.Unknown q w accounts held logged right kept shows = (kept, refl, shows)

-- What telling the answer to the problem that the files ask says.
pub telling_says : (r : Result Decision Stop) (a : Answer) (q : Problem) (w : SolveWords) (p t : Option (List ℕ)) (accounts : List Account) (d : Disk) (out : Stream) (logged : Bool)
    → TellingSays r a out → Asks p t w.ask q → IsRight a q logged → AreKept a q w accounts → Shows a w.prove d.after q
    → SolveSays r w p t accounts d out
telling_says (Ok decision) a q w p t accounts d out logged says asks right kept shows = subst (λ (e : Decision). IsWritten e w p t accounts d out) (sym says.0) record {
  text = answer_text a;
  answers = record { problem = q; asks = asks; is_answer = answers_with a q w accounts d.after logged right kept shows };
  written = says.1;
}
telling_says (Err OutputFault) a q w p t accounts d out logged says asks right kept shows = record {
  decision = decision_of a;
  text = answer_text a;
  answers = record { problem = q; asks = asks; is_answer = answers_with a q w accounts d.after logged right kept shows };
  front = says;
}
telling_says (Err NoMemory) a q w p t accounts d out logged says asks right kept shows = absurd says
telling_says (Err FilesFault) a q w p t accounts d out logged says asks right kept shows = absurd says
telling_says (Err (Refused role fault)) a q w p t accounts d out logged says asks right kept shows = absurd says

-- A mapping that is not loaded stops a verify of a problem that is asked.
pub mapping_stops : (s : Stop) (q : Problem) (w : VerifyWords) (p t m : Option (List ℕ)) (out : Stream)
    → IsOfFiles s → MappingSays (Err s) m → Asks p t w.ask q → VerifySays (Err s) w p t m out
mapping_stops FilesFault q w p t m out of_files says asks = tt
mapping_stops OutputFault q w p t m out of_files says asks = absurd of_files
mapping_stops NoMemory q w p t m out of_files says asks = tt
mapping_stops (Refused Mapping fault) q w p t m out of_files says asks = record { problem = q; asks = asks; is = says.1 }
mapping_stops (Refused Pattern fault) q w p t m out of_files says asks = let e : Pattern ≡ Mapping = says.0 in cc
mapping_stops (Refused Less fault) q w p t m out of_files says asks = let e : Less ≡ Mapping = says.0 in cc
mapping_stops (Refused Target fault) q w p t m out of_files says asks = let e : Target ≡ Mapping = says.0 in cc
mapping_stops (Refused Encoding fault) q w p t m out of_files says asks = let e : Encoding ≡ Mapping = says.0 in cc
mapping_stops (Refused Log fault) q w p t m out of_files says asks = let e : Log ≡ Mapping = says.0 in cc
mapping_stops (Refused JobList fault) q w p t m out of_files says asks = let e : JobList ≡ Mapping = says.0 in cc
mapping_stops (Refused (JobPattern n) fault) q w p t m out of_files says asks = let e : JobPattern n ≡ Mapping = says.0 in cc
mapping_stops (Refused (JobTarget n) fault) q w p t m out of_files says asks = let e : JobTarget n ≡ Mapping = says.0 in cc

-- A cause of reading the mapping is one of a verify, where the graphs' files ask a problem.
pub mapping_cause : (s : Stop) (w : VerifyWords) (d : Disk) → HasCause s (IsReadingOf w.mapping) d
    → (IsTrue d.tells → (q : Problem) × Asks (d.content w.pattern) (d.content w.target) w.ask q) → HasCause s (IsFaultOfThree w) d
mapping_cause FilesFault w d cause asks = record { rose = cause.rose; of_one = inr (cause.of_one, asks) }
mapping_cause OutputFault w d cause asks = tt
mapping_cause (Refused role fault) w d cause asks = tt
mapping_cause NoMemory w d cause asks = tt

-- The mapping that is loaded is that of the third file, before a run as after the graphs were read.
pub mapping_held : (held before : Option (List ℕ)) (m : List ℕ) → held ≡ before → HoldsMapping held m → HoldsMapping before m
mapping_held held before m same holds = subst (λ (o : Option (List ℕ)). HoldsMapping o m) same holds

-- A mapping that is no embedding is bad.
pub is_bad : (q : Problem) (m : List ℕ) (w : VerifyWords) (p t c : Option (List ℕ)) → Asks p t w.ask q → HoldsMapping c m → (Embeds q m → ⊥) → IsBad w p t c
is_bad q m w p t c asks holds none = record { problem = q; map = m; asks = record { problem_is = asks; mapping_is = holds }; no_embedding = none }

-- A mapping that is an embedding is good.
pub is_good : (q : Problem) (m : List ℕ) (w : VerifyWords) (p t c : Option (List ℕ)) → Asks p t w.ask q → HoldsMapping c m → Embeds q m → IsGood w p t c
is_good q m w p t c asks holds embeds = record { problem = q; map = m; asks = record { problem_is = asks; mapping_is = holds }; embeds = embeds }

-- Files that hold the same ask the same problem.
pub asks_on : (before after : List ℕ → Option (List ℕ)) (w : SolveWords) (q : Problem) → ((file : List ℕ) → after file ≡ before file)
    → Asks (before w.pattern) (before w.target) w.ask q → Asks (after w.pattern) (after w.target) w.ask q
asks_on before after w q same asks =
    subst (λ (p : Option (List ℕ)). Asks p (after w.target) w.ask q) (sym (same w.pattern))
    (subst (λ (t : Option (List ℕ)). Asks (before w.pattern) t w.ask q) (sym (same w.target)) asks)

-- And a solve says the same of them.
pub solve_says_on : (before after : List ℕ → Option (List ℕ)) (r : Result Decision Stop) (w : SolveWords) (accounts : List Account) (d e : Disk) (out : Stream) → ((file : List ℕ) → after file ≡ before file) → d ≡ e
    → SolveSays r w (after w.pattern) (after w.target) accounts d out → SolveSays r w (before w.pattern) (before w.target) accounts e out
solve_says_on before after r w accounts d e out same disks says =
    subst (λ (p : Option (List ℕ)). SolveSays r w p (before w.target) accounts e out) (same w.pattern)
    (subst (λ (t : Option (List ℕ)). SolveSays r w (after w.pattern) t accounts e out) (same w.target)
    (subst (λ (f : Disk). SolveSays r w (after w.pattern) (after w.target) accounts f out) disks says))
