-- What the status of a solve says, by the cases of its end.

use Rattle.std.specs.Prelude.{◌≡◌, ℕ, ◌<◌, ◌≤◌, ◌⊎◌, List, Option, Some, Result, Ok, Err, IfSome, IfErr, refl}
use Rattle.std.proofs.Common.{sym, subst, inl, inr, arith}
use Rattle.graph_theory.specs.Graph.{size}
use Rattle.graph_theory.specs.Embedding.{Problem, Embeds, HasNone}
use Rattle.graph_theory.specs.LadFault.{TextLaws}
use Rattle.search_theory.specs.Bounds.{enough}
use Rattle.search_theory.specs.Account.{Account}
use Rattle.encoding_theory.specs.Variables.{variables}
use Rattle.encoding_theory.specs.Encoding.{encoding}
use Rattle.log_theory.specs.Acceptance.{Accepts}
use Rattle.log_theory.specs.declared.step.Verdict.TheVariants.{Satisfiable, Unsatisfiable, Undecided}
use Rattle.command_line.specs.declared.commands.ProveWords.{ProveWords}
use Rattle.command_line.specs.declared.commands.SolveWords.{SolveWords}
use Rattle.subgraph_cli.specs.Proving.{HoldProof, map_log, open_log}
use Rattle.subgraph_cli.specs.Lines.{refusal_text}
use Rattle.subgraph_cli.specs.Disk.{Disk, IsUntouched}
use Rattle.subgraph_cli.specs.Streams.{Stream, IsAsBefore, Got, Tells}
use Rattle.subgraph_cli.specs.Outcomes.{outcome}
use Rattle.subgraph_cli.specs.Questions.{Asks, IsFirstRefused}
use Rattle.subgraph_cli.specs.Stops.{TellsStop, SparesOutput}
use Rattle.subgraph_cli.specs.Solving.{YesWritten, NoneWritten, UnknownWritten, IsWritten, StopsInAnswer, StopsAtFiles, StopsForMemory, SolveProof, SolveSays, SolveStatus, IsOrStops, solve_status}
use Rattle.subgraph_cli.specs.declared.stop.Role.{Role}
use Rattle.subgraph_cli.specs.declared.stop.TextFault.{TextFault}
use Rattle.subgraph_cli.specs.declared.stop.Stop.{Stop}
use Rattle.subgraph_cli.specs.declared.stop.Stop.TheVariants.{Refused, FilesFault, OutputFault, NoMemory}
use Rattle.subgraph_cli.specs.declared.solve.Decision.{Decision}
use Rattle.subgraph_cli.specs.declared.solve.Decision.TheVariants.{Yes, Nothing, Unknown}
use Rattle.subgraph_cli.proofs.OneProblem.{one_problem, asks_not_refused}

-- Status 0 is that of `yes`.
yes_says : (r : Result Decision Stop) (w : SolveWords) (p t : Option (List ℕ)) (accounts : List Account) (d : Disk) (out : Stream)
    → SolveSays r w p t accounts d out → solve_status r ≡ 0 → YesWritten w p t out
yes_says (Ok Yes) w p t accounts d out says e = record {
  problem = says.answers.problem;
  map = says.answers.is_answer.0;
  asks = says.answers.asks;
  embeds = says.answers.is_answer.1;
  written = subst (λ (text : List ℕ). Got out text) says.answers.is_answer.2 says.written;
}
yes_says (Ok Nothing) w p t accounts d out says e = absurd (omega arith)
yes_says (Ok Unknown) w p t accounts d out says e = absurd (omega arith)
yes_says (Err (Refused role fault)) w p t accounts d out says e = absurd (omega arith)
yes_says (Err FilesFault) w p t accounts d out says e = absurd (omega arith)
yes_says (Err OutputFault) w p t accounts d out says e = absurd (omega arith)
yes_says (Err NoMemory) w p t accounts d out says e = absurd (omega arith)

-- Status 1 is that of `none`.
none_says : (r : Result Decision Stop) (w : SolveWords) (p t : Option (List ℕ)) (accounts : List Account) (d : Disk) (out : Stream)
    → SolveSays r w p t accounts d out → solve_status r ≡ 1 → NoneWritten w p t out
none_says (Ok Nothing) w p t accounts d out says e = record {
  problem = says.answers.problem;
  asks = says.answers.asks;
  has_none = says.answers.is_answer.0;
  written = subst (λ (text : List ℕ). Got out text) says.answers.is_answer.1 says.written;
}
none_says (Ok Yes) w p t accounts d out says e = absurd (omega arith)
none_says (Ok Unknown) w p t accounts d out says e = absurd (omega arith)
none_says (Err (Refused role fault)) w p t accounts d out says e = absurd (omega arith)
none_says (Err FilesFault) w p t accounts d out says e = absurd (omega arith)
none_says (Err OutputFault) w p t accounts d out says e = absurd (omega arith)
none_says (Err NoMemory) w p t accounts d out says e = absurd (omega arith)

-- Status 2 is that of `unknown`.
unknown_says : (r : Result Decision Stop) (w : SolveWords) (p t : Option (List ℕ)) (accounts : List Account) (d : Disk) (out : Stream)
    → SolveSays r w p t accounts d out → solve_status r ≡ 2 → UnknownWritten w p t accounts out
unknown_says (Ok Unknown) w p t accounts d out says e = record {
  problem = says.answers.problem;
  asks = says.answers.asks;
  spent = says.answers.is_answer.0;
  written = subst (λ (text : List ℕ). Got out text) says.answers.is_answer.1 says.written;
}
unknown_says (Ok Yes) w p t accounts d out says e = absurd (omega arith)
unknown_says (Ok Nothing) w p t accounts d out says e = absurd (omega arith)
unknown_says (Err (Refused role fault)) w p t accounts d out says e = absurd (omega arith)
unknown_says (Err FilesFault) w p t accounts d out says e = absurd (omega arith)
unknown_says (Err OutputFault) w p t accounts d out says e = absurd (omega arith)
unknown_says (Err NoMemory) w p t accounts d out says e = absurd (omega arith)

-- What is so of a proof where one is asked for is so of this one.
of_asked : (prove : Option ProveWords) (names : ProveWords) (holds : ProveWords → Type 0) → prove ≡ Some names → IfSome prove holds → holds names
of_asked prove names holds asked is = subst (λ (o : Option ProveWords). IfSome o holds) asked is

-- The proof of each answer.
proof_says : (r : Result Decision Stop) (w : SolveWords) (p t : Option (List ℕ)) (accounts : List Account) (d : Disk) (out err : Stream) (names : ProveWords)
    → SolveSays r w p t accounts d out → w.prove ≡ Some names → SolveProof (outcome (solve_status r) accounts d out err) w names p t
proof_says (Ok Yes) w p t accounts d out err names says asked =
    let q = says.answers.problem in
    let m = says.answers.is_answer.0 in
    record {
      yes = λ e. (
        q,
        m,
        says.answers.asks,
        subst (λ (text : List ℕ). Got out text) says.answers.is_answer.2 says.written,
        of_asked w.prove names (λ (n : ProveWords). HoldProof n d.after q (map_log q m) Satisfiable) asked says.answers.is_answer.3,
      );
      none = λ e. absurd (omega arith);
      unknown = λ e. absurd (omega arith);
    }
proof_says (Ok Nothing) w p t accounts d out err names says asked =
    let q = says.answers.problem in
    let held = of_asked w.prove names (λ (n : ProveWords). (log : List ℕ) × Accepts (variables q) (encoding q) log Unsatisfiable × HoldProof n d.after q log Unsatisfiable) asked says.answers.is_answer.2 in
    record {
      yes = λ e. absurd (omega arith);
      none = λ e. (q, held.0, says.answers.asks, held.1, held.2);
      unknown = λ e. absurd (omega arith);
    }
proof_says (Ok Unknown) w p t accounts d out err names says asked =
    let q = says.answers.problem in
    record {
      yes = λ e. absurd (omega arith);
      none = λ e. absurd (omega arith);
      unknown = λ e. (
        q,
        says.answers.asks,
        of_asked w.prove names (λ (n : ProveWords). HoldProof n d.after q (open_log q) Undecided) asked says.answers.is_answer.2,
      );
    }
proof_says (Err (Refused role fault)) w p t accounts d out err names says asked =
    record { yes = λ e. absurd (omega arith); none = λ e. absurd (omega arith); unknown = λ e. absurd (omega arith) }
proof_says (Err FilesFault) w p t accounts d out err names says asked =
    record { yes = λ e. absurd (omega arith); none = λ e. absurd (omega arith); unknown = λ e. absurd (omega arith) }
proof_says (Err OutputFault) w p t accounts d out err names says asked =
    record { yes = λ e. absurd (omega arith); none = λ e. absurd (omega arith); unknown = λ e. absurd (omega arith) }
proof_says (Err NoMemory) w p t accounts d out err names says asked =
    record { yes = λ e. absurd (omega arith); none = λ e. absurd (omega arith); unknown = λ e. absurd (omega arith) }

-- Status 4 is that of a refused text, of which the error stream is told.
refused_says : (r : Result Decision Stop) (w : SolveWords) (p t : Option (List ℕ)) (accounts : List Account) (d : Disk) (out err : Stream)
    → SolveSays r w p t accounts d out → TellsStop r err → solve_status r ≡ 4
    → (role : Role) × (fault : TextFault) × IsFirstRefused p t w.ask role fault × Tells err (refusal_text role fault) × IsUntouched d
refused_says (Err (Refused role fault)) w p t accounts d out err says line e = (role, fault, says.0, line, says.1)
refused_says (Ok Yes) w p t accounts d out err says line e = absurd (omega arith)
refused_says (Ok Nothing) w p t accounts d out err says line e = absurd (omega arith)
refused_says (Ok Unknown) w p t accounts d out err says line e = absurd (omega arith)
refused_says (Err FilesFault) w p t accounts d out err says line e = absurd (omega arith)
refused_says (Err OutputFault) w p t accounts d out err says line e = absurd (omega arith)
refused_says (Err NoMemory) w p t accounts d out err says line e = absurd (omega arith)

-- Status 5 is that of a fault: of the files, where nothing was written, or of the output within an answer.
fault_says : (r : Result Decision Stop) (w : SolveWords) (p t : Option (List ℕ)) (accounts : List Account) (d : Disk) (out : Stream)
    → SolveSays r w p t accounts d out → IfErr r (λ (s : Stop). SparesOutput s out) → solve_status r ≡ 5
    → (IsAsBefore out × StopsAtFiles w p t accounts d) ⊎ StopsInAnswer w p t accounts d out
fault_says (Err FilesFault) w p t accounts d out says spares e = inl (spares, says)
fault_says (Err OutputFault) w p t accounts d out says spares e = inr says
fault_says (Ok Yes) w p t accounts d out says spares e = absurd (omega arith)
fault_says (Ok Nothing) w p t accounts d out says spares e = absurd (omega arith)
fault_says (Ok Unknown) w p t accounts d out says spares e = absurd (omega arith)
fault_says (Err (Refused role fault)) w p t accounts d out says spares e = absurd (omega arith)
fault_says (Err NoMemory) w p t accounts d out says spares e = absurd (omega arith)

-- Status 6 is that of want of memory.
memory_says : (r : Result Decision Stop) (w : SolveWords) (p t : Option (List ℕ)) (accounts : List Account) (d : Disk) (out : Stream)
    → SolveSays r w p t accounts d out → solve_status r ≡ 6 → StopsForMemory w p t accounts d
memory_says (Err NoMemory) w p t accounts d out says e = says
memory_says (Ok Yes) w p t accounts d out says e = absurd (omega arith)
memory_says (Ok Nothing) w p t accounts d out says e = absurd (omega arith)
memory_says (Ok Unknown) w p t accounts d out says e = absurd (omega arith)
memory_says (Err (Refused role fault)) w p t accounts d out says e = absurd (omega arith)
memory_says (Err FilesFault) w p t accounts d out says e = absurd (omega arith)
memory_says (Err OutputFault) w p t accounts d out says e = absurd (omega arith)

-- A problem is answered.
answered_leads : TextLaws → (r : Result Decision Stop) (w : SolveWords) (p t : Option (List ℕ)) (accounts : List Account) (d : Disk) (out : Stream)
    → SolveSays r w p t accounts d out → (q : Problem) → Asks p t w.ask q
    → (solve_status r ≡ 0) ⊎ ((solve_status r ≡ 1) ⊎ IsOrStops 2 (solve_status r))
answered_leads laws (Ok Yes) w p t accounts d out says q asks = inl refl
answered_leads laws (Ok Nothing) w p t accounts d out says q asks = inr (inl refl)
answered_leads laws (Ok Unknown) w p t accounts d out says q asks = inr (inr (inl refl))
answered_leads laws (Err (Refused role fault)) w p t accounts d out says q asks = absurd (asks_not_refused laws p t w.ask q role fault asks says.0)
answered_leads laws (Err FilesFault) w p t accounts d out says q asks = inr (inr (inr (inl refl)))
answered_leads laws (Err OutputFault) w p t accounts d out says q asks = inr (inr (inr (inl refl)))
answered_leads laws (Err NoMemory) w p t accounts d out says q asks = inr (inr (inr (inr refl)))

-- A problem that was answered is the one that is asked.
same_problem : TextLaws → (k : Decision) (w : SolveWords) (p t : Option (List ℕ)) (accounts : List Account) (d : Disk) (out : Stream)
    → (says : IsWritten k w p t accounts d out) → (q : Problem) → Asks p t w.ask q → q ≡ says.answers.problem
same_problem laws k w p t accounts d out says q asks = one_problem laws p t w.ask q says.answers.problem asks says.answers.asks

-- Where an embedding exists `none` is not told.
found_leads : TextLaws → (r : Result Decision Stop) (w : SolveWords) (p t : Option (List ℕ)) (accounts : List Account) (d : Disk) (out : Stream)
    → SolveSays r w p t accounts d out → (q : Problem) (m : List ℕ) → Asks p t w.ask q → Embeds q m
    → (solve_status r ≡ 0) ⊎ IsOrStops 2 (solve_status r)
found_leads laws (Ok Yes) w p t accounts d out says q m asks embeds = inl refl
found_leads laws (Ok Nothing) w p t accounts d out says q m asks embeds =
    let same = same_problem laws Nothing w p t accounts d out says q asks in
    absurd (says.answers.is_answer.0 m (subst (λ (s : Problem). Embeds s m) same embeds))
found_leads laws (Ok Unknown) w p t accounts d out says q m asks embeds = inr (inl refl)
found_leads laws (Err (Refused role fault)) w p t accounts d out says q m asks embeds = absurd (asks_not_refused laws p t w.ask q role fault asks says.0)
found_leads laws (Err FilesFault) w p t accounts d out says q m asks embeds = inr (inr (inl refl))
found_leads laws (Err OutputFault) w p t accounts d out says q m asks embeds = inr (inr (inl refl))
found_leads laws (Err NoMemory) w p t accounts d out says q m asks embeds = inr (inr (inr refl))

-- Where none exists `yes` is not told.
refuted_leads : TextLaws → (r : Result Decision Stop) (w : SolveWords) (p t : Option (List ℕ)) (accounts : List Account) (d : Disk) (out : Stream)
    → SolveSays r w p t accounts d out → (q : Problem) → Asks p t w.ask q → HasNone q
    → (solve_status r ≡ 1) ⊎ IsOrStops 2 (solve_status r)
refuted_leads laws (Ok Yes) w p t accounts d out says q asks none =
    let same = same_problem laws Yes w p t accounts d out says q asks in
    let answer = says.answers.is_answer in
    absurd (none answer.0 (subst (λ (s : Problem). Embeds s answer.0) (sym same) answer.1))
refuted_leads laws (Ok Nothing) w p t accounts d out says q asks none = inl refl
refuted_leads laws (Ok Unknown) w p t accounts d out says q asks none = inr (inl refl)
refuted_leads laws (Err (Refused role fault)) w p t accounts d out says q asks none = absurd (asks_not_refused laws p t w.ask q role fault asks says.0)
refuted_leads laws (Err FilesFault) w p t accounts d out says q asks none = inr (inr (inl refl))
refuted_leads laws (Err OutputFault) w p t accounts d out says q asks none = inr (inr (inl refl))
refuted_leads laws (Err NoMemory) w p t accounts d out says q asks none = inr (inr (inr refl))

-- Where the budget is enough `unknown` is not told.
enough_leads : TextLaws → (r : Result Decision Stop) (w : SolveWords) (p t : Option (List ℕ)) (accounts : List Account) (d : Disk) (out : Stream)
    → SolveSays r w p t accounts d out → (q : Problem) → Asks p t w.ask q
    → enough (size q.pattern) (size q.target) ≤ w.budget → solve_status r ≡ 2 → ⊥
enough_leads laws r w p t accounts d out says q asks most e =
    let unknown = unknown_says r w p t accounts d out says e in
    let same = one_problem laws p t w.ask q unknown.problem asks unknown.asks in
    let less : w.budget < enough (size q.pattern) (size q.target) =
    subst (λ (s : Problem). w.budget < enough (size s.pattern) (size s.target)) (sym same) unknown.spent.not_enough in
    omega arith

-- Where a text is refused that is told.
refused_leads : TextLaws → (r : Result Decision Stop) (w : SolveWords) (p t : Option (List ℕ)) (accounts : List Account) (d : Disk) (out : Stream)
    → SolveSays r w p t accounts d out → (role : Role) (fault : TextFault) → IsFirstRefused p t w.ask role fault → IsOrStops 4 (solve_status r)
refused_leads laws (Ok k) w p t accounts d out says role fault refused =
    absurd (asks_not_refused laws p t w.ask says.answers.problem role fault says.answers.asks refused)
refused_leads laws (Err (Refused who why)) w p t accounts d out says role fault refused = inl refl
refused_leads laws (Err FilesFault) w p t accounts d out says role fault refused = inr (inl refl)
refused_leads laws (Err OutputFault) w p t accounts d out says role fault refused = inr (inl refl)
refused_leads laws (Err NoMemory) w p t accounts d out says role fault refused = inr (inr refl)

-- The status of a solve says what its end says.
pub solve_status_says : TextLaws → (r : Result Decision Stop) (w : SolveWords) (p t : Option (List ℕ)) (accounts : List Account) (d : Disk) (out err : Stream)
    → SolveSays r w p t accounts d out → IfErr r (λ (s : Stop). SparesOutput s out) → TellsStop r err
    → SolveStatus (outcome (solve_status r) accounts d out err) w p t
solve_status_says laws r w p t accounts d out err says spares line = record {
  yes = yes_says r w p t accounts d out says;
  none = none_says r w p t accounts d out says;
  unknown = unknown_says r w p t accounts d out says;
  proof = λ names asked. proof_says r w p t accounts d out err names says asked;
  refused = refused_says r w p t accounts d out err says line;
  fault = fault_says r w p t accounts d out says spares;
  no_memory = memory_says r w p t accounts d out says;
  leads = record {
    answered = answered_leads laws r w p t accounts d out says;
    found = found_leads laws r w p t accounts d out says;
    refuted = refuted_leads laws r w p t accounts d out says;
    enough = enough_leads laws r w p t accounts d out says;
    refused = refused_leads laws r w p t accounts d out says;
  };
}
