-- What a `solve` answers.

use Rattle.std.specs.Prelude.{◌≡◌, ℕ, ◌≤◌, ◌⊎◌, List, Option, Some, Result, Ok, Err}
use Rattle.graph_theory.specs.Graph.{size}
use Rattle.graph_theory.specs.Embedding.{Problem, Embeds, HasNone}
use Rattle.graph_theory.specs.Mapping.{yes_text}
use Rattle.search_theory.specs.Bounds.{enough}
use Rattle.search_theory.specs.Account.{Account}
use Rattle.parallel_solve.specs.Solving.{AreSpent}
use Rattle.proof_files.specs.TwoFiles.{StopsInEncoding, FailsInWriting}
use Rattle.encoding_theory.specs.Variables.{variables}
use Rattle.encoding_theory.specs.Encoding.{encoding}
use Rattle.log_theory.specs.Acceptance.{Accepts}
use Rattle.log_theory.specs.declared.step.Verdict.TheVariants.{Satisfiable, Unsatisfiable, Undecided}
use Rattle.command_line.specs.declared.commands.ProveWords.{ProveWords}
use Rattle.command_line.specs.declared.commands.SolveWords.{SolveWords}
use Rattle.subgraph_cli.specs.Lines.{none_text, unknown_text, refusal_text, stop_status}
use Rattle.subgraph_cli.specs.Disk.{Disk, IsUntouched}
use Rattle.subgraph_cli.specs.Streams.{Stream, Got, GotFront, IsAsBefore, Tells}
use Rattle.subgraph_cli.specs.Outcomes.{Outcome}
use Rattle.subgraph_cli.specs.Questions.{Asks, IsFirstRefused, IsFaultOfTwo}
use Rattle.subgraph_cli.specs.Proving.{HoldProof, map_log, open_log, ShowsMap, ShowsNone, ShowsNothing, StopsInProof}
use Rattle.subgraph_cli.specs.declared.stop.Role.{Role}
use Rattle.subgraph_cli.specs.declared.stop.TextFault.{TextFault}
use Rattle.subgraph_cli.specs.declared.stop.Stop.{Stop}
use Rattle.subgraph_cli.specs.declared.stop.Stop.TheVariants.{Refused, FilesFault, OutputFault, NoMemory}
use Rattle.subgraph_cli.specs.declared.solve.Decision.{Decision}
use Rattle.subgraph_cli.specs.declared.solve.Decision.TheVariants.{Yes, Nothing, Unknown}

-- `yes` was written, with an embedding for the problem that the files ask.
pub record YesWritten (w : SolveWords) (pattern target : Option (List ℕ))
    (out : Stream) : Type 0 where
  pub problem : Problem
  pub map : List ℕ
  pub asks : Asks pattern target w.ask problem
  pub embeds : Embeds problem map
  pub written : Got out (yes_text map)

-- `none` was written, and no embedding exists for the problem that the files ask.
pub record NoneWritten (w : SolveWords) (pattern target : Option (List ℕ))
    (out : Stream) : Type 0 where
  pub problem : Problem
  pub asks : Asks pattern target w.ask problem
  pub has_none : HasNone problem
  pub written : Got out none_text

-- `unknown` was written, and each of the threads spent its budget on the problem that the files ask, as their accounts show.
pub record UnknownWritten (w : SolveWords) (pattern target : Option (List ℕ))
    (accounts : List Account) (out : Stream) : Type 0 where
  pub problem : Problem
  pub asks : Asks pattern target w.ask problem
  pub spent : AreSpent problem w.threads w.budget accounts
  pub written : Got out unknown_text

-- The text of each decision, and what the files of a proof hold: an embedding, that none exists, or that each worker spent the budget, as their accounts show.
abbrev pub IsAnswer : Decision → Problem → SolveWords → List Account
    → (List ℕ → Option (List ℕ)) → List ℕ → Type 0
IsAnswer Yes q w accounts held text =
    (m : List ℕ) × Embeds q m × (text ≡ yes_text m) × ShowsMap w.prove held q m
IsAnswer Nothing q w accounts held text =
    HasNone q × (text ≡ none_text) × ShowsNone w.prove held q
IsAnswer Unknown q w accounts held text =
    AreSpent q w.threads w.budget accounts × (text ≡ unknown_text) × ShowsNothing w.prove held q

-- The files ask a problem, and this is the text of the decision on it, with its proof.
pub record Answers (decision : Decision) (w : SolveWords) (pattern target : Option (List ℕ))
    (accounts : List Account) (d : Disk) (text : List ℕ) : Type 0 where
  pub problem : Problem
  pub asks : Asks pattern target w.ask problem
  pub is_answer : IsAnswer decision problem w accounts d.after text

-- The decision is right, and its text was written.
pub record IsWritten (decision : Decision) (w : SolveWords) (pattern target : Option (List ℕ))
    (accounts : List Account) (d : Disk) (out : Stream) : Type 0 where
  pub text : List ℕ
  pub answers : Answers decision w pattern target accounts d text
  pub written : Got out text

-- The output failed within an answer, of which it holds a front part; a proof was written before.
pub record StopsInAnswer (w : SolveWords) (pattern target : Option (List ℕ))
    (accounts : List Account) (d : Disk) (out : Stream) : Type 0 where
  pub decision : Decision
  pub text : List ℕ
  pub answers : Answers decision w pattern target accounts d text
  pub front : GotFront out text

-- A call on the files failed: where the graphs are read, and no file was written, or where the proof of what was decided is.
abbrev pub StopsAtFiles : SolveWords → Option (List ℕ) → Option (List ℕ) → List Account → Disk
    → Type 0
StopsAtFiles w pattern target accounts d = (IsFaultOfTwo w.pattern w.target w.ask d × IsUntouched d)
    ⊎ StopsInProof FailsInWriting w pattern target accounts d

-- Memory was refused: before any file was written, as wherever nothing was decided, or where the encoding of what was decided is.
abbrev pub StopsForMemory : SolveWords → Option (List ℕ) → Option (List ℕ) → List Account → Disk
    → Type 0
StopsForMemory w pattern target accounts d =
    IsUntouched d ⊎ StopsInProof StopsInEncoding w pattern target accounts d

-- What a solve says: its decision of the problem that the files ask, or why it stopped, and what it left of the files of a proof.
abbrev pub SolveSays : Result Decision Stop → SolveWords → Option (List ℕ) → Option (List ℕ)
    → List Account → Disk → Stream → Type 0
SolveSays (Ok decision) w pattern target accounts d out =
    IsWritten decision w pattern target accounts d out
SolveSays (Err (Refused role fault)) w pattern target accounts d out =
    IsFirstRefused pattern target w.ask role fault × IsUntouched d
SolveSays (Err OutputFault) w pattern target accounts d out =
    StopsInAnswer w pattern target accounts d out
SolveSays (Err FilesFault) w pattern target accounts d out = StopsAtFiles w pattern target accounts d
SolveSays (Err NoMemory) w pattern target accounts d out = StopsForMemory w pattern target accounts d

-- The status of an answer.
abbrev pub decision_status : Decision → ℕ
decision_status Yes = 0
decision_status Nothing = 1
decision_status Unknown = 2

abbrev pub solve_status : Result Decision Stop → ℕ
solve_status (Ok decision) = decision_status decision
solve_status (Err stop) = stop_status stop

-- The status is this one, or a fault or want of memory came between.
abbrev pub IsOrStops : ℕ → ℕ → Type 0
IsOrStops due status = (status ≡ due) ⊎ ((status ≡ 5) ⊎ (status ≡ 6))

-- What the files lead to: an answer where they ask a problem, the right one where the budget is enough, and a refusal where one of them is not good.
pub record SolveLeads (status : ℕ) (w : SolveWords)
    (pattern target : Option (List ℕ)) : Type 0 where
  pub answered : (q : Problem) → Asks pattern target w.ask q
      → (status ≡ 0) ⊎ ((status ≡ 1) ⊎ IsOrStops 2 status)
  pub found : (q : Problem) (m : List ℕ) → Asks pattern target w.ask q → Embeds q m
      → (status ≡ 0) ⊎ IsOrStops 2 status
  pub refuted : (q : Problem) → Asks pattern target w.ask q → HasNone q
      → (status ≡ 1) ⊎ IsOrStops 2 status
  pub enough : (q : Problem) → Asks pattern target w.ask q
      → enough (size q.pattern) (size q.target) ≤ w.budget → (status ≡ 2) → ⊥
  pub refused : (role : Role) (fault : TextFault)
      → IsFirstRefused pattern target w.ask role fault → IsOrStops 4 status

-- What the two files of a proof hold at each answer: the encoding of the problem that the graphs' files ask, and a log in the profile that is asked for and accepted over it, that of the map which was written, a refutation, or one that claims nothing.
pub record SolveProof (o : Outcome) (w : SolveWords) (p : ProveWords)
    (pattern target : Option (List ℕ)) : Type 0 where
  pub yes : o.status ≡ 0 → (q : Problem) × (m : List ℕ)
      × Asks pattern target w.ask q × Got o.out (yes_text m)
      × HoldProof p o.disk.after q (map_log q m) Satisfiable
  pub none : o.status ≡ 1 → (q : Problem) × (log : List ℕ)
      × Asks pattern target w.ask q
      × Accepts (variables q) (encoding q) log Unsatisfiable
      × HoldProof p o.disk.after q log Unsatisfiable
  pub unknown : o.status ≡ 2 → (q : Problem) × Asks pattern target w.ask q
      × HoldProof p o.disk.after q (open_log q) Undecided

-- What the status of a solve says, where the files tell their contents.
pub record SolveStatus (o : Outcome) (w : SolveWords)
    (pattern target : Option (List ℕ)) : Type 0 where
  pub yes : o.status ≡ 0 → YesWritten w pattern target o.out
  pub none : o.status ≡ 1 → NoneWritten w pattern target o.out
  pub unknown : o.status ≡ 2 → UnknownWritten w pattern target o.accounts o.out
  pub proof : (p : ProveWords) → w.prove ≡ Some p → SolveProof o w p pattern target
  pub refused : o.status ≡ 4 → (role : Role) × (fault : TextFault)
      × IsFirstRefused pattern target w.ask role fault × Tells o.err (refusal_text role fault)
      × IsUntouched o.disk
  pub fault : o.status ≡ 5 → (IsAsBefore o.out × StopsAtFiles w pattern target o.accounts o.disk)
      ⊎ StopsInAnswer w pattern target o.accounts o.disk o.out
  pub no_memory : o.status ≡ 6 → StopsForMemory w pattern target o.accounts o.disk
  pub leads : SolveLeads o.status w pattern target

-- The status is `yes` or `none`.
abbrev pub IsDecided : ℕ → Type 0
IsDecided status = (status ≡ 0) ⊎ (status ≡ 1)

-- Two runs over the same files with the same options that choose the problem, whatever their threads, seeds, budgets, books and proofs: where both decide, they decide alike.
abbrev pub OneVerdict : Type 0
OneVerdict = (v w : SolveWords) (pattern target : Option (List ℕ)) (o u : Outcome)
    → v.ask ≡ w.ask
    → SolveStatus o v pattern target → SolveStatus u w pattern target
    → IsDecided o.status → IsDecided u.status → o.status ≡ u.status
