-- What the files of a proof hold: the encoding of a problem, and a log over it.

use Rattle.std.specs.Prelude.{◌≡◌, ℕ, ◌⊎◌, IsTrue, List, length, Option, Some, IfSome, IsSomeAnd}
use Rattle.graph_theory.specs.Embedding.{Problem, Embeds, HasNone}
use Rattle.search_theory.specs.Account.{Account}
use Rattle.parallel_solve.specs.Solving.{AreSpent}
use Rattle.encoding_theory.specs.Variables.{variables}
use Rattle.encoding_theory.specs.Encoding.{encoding}
use Rattle.log_theory.specs.declared.step.Verdict.{Verdict}
use Rattle.log_theory.specs.declared.step.Verdict.TheVariants.{Satisfiable, Unsatisfiable, Undecided}
use Rattle.log_theory.specs.Acceptance.{Accepts}
use Rattle.pb_encoding.specs.Writing.{encoding_text}
use Rattle.log_theory.specs.Profiles.{log_profile}
use Rattle.merged_log.specs.Profiles.{in_profile}
use Rattle.merged_log.specs.Steps.{log_text}
use Rattle.merged_log.specs.Answers.{solution, undecided, embedding_ones}
use Rattle.proof_files.specs.Findings.{Texts}
use Rattle.proof_files.specs.TwoFiles.{TwoFiles, IsWritingOf}
use Rattle.command_line.specs.declared.commands.ProveWords.{ProveWords}
use Rattle.command_line.specs.declared.commands.SolveWords.{SolveWords}
use Rattle.subgraph_cli.specs.Disk.{Disk}
use Rattle.subgraph_cli.specs.Questions.{Asks, IsFaultOfTwo}
use Rattle.subgraph_cli.specs.declared.solve.Decision.{Decision}
use Rattle.subgraph_cli.specs.declared.solve.Decision.TheVariants.{Yes, Nothing, Unknown}

-- The file is one of those that a proof is written to, where one is asked for.
abbrev pub IsOfProof : Option ProveWords → List ℕ → Type 0
IsOfProof prove file = IsSomeAnd prove (λ p. (file ≡ p.encoding) ⊎ (file ≡ p.log))

-- The log of an embedding: the head, and the line of the variables that are true in it.
abbrev pub map_log : Problem → List ℕ → List ℕ
map_log q m = log_text (solution (length (encoding q)) (embedding_ones q m))

-- The log that claims nothing: the head, and a last line.
abbrev pub open_log : Problem → List ℕ
open_log q = log_text (undecided (length (encoding q)))

-- The two files hold the encoding of the problem and this log in the profile that is asked for: with its hints, or with these dropped. The log as it is held is of this profile, and is accepted over the encoding with this verdict.
pub record HoldProof (p : ProveWords) (held : List ℕ → Option (List ℕ)) (q : Problem) (log : List ℕ)
    (verdict : Verdict) : Type 0 where
  pub encoding_is : held p.encoding ≡ Some (encoding_text q)
  pub log_is : held p.log ≡ Some (in_profile p.profile log)
  pub profile_is : log_profile (in_profile p.profile log) ≡ Some p.profile
  pub accepts : Accepts (variables q) (encoding q) (in_profile p.profile log) verdict

-- Where a proof is asked for, the files hold it: the log is that of an embedding.
abbrev pub ShowsMap : Option ProveWords → (List ℕ → Option (List ℕ)) → Problem → List ℕ → Type 0
ShowsMap prove held q m = IfSome prove (λ p. HoldProof p held q (map_log q m) Satisfiable)

-- The log is a refutation, also with its hints.
abbrev pub ShowsNone : Option ProveWords → (List ℕ → Option (List ℕ)) → Problem → Type 0
ShowsNone prove held q = IfSome prove (λ p. (log : List ℕ)
    × Accepts (variables q) (encoding q) log Unsatisfiable × HoldProof p held q log Unsatisfiable)

-- The log claims nothing.
abbrev pub ShowsNothing : Option ProveWords → (List ℕ → Option (List ℕ)) → Problem → Type 0
ShowsNothing prove held q = IfSome prove (λ p. HoldProof p held q (open_log q) Undecided)

-- This is the log of a decision on the problem: that of an embedding, a refutation that is accepted, or the one that claims nothing.
abbrev pub IsLogOf : Decision → Problem → List ℕ → Type 0
IsLogOf Yes q log = (m : List ℕ) × Embeds q m × (log ≡ map_log q m)
IsLogOf Nothing q log = HasNone q × Accepts (variables q) (encoding q) log Unsatisfiable
IsLogOf Unknown q log = log ≡ open_log q

-- The decision was reached: its log shows an embedding or that none exists, and where there is neither each of the threads spent its budget, as their accounts show.
abbrev pub IsReached : Decision → Problem → SolveWords → List Account → Type 0
IsReached Yes q w accounts = Unit {0}
IsReached Nothing q w accounts = Unit {0}
IsReached Unknown q w accounts = AreSpent q w.threads w.budget accounts

-- The files as the writing of a proof speaks of them.
abbrev pub files_of : ProveWords → Disk → TwoFiles
files_of p d = record {
  encoding = p.encoding;
  log = p.log;
  tells = d.tells;
  before = d.content;
  after = d.after;
  faults_before = d.faults_before;
  faults_after = d.faults_after;
  fault_at = d.fault_at;
}

-- A proof is asked for, and its writing stopped in this way, once a decision was reached on the problem that the graphs' files ask.
pub record StopsInProof (stops : TwoFiles → Texts → Type 0) (w : SolveWords)
    (pattern target : Option (List ℕ)) (accounts : List Account) (d : Disk) : Type 0 where
  pub names : ProveWords
  pub asked : w.prove ≡ Some names
  pub problem : Problem
  pub asks : Asks pattern target w.ask problem
  pub decision : Decision
  pub reached : IsReached decision problem w accounts
  pub log : List ℕ
  pub log_is : IsLogOf decision problem log
  pub stopped : stops (files_of names d)
      (record { encoding = encoding_text problem; log = in_profile names.profile log })

-- The last call that failed was one of writing one of the two files.
abbrev pub IsWritingOfProof : Option ProveWords → Disk → Type 0
IsWritingOfProof prove d = IsSomeAnd prove (λ p. IsWritingOf p.encoding (files_of p d)
    ⊎ IsWritingOf p.log (files_of p d))

-- The last fault was one of reading the two graphs, or of writing the proof where the graphs' files ask a problem.
abbrev pub IsFaultOfSolve : SolveWords → Disk → Type 0
IsFaultOfSolve w d =
    IsFaultOfTwo w.pattern w.target w.ask d ⊎ (IsWritingOfProof w.prove d
    × (IsTrue d.tells → (q : Problem)
    × Asks (d.content w.pattern) (d.content w.target) w.ask q))
