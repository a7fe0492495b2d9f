-- What a `batch` answers.

use Rattle.std.specs.Prelude.{◌≡◌, ℕ, ◌≤◌, ◌⊎◌, Bool, true, false, if◌then◌else◌, IsTrue, List, [], ◌∷◌, slice_get, Option, Some, Result, Ok, Err, All}
use Rattle.std.specs.List.{list_all}
use Rattle.graph_theory.specs.Graph.{size}
use Rattle.graph_theory.specs.Embedding.{Problem}
use Rattle.search_theory.specs.Account.{Account}
use Rattle.search_theory.specs.Bounds.{enough}
use Rattle.job_list.specs.Jobs.{JobText}
use Rattle.command_line.specs.declared.batch.BatchWords.{BatchWords}
use Rattle.command_line.specs.declared.commands.SolveWords.{SolveWords}
use Rattle.subgraph_cli.specs.Lines.{refusal_text, stop_status}
use Rattle.subgraph_cli.specs.Disk.{Disk, IsReadingOf}
use Rattle.subgraph_cli.specs.Streams.{Stream, IsAsBefore, Got, GotFront, Tells}
use Rattle.subgraph_cli.specs.Outcomes.{Outcome, TellsStatus, KeepsOutput, IsQuiet}
use Rattle.subgraph_cli.specs.Stops.{TellsFault}
use Rattle.subgraph_cli.specs.Completeness.{HasNoFault, IsOrNoMemory}
use Rattle.subgraph_cli.specs.Solving.{IsOrStops, SolveStatus, IsDecided}
use Rattle.whole_program.specs.Verdicts.{AreRight}
use Rattle.whole_program.specs.Texts.{verdicts_text}
use Rattle.whole_program.specs.Jobs.{HoldsList, HoldsNoList, AreAsked, IsFirstOfJobs, IsFaultOfJobs, job_ask}
use Rattle.whole_program.specs.declared.verdict.JobVerdict.{JobVerdict}
use Rattle.whole_program.specs.declared.verdict.JobVerdict.TheVariants.{Yes, Nothing, Unknown}
use Rattle.whole_program.specs.declared.batch.Batched.{Batched}
use Rattle.whole_program.specs.declared.batch.Batched.TheVariants.{AllDecided, SomeUnknown}
use Rattle.subgraph_cli.specs.declared.stop.Role.{Role}
use Rattle.subgraph_cli.specs.declared.stop.Role.TheVariants.{JobList}
use Rattle.subgraph_cli.specs.declared.stop.TextFault.{TextFault}
use Rattle.subgraph_cli.specs.declared.stop.Stop.{Stop}
use Rattle.subgraph_cli.specs.declared.stop.Stop.TheVariants.{Refused, FilesFault, OutputFault, NoMemory}

-- Whether a job is decided, and whether each is.
abbrev pub is_decided : JobVerdict → Bool
is_decided (Yes m) = true
is_decided Nothing = true
is_decided Unknown = false

abbrev pub are_decided : List JobVerdict → Bool
are_decided verdicts = list_all is_decided verdicts

-- What a batch comes to: whether one of its jobs is undecided.
abbrev pub batched_of : List JobVerdict → Batched
batched_of verdicts = if are_decided verdicts then AllDecided else SomeUnknown

-- The list and the files that it names ask problems, and the text tells a right verdict of each. Where one is undecided this is what the batch comes to.
pub record Decides (w : BatchWords) (content : List ℕ → Option (List ℕ)) (accounts : List Account)
    (batched : Batched) (text : List ℕ) : Type 0 where
  pub jobs : List JobText
  pub problems : List Problem
  pub verdicts : List JobVerdict
  pub list_is : HoldsList (content w.list) jobs
  pub asked : AreAsked content w.format jobs problems
  pub right : AreRight w.budget problems verdicts accounts
  pub batched_is : batched ≡ batched_of verdicts
  pub text_is : text ≡ verdicts_text verdicts

-- The verdicts were written.
pub record BatchWritten (w : BatchWords) (content : List ℕ → Option (List ℕ))
    (accounts : List Account) (batched : Batched) (out : Stream) : Type 0 where
  pub text : List ℕ
  pub decides : Decides w content accounts batched text
  pub written : Got out text

-- The output failed within the verdicts, of which it holds a front part.
pub record StopsInBatch (w : BatchWords) (content : List ℕ → Option (List ℕ))
    (accounts : List Account) (out : Stream) : Type 0 where
  pub batched : Batched
  pub text : List ℕ
  pub decides : Decides w content accounts batched text
  pub front : GotFront out text

-- The first text that is not good is this one, for this fault: the list, or where it is good a file that it names.
abbrev pub IsFirstOfBatch : BatchWords → (List ℕ → Option (List ℕ)) → Role → TextFault → Type 0
IsFirstOfBatch w content JobList fault = HoldsNoList (content w.list) fault
IsFirstOfBatch w content role fault = (jobs : List JobText) × HoldsList (content w.list) jobs
    × IsFirstOfJobs content w.format jobs role fault

-- The last fault was one of reading the list, or a file of a job where the list is good and the jobs before ask problems.
abbrev pub IsFaultOfBatch : BatchWords → Disk → Type 0
IsFaultOfBatch w d = IsReadingOf w.list d ⊎ ((jobs : List JobText)
    × (IsTrue d.tells → HoldsList (d.content w.list) jobs) × IsFaultOfJobs jobs w.format d)

-- What a batch says: what it comes to, or why it stopped.
abbrev pub BatchSays : Result Batched Stop → BatchWords → (List ℕ → Option (List ℕ))
    → List Account → Stream → Type 0
BatchSays (Ok batched) w content accounts out = BatchWritten w content accounts batched out
BatchSays (Err (Refused role fault)) w content accounts out = IsFirstOfBatch w content role fault
BatchSays (Err OutputFault) w content accounts out = StopsInBatch w content accounts out
BatchSays (Err FilesFault) w content accounts out = Unit {0}
BatchSays (Err NoMemory) w content accounts out = Unit {0}

-- What telling verdicts says: what the batch comes to where their lines were written, and else that the output failed within them.
abbrev pub TellingBatch : Result Batched Stop → List JobVerdict → Stream → Type 0
TellingBatch (Ok batched) verdicts out = (batched ≡ batched_of verdicts) × Got out (verdicts_text verdicts)
TellingBatch (Err OutputFault) verdicts out = GotFront out (verdicts_text verdicts)
TellingBatch (Err NoMemory) verdicts out = ⊥
TellingBatch (Err FilesFault) verdicts out = ⊥
TellingBatch (Err (Refused role fault)) verdicts out = ⊥

-- The status of an answer.
abbrev pub batched_status : Batched → ℕ
batched_status AllDecided = 0
batched_status SomeUnknown = 2

abbrev pub batch_status : Result Batched Stop → ℕ
batch_status (Ok batched) = batched_status batched
batch_status (Err stop) = stop_status stop

-- The budget is enough for the problem.
abbrev pub IsEnough : ℕ → Problem → Type 0
IsEnough budget q = enough (size q.pattern) (size q.target) ≤ budget

-- What the files lead to: an answer where each job asks a problem, a decision of all where the budget is enough for each, and a refusal where a text is not good.
pub record BatchLeads (status : ℕ) (w : BatchWords)
    (content : List ℕ → Option (List ℕ)) : Type 0 where
  pub answered : (jobs : List JobText) (problems : List Problem) → HoldsList (content w.list) jobs
      → AreAsked content w.format jobs problems → (status ≡ 0) ⊎ IsOrStops 2 status
  pub enough : (jobs : List JobText) (problems : List Problem) → HoldsList (content w.list) jobs
      → AreAsked content w.format jobs problems → All (IsEnough w.budget) problems
      → (status ≡ 2) → ⊥
  pub refused : (role : Role) (fault : TextFault) → IsFirstOfBatch w content role fault
      → IsOrStops 4 status

-- What the status of a batch says, where the files tell their contents.
pub record BatchStatus (o : Outcome) (w : BatchWords)
    (content : List ℕ → Option (List ℕ)) : Type 0 where
  pub decided : o.status ≡ 0 → BatchWritten w content o.accounts AllDecided o.out
  pub unknown : o.status ≡ 2 → BatchWritten w content o.accounts SomeUnknown o.out
  pub refused : o.status ≡ 4 → (role : Role) × (fault : TextFault)
      × IsFirstOfBatch w content role fault × Tells o.err (refusal_text role fault)
  pub fault : o.status ≡ 5 → IsAsBefore o.out ⊎ StopsInBatch w content o.accounts o.out
  pub leads : BatchLeads o.status w content

-- The statuses of a batch.
abbrev pub IsBatchStatus : ℕ → Type 0
IsBatchStatus s = (s ≡ 0) ⊎ ((s ≡ 2) ⊎ ((s ≡ 4) ⊎ ((s ≡ 5) ⊎ (s ≡ 6))))

-- How a batch ends, whatever its files hold: as a command for one problem does that does not write in parts.
pub record BatchEnds (w : BatchWords) (o : Outcome) : Type 0 where
  pub status : IsBatchStatus o.status
  pub fault : o.status ≡ 5 → TellsFault (IsFaultOfBatch w) o.disk o.out o.err
  pub told : TellsStatus o
  pub kept : KeepsOutput false o
  pub quiet : (o.status ≡ 5) ⊎ IsQuiet o

-- A batch whose jobs ask problems answers each of them, and decides each where the budget is enough.
pub record IsBatchWhole (status : ℕ) (w : BatchWords)
    (content : List ℕ → Option (List ℕ)) : Type 0 where
  pub answered : (jobs : List JobText) (problems : List Problem) → HoldsList (content w.list) jobs
      → AreAsked content w.format jobs problems → (status ≡ 0) ⊎ IsOrNoMemory 2 status
  pub enough : (jobs : List JobText) (problems : List Problem) → HoldsList (content w.list) jobs
      → AreAsked content w.format jobs problems → All (IsEnough w.budget) problems
      → IsOrNoMemory 0 status

-- What a run of a batch says: what its status says of the files, where they tell their contents, how it ends, and that without a fault it ends as its files ask for.
pub record BatchRan (w : BatchWords) (o : Outcome) : Type 0 where
  pub says : IsTrue o.disk.tells → BatchStatus o w o.disk.content
  pub ends : BatchEnds w o
  pub complete : HasNoFault o → IsTrue o.disk.tells → IsBatchWhole o.status w o.disk.content

-- The status that a `solve` of a job by itself has where it decides as this verdict.
abbrev pub VerdictOf : JobVerdict → ℕ → Type 0
VerdictOf (Yes m) status = status ≡ 0
VerdictOf Nothing status = status ≡ 1
VerdictOf Unknown status = Unit {0}

-- A line that is decided tells what a `solve` of its job by itself decides, over the same files and with the words that ask the same, whatever its other options.
abbrev pub DecidesAsAlone : Type 0
DecidesAsAlone = (w : BatchWords) (s : SolveWords) (content : List ℕ → Option (List ℕ))
    (accounts : List Account) (batched : Batched) (text : List ℕ)
    (d : Decides w content accounts batched text) (place : ℕ) (job : JobText)
    (verdict : JobVerdict) (o : Outcome)
    → slice_get d.jobs place ≡ Some job → slice_get d.verdicts place ≡ Some verdict
    → s.ask ≡ job_ask w.format job
    → SolveStatus o s (content job.pattern) (content job.target)
    → IsDecided o.status → VerdictOf verdict o.status
