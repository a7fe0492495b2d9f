-- What a run comes to where no call on the files or the output failed: the answer that its files ask for, or memory was refused.

use Rattle.std.specs.Prelude.{◌≡◌, ℕ, ◌≤◌, ◌⊎◌, IsTrue, List, Option}
use Rattle.graph_theory.specs.Graph.{size}
use Rattle.graph_theory.specs.Embedding.{Problem, Embeds, HasNone}
use Rattle.search_theory.specs.Bounds.{enough}
use Rattle.log_theory.specs.OpbText.{OpbModel}
use Rattle.log_theory.specs.Verdicts.{verdict_of}
use Rattle.log_theory.specs.declared.step.Verdict.TheVariants as verdict
use Rattle.log_theory.specs.declared.step.Cause.{Cause}
use Rattle.outer_io.specs.Faults.{Rose}
use Rattle.command_line.specs.declared.commands.Command.{Command}
use Rattle.command_line.specs.declared.commands.Command.TheVariants.{Solve, Verify, Encode, Check, Trim, Demo}
use Rattle.command_line.specs.declared.commands.SolveWords.{SolveWords}
use Rattle.command_line.specs.declared.commands.VerifyWords.{VerifyWords}
use Rattle.command_line.specs.declared.commands.EncodeWords.{EncodeWords}
use Rattle.command_line.specs.declared.commands.DemoWords.{DemoWords}
use Rattle.demo_instances.specs.SeedProblems.{IsPlanted, IsCycle}
use Rattle.subgraph_cli.specs.Streams.{Failed}
use Rattle.subgraph_cli.specs.Outcomes.{Outcome}
use Rattle.subgraph_cli.specs.Questions.{Asks}
use Rattle.subgraph_cli.specs.Verifying.{AsksOf}
use Rattle.subgraph_cli.specs.Checking.{Holds, verdict_of_claim}
use Rattle.subgraph_cli.specs.declared.check.Claim.{Claim}
use Rattle.subgraph_cli.specs.Demonstrating.{IsEnoughFor}

-- Neither the count of the files' faults nor that of the output's has risen.
pub record HasNoFault (o : Outcome) : Type 0 where
  pub files : Rose o.disk.faults_before o.disk.faults_after → ⊥
  pub output : Failed o.out → ⊥

-- The status is this one, or memory was refused.
abbrev pub IsOrNoMemory : ℕ → ℕ → Type 0
IsOrNoMemory due status = (status ≡ due) ⊎ (status ≡ 6)

-- A solve whose files ask a problem answers yes, none or unknown, and within a budget that is enough it answers yes where an embedding exists and none where none does.
pub record IsSolved (status : ℕ) (w : SolveWords) (pattern target : Option (List ℕ)) : Type 0 where
  pub answered : (q : Problem) → Asks pattern target w.ask q → (status ≡ 0)
      ⊎ ((status ≡ 1) ⊎ IsOrNoMemory 2 status)
  pub found : (q : Problem) (m : List ℕ) → Asks pattern target w.ask q
      → enough (size q.pattern) (size q.target) ≤ w.budget → Embeds q m → IsOrNoMemory 0 status
  pub refuted : (q : Problem) → Asks pattern target w.ask q
      → enough (size q.pattern) (size q.target) ≤ w.budget → HasNone q → IsOrNoMemory 1 status

-- A verify whose files ask a problem and hold a mapping tells whether it embeds.
pub record IsVerified (status : ℕ) (w : VerifyWords)
    (pattern target mapping : Option (List ℕ)) : Type 0 where
  pub embedding : (q : Problem) (m : List ℕ) → AsksOf w pattern target mapping q m → Embeds q m
      → IsOrNoMemory 0 status
  pub not_embedding : (q : Problem) (m : List ℕ) → AsksOf w pattern target mapping q m
      → (Embeds q m → ⊥) → IsOrNoMemory 7 status

-- An encode whose files ask a problem encodes it.
abbrev pub IsEncodedWhole : ℕ → EncodeWords → Option (List ℕ) → Option (List ℕ) → Type 0
IsEncodedWhole status w pattern target = (q : Problem) → Asks pattern target w.ask q
    → IsOrNoMemory 0 status

-- A check whose files hold a model and a log tells the log's verdict.
pub record IsChecked (status : ℕ) (encoding log : Option (List ℕ)) : Type 0 where
  pub accepted : (m : OpbModel) (text : List ℕ) (claim : Claim) → Holds encoding log m text
      → verdict_of m.variables m.constraints text ≡ verdict_of_claim claim → IsOrNoMemory 0 status
  pub refused_log : (m : OpbModel) (text : List ℕ) (line : ℕ) (cause : Cause)
      → Holds encoding log m text
      → verdict_of m.variables m.constraints text ≡ verdict.Refused line cause
      → IsOrNoMemory 7 status

-- A trim whose files hold a model and a log trims the log where it is accepted.
pub record IsTrimmedWhole (status : ℕ) (encoding log : Option (List ℕ)) : Type 0 where
  pub accepted : (m : OpbModel) (text : List ℕ) (claim : Claim) → Holds encoding log m text
      → verdict_of m.variables m.constraints text ≡ verdict_of_claim claim → IsOrNoMemory 0 status
  pub refused_log : (m : OpbModel) (text : List ℕ) (line : ℕ) (cause : Cause)
      → Holds encoding log m text
      → verdict_of m.variables m.constraints text ≡ verdict.Refused line cause
      → IsOrNoMemory 7 status

-- A demo tells of both problems whether they are decided, and a budget that is enough decides them.
pub record IsShown (status : ℕ) (w : DemoWords) : Type 0 where
  pub answered : (status ≡ 0) ⊎ IsOrNoMemory 2 status
  pub decided : IsEnoughFor (IsPlanted w.seed) w.budget → IsEnoughFor (IsCycle w.seed) w.budget
      → IsOrNoMemory 0 status

-- The run ends as its files ask for, where they tell what they hold; a demo has none.
abbrev pub IsComplete : Command → Outcome → Type 0
IsComplete (Solve w) o =
    IsTrue o.disk.tells → IsSolved o.status w (o.disk.content w.pattern) (o.disk.content w.target)
IsComplete (Verify w) o =
    IsTrue o.disk.tells → IsVerified o.status w (o.disk.content w.pattern)
    (o.disk.content w.target) (o.disk.content w.mapping)
IsComplete (Encode w) o = IsTrue o.disk.tells
    → IsEncodedWhole o.status w (o.disk.content w.pattern) (o.disk.content w.target)
IsComplete (Check w) o =
    IsTrue o.disk.tells → IsChecked o.status (o.disk.content w.encoding) (o.disk.content w.log)
IsComplete (Trim w) o =
    IsTrue o.disk.tells → IsTrimmedWhole o.status (o.disk.content w.encoding) (o.disk.content w.log)
IsComplete (Demo w) o = IsShown o.status w
