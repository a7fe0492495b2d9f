-- What the words ask for, and what the program's status says of it.

use Rattle.std.specs.Prelude.{◌≡◌, ℕ, ◌⊎◌, Bool, true, false, IsTrue, List, Option, Some, None}
use Rattle.log_theory.specs.declared.step.Cause.{Cause}
use Rattle.command_line.specs.declared.commands.Command.{Command}
use Rattle.command_line.specs.declared.commands.Command.TheVariants.{Solve, Verify, Encode, Check, Trim, Demo}
use Rattle.subgraph_cli.specs.Lines.{no_embedding_text, log_text}
use Rattle.subgraph_cli.specs.Disk.{Disk}
use Rattle.subgraph_cli.specs.Streams.{Stream, IsAsBefore, Tells}
use Rattle.subgraph_cli.specs.Outcomes.{Outcome, TellsStatus, KeepsOutput, IsQuiet}
use Rattle.subgraph_cli.specs.Stops.{TellsFault}
use Rattle.subgraph_cli.specs.Questions.{IsFaultOfTwo}
use Rattle.subgraph_cli.specs.Proving.{IsOfProof, IsFaultOfSolve}
use Rattle.subgraph_cli.specs.Solving.{SolveStatus}
use Rattle.subgraph_cli.specs.Verifying.{VerifyStatus, IsFaultOfThree}
use Rattle.subgraph_cli.specs.Encoded.{EncodeStatus}
use Rattle.subgraph_cli.specs.Checking.{CheckStatus, IsFaultOfCheck}
use Rattle.subgraph_cli.specs.Trimming.{TrimStatus, IsFaultOfTrim}
use Rattle.subgraph_cli.specs.Demonstrating.{DemoStatus}
use Rattle.subgraph_cli.specs.Completeness.{HasNoFault, IsComplete}

-- The last fault of the files was of one that the command reads or writes, and each that it reads before is good.
abbrev pub IsFaultOf : Command → Disk → Type 0
IsFaultOf (Solve w) d = IsFaultOfSolve w d
IsFaultOf (Verify w) d = IsFaultOfThree w d
IsFaultOf (Encode w) d = IsFaultOfTwo w.pattern w.target w.ask d
IsFaultOf (Check w) d = IsFaultOfCheck w d
IsFaultOf (Trim w) d = IsFaultOfTrim w d
IsFaultOf (Demo w) d = ⊥

-- The file is one that the command writes; without a command there is none.
abbrev pub IsWritten : Option Command → List ℕ → Type 0
IsWritten None file = ⊥
IsWritten (Some (Solve w)) file = IsOfProof w.prove file
IsWritten (Some (Verify w)) file = ⊥
IsWritten (Some (Encode w)) file = ⊥
IsWritten (Some (Check w)) file = ⊥
IsWritten (Some (Trim w)) file = file ≡ w.out
IsWritten (Some (Demo w)) file = ⊥

-- Whether the command writes its answer part by part, so that want of memory can come within it.
abbrev pub writes_in_parts : Command → Bool
writes_in_parts (Solve w) = false
writes_in_parts (Verify w) = false
writes_in_parts (Encode w) = true
writes_in_parts (Check w) = false
writes_in_parts (Trim w) = false
writes_in_parts (Demo w) = false

-- What the status says of the command: of the contents of its files, where they tell these.
abbrev pub StatusSays : Command → Outcome → Type 0
StatusSays (Solve w) o =
    IsTrue o.disk.tells → SolveStatus o w (o.disk.content w.pattern) (o.disk.content w.target)
StatusSays (Verify w) o =
    IsTrue o.disk.tells → VerifyStatus o w (o.disk.content w.pattern) (o.disk.content w.target)
    (o.disk.content w.mapping)
StatusSays (Encode w) o =
    IsTrue o.disk.tells → EncodeStatus o w (o.disk.content w.pattern) (o.disk.content w.target)
StatusSays (Check w) o =
    IsTrue o.disk.tells → CheckStatus o (o.disk.content w.encoding) (o.disk.content w.log)
StatusSays (Trim w) o =
    IsTrue o.disk.tells → TrimStatus o w (o.disk.content w.encoding) (o.disk.content w.log)
StatusSays (Demo w) o = DemoStatus o w

-- The statuses of a command.
abbrev pub IsStatusOf : Command → ℕ → Type 0
IsStatusOf (Solve w) s = (s ≡ 0) ⊎ ((s ≡ 1) ⊎ ((s ≡ 2) ⊎ ((s ≡ 4) ⊎ ((s ≡ 5) ⊎ (s ≡ 6)))))
IsStatusOf (Verify w) s = (s ≡ 0) ⊎ ((s ≡ 4) ⊎ ((s ≡ 5) ⊎ ((s ≡ 6) ⊎ (s ≡ 7))))
IsStatusOf (Encode w) s = (s ≡ 0) ⊎ ((s ≡ 4) ⊎ ((s ≡ 5) ⊎ (s ≡ 6)))
IsStatusOf (Check w) s = (s ≡ 0) ⊎ ((s ≡ 4) ⊎ ((s ≡ 5) ⊎ ((s ≡ 6) ⊎ (s ≡ 7))))
IsStatusOf (Trim w) s = (s ≡ 0) ⊎ ((s ≡ 4) ⊎ ((s ≡ 5) ⊎ ((s ≡ 6) ⊎ (s ≡ 7))))
IsStatusOf (Demo w) s = (s ≡ 0) ⊎ ((s ≡ 2) ⊎ ((s ≡ 5) ⊎ (s ≡ 6)))

-- The line that the error stream is given at status 7: the mapping is no embedding, or the log is refused, at a line and for a cause.
abbrev pub TellsBad : Command → Stream → Type 0
TellsBad (Verify w) err = Tells err no_embedding_text
TellsBad (Check w) err = (line : ℕ) × (cause : Cause) × Tells err (log_text line cause)
TellsBad (Trim w) err = (line : ℕ) × (cause : Cause) × Tells err (log_text line cause)
TellsBad (Solve w) err = ⊥
TellsBad (Encode w) err = ⊥
TellsBad (Demo w) err = ⊥

-- How a command ends, whatever its files hold: by one of its statuses, at a fault with its cause, the error stream told and the output kept as the status says, and without any fault where the status is not that of one.
pub record IsEndOf (c : Command) (o : Outcome) : Type 0 where
  pub status : IsStatusOf c o.status
  pub fault : o.status ≡ 5 → TellsFault (IsFaultOf c) o.disk o.out o.err
  pub told : TellsStatus o
  pub bad : o.status ≡ 7 → TellsBad c o.err
  pub kept : KeepsOutput (writes_in_parts c) o
  pub quiet : (o.status ≡ 5) ⊎ IsQuiet o

-- What a run of a command says: what its status says of the files, how it ends, and that without a fault it ends as its files ask for.
pub record Ran (c : Command) (o : Outcome) : Type 0 where
  pub says : StatusSays c o
  pub ends : IsEndOf c o
  pub complete : HasNoFault o → IsComplete c o

-- How a run ends whose words are no command: that is told, or memory was refused, and nothing else was done.
pub record EndsWithout (o : Outcome) : Type 0 where
  pub status : (o.status ≡ 3) ⊎ (o.status ≡ 6)
  pub told : TellsStatus o
  pub kept : IsAsBefore o.out
  pub quiet : IsQuiet o
