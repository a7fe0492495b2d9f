-- What a run of the program leaves, and what its status says by itself.

use Rattle.std.specs.Prelude.{◌≡◌, ℕ, ◌≤◌, Bool, false, List}
use Rattle.search_theory.specs.Account.{Account}
use Rattle.subgraph_cli.specs.Lines.{no_command_text, no_memory_text, refusal_text}
use Rattle.subgraph_cli.specs.Disk.{Disk}
use Rattle.subgraph_cli.specs.Streams.{Stream, IsAsBefore, Tells}
use Rattle.subgraph_cli.specs.declared.stop.Role.{Role}
use Rattle.subgraph_cli.specs.declared.stop.TextFault.{TextFault}

-- The status, the accounts of undecided searches, the files and the two streams, before the run and after it.
pub record Outcome : Type 0 where
  pub status : ℕ
  pub accounts : List Account
  pub disk : Disk
  pub out : Stream
  pub err : Stream

abbrev pub outcome : ℕ → List Account → Disk → Stream → Stream → Outcome
outcome status accounts disk out err =
    record { status = status; accounts = accounts; disk = disk; out = out; err = err }

-- What the error stream is given: nothing at an answer, and a line that its status fixes where there is no command and where memory was refused; where a text is refused, the line says which and why.
pub record TellsStatus (o : Outcome) : Type 0 where
  pub silent : o.status ≤ 2 → IsAsBefore o.err
  pub no_command : o.status ≡ 3 → Tells o.err no_command_text
  pub refused : o.status ≡ 4 → (role : Role) × (fault : TextFault)
      × Tells o.err (refusal_text role fault)
  pub no_memory : o.status ≡ 6 → Tells o.err no_memory_text

-- Where no answer is written the output is as it was; want of memory can come within an answer that is written part by part.
pub record KeepsOutput (in_parts : Bool) (o : Outcome) : Type 0 where
  pub no_command : o.status ≡ 3 → IsAsBefore o.out
  pub refused : o.status ≡ 4 → IsAsBefore o.out
  pub no_memory : in_parts ≡ false → o.status ≡ 6 → IsAsBefore o.out
  pub bad : o.status ≡ 7 → IsAsBefore o.out

-- No call on the files or the output has failed.
pub record IsQuiet (o : Outcome) : Type 0 where
  pub files : o.disk.faults_after ≡ o.disk.faults_before
  pub output : o.out.faults_after ≡ o.out.faults_before
