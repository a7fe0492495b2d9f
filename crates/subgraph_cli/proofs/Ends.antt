-- How the ends of a command leave the streams and the files: an answer, a bad mapping or log, and each way to stop.

use Rattle.std.specs.Prelude.{◌≡◌, ℕ, ◌≤◌, ◌⊎◌, Bool, true, false, List, Result, Ok, Err, IsErrOf, refl}
use Rattle.std.proofs.Common.{inl, inr, arith}
use Rattle.search_theory.specs.Account.{Account}
use Rattle.command_line.specs.declared.commands.Command.{Command}
use Rattle.subgraph_cli.specs.Lines.{stop_text, stop_status}
use Rattle.subgraph_cli.specs.Disk.{Disk}
use Rattle.subgraph_cli.specs.Streams.{Stream, IsAsBefore, Failed, Tells}
use Rattle.subgraph_cli.specs.Outcomes.{outcome, IsQuiet}
use Rattle.subgraph_cli.specs.Stops.{HasCause, SparesOutput, SparesInParts, TellsFault}
use Rattle.subgraph_cli.specs.Running.{IsFaultOf, writes_in_parts, IsStatusOf, TellsBad, IsEndOf}
use Rattle.subgraph_cli.specs.declared.stop.Role.{Role}
use Rattle.subgraph_cli.specs.declared.stop.TextFault.{TextFault}
use Rattle.subgraph_cli.specs.declared.stop.Stop.{Stop}
use Rattle.subgraph_cli.specs.declared.stop.Stop.TheVariants.{Refused, FilesFault, OutputFault, NoMemory}

-- An answer is no error, so that nothing has failed.
pub ok_quiet : {A : Type 0} (answer : A) (s : Stop) (before after : ℕ) → IsErrOf (Ok answer) s ⊎ (after ≡ before) → after ≡ before
ok_quiet answer s before after (inl e) = cc
ok_quiet answer s before after (inr same) = same

-- Nor is another way to stop.
pub stop_quiet : {A : Type 0} (r : Result A Stop) (s fault : Stop) (before after : ℕ) → r ≡ Err s → (s ≡ fault → ⊥) → IsErrOf r fault ⊎ (after ≡ before) → after ≡ before
stop_quiet r s fault before after is other (inl e) = let same : s ≡ fault = cc in absurd (other same)
stop_quiet r s fault before after is other (inr same) = same

-- An answer, of which the error stream is told nothing.
pub answer_ends : (c : Command) (n : ℕ) (accounts : List Account) (d : Disk) (out err : Stream) → n ≤ 2 → IsStatusOf c n → IsAsBefore err
    → IsQuiet (outcome n accounts d out err) → IsEndOf c (outcome n accounts d out err)
answer_ends c n accounts d out err low status silent quiet = record {
  status = status;
  fault = λ e. absurd (omega arith);
  told = record { silent = λ _. silent; no_command = λ e. absurd (omega arith); refused = λ e. absurd (omega arith); no_memory = λ e. absurd (omega arith) };
  bad = λ e. absurd (omega arith);
  kept = record { no_command = λ e. absurd (omega arith); refused = λ e. absurd (omega arith); no_memory = λ p e. absurd (omega arith); bad = λ e. absurd (omega arith) };
  quiet = inr quiet;
}

-- A mapping that is no embedding, or a log that is refused.
pub bad_ends : (c : Command) (accounts : List Account) (d : Disk) (out err : Stream) → IsStatusOf c 7 → IsAsBefore out → TellsBad c err
    → IsQuiet (outcome 7 accounts d out err) → IsEndOf c (outcome 7 accounts d out err)
bad_ends c accounts d out err status kept line quiet = record {
  status = status;
  fault = λ e. absurd (omega arith);
  told = record { silent = λ e. absurd (omega arith); no_command = λ e. absurd (omega arith); refused = λ e. absurd (omega arith); no_memory = λ e. absurd (omega arith) };
  bad = λ _. line;
  kept = record { no_command = λ e. absurd (omega arith); refused = λ e. absurd (omega arith); no_memory = λ p e. absurd (omega arith); bad = λ _. kept };
  quiet = inr quiet;
}

-- A text that is refused.
pub refusal_ends : (c : Command) (role : Role) (fault : TextFault) (accounts : List Account) (d : Disk) (out err : Stream) → IsStatusOf c 4
    → IsAsBefore out → Tells err (stop_text (Refused role fault)) → IsQuiet (outcome 4 accounts d out err) → IsEndOf c (outcome 4 accounts d out err)
refusal_ends c role fault accounts d out err status kept line quiet = record {
  status = status;
  fault = λ e. absurd (omega arith);
  told = record { silent = λ e. absurd (omega arith); no_command = λ e. absurd (omega arith); refused = λ _. (role, fault, line); no_memory = λ e. absurd (omega arith) };
  bad = λ e. absurd (omega arith);
  kept = record { no_command = λ e. absurd (omega arith); refused = λ _. kept; no_memory = λ p e. absurd (omega arith); bad = λ e. absurd (omega arith) };
  quiet = inr quiet;
}

-- A fault of the files or the output.
fault_ends : (c : Command) (accounts : List Account) (d : Disk) (out err : Stream) → IsStatusOf c 5
    → TellsFault (IsFaultOf c) d out err → IsEndOf c (outcome 5 accounts d out err)
fault_ends c accounts d out err status fault = record {
  status = status;
  fault = λ _. fault;
  told = record { silent = λ e. absurd (omega arith); no_command = λ e. absurd (omega arith); refused = λ e. absurd (omega arith); no_memory = λ e. absurd (omega arith) };
  bad = λ e. absurd (omega arith);
  kept = record { no_command = λ e. absurd (omega arith); refused = λ e. absurd (omega arith); no_memory = λ p e. absurd (omega arith); bad = λ e. absurd (omega arith) };
  quiet = inl refl;
}

-- Want of memory; the output is as it was unless the command writes in parts.
pub memory_ends : (c : Command) (accounts : List Account) (d : Disk) (out err : Stream) → IsStatusOf c 6
    → (writes_in_parts c ≡ false → IsAsBefore out) → Tells err (stop_text NoMemory) → IsQuiet (outcome 6 accounts d out err) → IsEndOf c (outcome 6 accounts d out err)
memory_ends c accounts d out err status kept line quiet = record {
  status = status;
  fault = λ e. absurd (omega arith);
  told = record { silent = λ e. absurd (omega arith); no_command = λ e. absurd (omega arith); refused = λ e. absurd (omega arith); no_memory = λ _. line };
  bad = λ e. absurd (omega arith);
  kept = record { no_command = λ e. absurd (omega arith); refused = λ e. absurd (omega arith); no_memory = λ p _. kept p; bad = λ e. absurd (omega arith) };
  quiet = inr quiet;
}

-- Whether the output was spared, by whether the command writes in parts.
abbrev pub Spares : Bool → Stop → Stream → Type 0
Spares false s out = SparesOutput s out
Spares true s out = SparesInParts s out

-- In parts or not, a refused text leaves the output as it was.
spared_at_refusal : (parts : Bool) (role : Role) (fault : TextFault) (out : Stream) → Spares parts (Refused role fault) out → IsAsBefore out
spared_at_refusal false role fault out spares = spares
spared_at_refusal true role fault out spares = spares

spared_at_fault : (parts : Bool) (out : Stream) → Spares parts FilesFault out → IsAsBefore out
spared_at_fault false out spares = spares
spared_at_fault true out spares = spares

failed_at_fault : (parts : Bool) (out : Stream) → Spares parts OutputFault out → Failed out
failed_at_fault false out spares = spares
failed_at_fault true out spares = spares

spared_at_memory : (parts : Bool) (out : Stream) → Spares parts NoMemory out → parts ≡ false → IsAsBefore out
spared_at_memory false out spares e = spares
spared_at_memory true out spares e = let no : true ≡ false = e in cc

-- What a command's stop says is how it ends; r is what the command came to.
pub stop_ends : {A : Type 0} (c : Command) (r : Result A Stop) (s : Stop) (accounts : List Account) (d : Disk) (out err : Stream)
    → r ≡ Err s → IsStatusOf c (stop_status s) → HasCause s (IsFaultOf c) d → Spares (writes_in_parts c) s out
    → (IsErrOf r FilesFault ⊎ (d.faults_after ≡ d.faults_before)) → (IsErrOf r OutputFault ⊎ (out.faults_after ≡ out.faults_before))
    → Tells err (stop_text s) → IsEndOf c (outcome (stop_status s) accounts d out err)
stop_ends c r (Refused role fault) accounts d out err is status cause spares files output line =
    refusal_ends c role fault accounts d out err status (spared_at_refusal (writes_in_parts c) role fault out spares) line record {
      files = stop_quiet r (Refused role fault) FilesFault d.faults_before d.faults_after is (λ (e : Refused role fault ≡ FilesFault). cc) files;
      output = stop_quiet r (Refused role fault) OutputFault out.faults_before out.faults_after is (λ (e : Refused role fault ≡ OutputFault). cc) output;
    }
stop_ends c r FilesFault accounts d out err is status cause spares files output line =
    fault_ends c accounts d out err status (inl (cause, spared_at_fault (writes_in_parts c) out spares, line))
stop_ends c r OutputFault accounts d out err is status cause spares files output line =
    fault_ends c accounts d out err status (inr (failed_at_fault (writes_in_parts c) out spares, line))
stop_ends c r NoMemory accounts d out err is status cause spares files output line =
    memory_ends c accounts d out err status (spared_at_memory (writes_in_parts c) out spares) line record {
      files = stop_quiet r NoMemory FilesFault d.faults_before d.faults_after is (λ (e : NoMemory ≡ FilesFault). cc) files;
      output = stop_quiet r NoMemory OutputFault out.faults_before out.faults_after is (λ (e : NoMemory ≡ OutputFault). cc) output;
    }
