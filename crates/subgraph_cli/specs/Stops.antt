-- Why a command stopped: what each way says of the files, of the output and of the error stream.

use Rattle.std.specs.Prelude.{◌⊎◌, Result, Ok, Err}
use Rattle.outer_io.specs.Faults.{Rose}
use Rattle.subgraph_cli.specs.Lines.{stop_text, files_fault_text, output_fault_text}
use Rattle.subgraph_cli.specs.Disk.{Disk}
use Rattle.subgraph_cli.specs.Streams.{Stream, IsAsBefore, Failed, Tells}
use Rattle.subgraph_cli.specs.declared.stop.Stop.{Stop}
use Rattle.subgraph_cli.specs.declared.stop.Stop.TheVariants.{Refused, FilesFault, OutputFault, NoMemory}

-- A fault of the files: their count has risen, and this is so of the file of the last one.
pub record FilesFailed (blame : Disk → Type 0) (d : Disk) : Type 0 where
  pub rose : Rose d.faults_before d.faults_after
  pub of_one : blame d

-- A command stops for a fault of the files only where one was counted, of a file of which this is so.
abbrev pub HasCause : Stop → (Disk → Type 0) → Disk → Type 0
HasCause FilesFault blame d = FilesFailed blame d
HasCause OutputFault blame d = Unit {0}
HasCause (Refused role fault) blame d = Unit {0}
HasCause NoMemory blame d = Unit {0}

-- Loading does not stop for the output.
abbrev pub IsOfFiles : Stop → Type 0
IsOfFiles FilesFault = Unit {0}
IsOfFiles OutputFault = ⊥
IsOfFiles (Refused role fault) = Unit {0}
IsOfFiles NoMemory = Unit {0}

-- It stops for a fault of the output only where one was counted, and leaves the output as it was where it stops for another reason.
abbrev pub SparesOutput : Stop → Stream → Type 0
SparesOutput OutputFault out = Failed out
SparesOutput FilesFault out = IsAsBefore out
SparesOutput (Refused role fault) out = IsAsBefore out
SparesOutput NoMemory out = IsAsBefore out

-- The same of a command that writes its answer part by part: what was written before memory was refused stays.
abbrev pub SparesInParts : Stop → Stream → Type 0
SparesInParts OutputFault out = Failed out
SparesInParts FilesFault out = IsAsBefore out
SparesInParts (Refused role fault) out = IsAsBefore out
SparesInParts NoMemory out = Unit {0}

-- The error stream is given a line where the command stopped, and else nothing.
abbrev pub TellsStop : {T : Type 0} → Result T Stop → Stream → Type 0
TellsStop (Ok answer) err = IsAsBefore err
TellsStop (Err stop) err = Tells err (stop_text stop)

-- One of the files or the output failed, and the error stream is told which; at a fault of the files the output is as it was.
abbrev pub TellsFault : (Disk → Type 0) → Disk → Stream → Stream → Type 0
TellsFault blame d out err = (FilesFailed blame d × IsAsBefore out × Tells err files_fault_text)
    ⊎ (Failed out × Tells err output_fault_text)
