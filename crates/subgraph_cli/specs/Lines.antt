-- The lines that the program writes.

use Rattle.std.specs.Prelude.{ℕ, List, [], ◌∷◌, ◌++◌, codes}
use Rattle.std.specs.Fmt.{decimal}
use Rattle.graph_theory.specs.declared.lad_text.LadCause.{LadCause}
use Rattle.graph_theory.specs.declared.lad_text.LadCause.TheVariants.{NotNumber, TooMany, EndsEarly, NoSuchVertex, LabelClash, WordsLeft}
use Rattle.log_theory.specs.declared.opb.OpbCause.{OpbCause}
use Rattle.log_theory.specs.declared.opb.OpbCause.TheVariants as opb
use Rattle.log_theory.specs.declared.step.Cause.{Cause}
use Rattle.log_theory.specs.declared.step.Cause.TheVariants as log
use Rattle.job_list.specs.declared.fault.ListCause.{ListCause}
use Rattle.job_list.specs.declared.fault.ListCause.TheVariants as jobs
use Rattle.subgraph_cli.specs.declared.stop.Role.{Role}
use Rattle.subgraph_cli.specs.declared.stop.Role.TheVariants.{Pattern, Less, Target, Mapping, Encoding, Log, JobList, JobPattern, JobTarget}
use Rattle.subgraph_cli.specs.declared.stop.TextFault.{TextFault}
use Rattle.subgraph_cli.specs.declared.stop.TextFault.TheVariants.{TooLong, Word, Pair, Line, Opb, Listed}
use Rattle.subgraph_cli.specs.declared.stop.Stop.{Stop}
use Rattle.subgraph_cli.specs.declared.stop.Stop.TheVariants.{Refused, FilesFault, OutputFault, NoMemory}

-- A line feed ends each line.
abbrev pub line_of : List ℕ → List ℕ
line_of text = text ++ 10 ∷ []

-- The answers.
abbrev pub none_text : List ℕ
none_text = line_of (codes "none")

abbrev pub unknown_text : List ℕ
unknown_text = line_of (codes "unknown")

abbrev pub embedding_text : List ℕ
embedding_text = line_of (codes "embedding")

-- The lines on the error stream that are always the same.
abbrev pub no_command_text : List ℕ
no_command_text = line_of (codes "words: not a command")

abbrev pub no_embedding_text : List ℕ
no_embedding_text = line_of (codes "mapping: not an embedding")

abbrev pub files_fault_text : List ℕ
files_fault_text = line_of (codes "files: fault")

abbrev pub output_fault_text : List ℕ
output_fault_text = line_of (codes "output: fault")

abbrev pub no_memory_text : List ℕ
no_memory_text = line_of (codes "memory: refused")

-- What a file of a job is called, by the job's number and the file's part in it.
abbrev pub job_text : ℕ → List ℕ → List ℕ
job_text job part = codes "job " ++ decimal job ++ part

-- What a text is called after its role.
abbrev pub role_text : Role → List ℕ
role_text Pattern = codes "pattern"
role_text Less = codes "less"
role_text Target = codes "target"
role_text Mapping = codes "mapping"
role_text Encoding = codes "encoding"
role_text Log = codes "log"
role_text JobList = codes "list"
role_text (JobPattern job) = job_text job (codes " pattern")
role_text (JobTarget job) = job_text job (codes " target")

-- What a cause is called.
abbrev pub cause_text : LadCause → List ℕ
cause_text NotNumber = codes "NotNumber"
cause_text TooMany = codes "TooMany"
cause_text EndsEarly = codes "EndsEarly"
cause_text NoSuchVertex = codes "NoSuchVertex"
cause_text LabelClash = codes "LabelClash"
cause_text WordsLeft = codes "WordsLeft"

-- What a cause of an encoding's line is called.
abbrev pub opb_cause_text : OpbCause → List ℕ
opb_cause_text opb.Header = codes "Header"
opb_cause_text opb.Objective = codes "Objective"
opb_cause_text opb.Equality = codes "Equality"
opb_cause_text opb.Product = codes "Product"
opb_cause_text opb.NoSuchVariable = codes "NoSuchVariable"
opb_cause_text opb.Wide = codes "Wide"
opb_cause_text opb.Form = codes "Form"
opb_cause_text opb.Count = codes "Count"

-- What a cause of a line of a list of jobs is called.
abbrev pub list_cause_text : ListCause → List ℕ
list_cause_text jobs.Form = codes "Form"
list_cause_text jobs.TooMany = codes "TooMany"

-- What a cause of a log's line is called.
abbrev pub log_cause_text : Cause → List ℕ
log_cause_text log.EndsEarly = codes "EndsEarly"
log_cause_text log.Form = codes "Form"
log_cause_text log.NameUsed = codes "NameUsed"
log_cause_text log.Order = codes "Order"
log_cause_text log.Twice = codes "Twice"
log_cause_text log.NoSuchName = codes "NoSuchName"
log_cause_text log.Stack = codes "Stack"
log_cause_text log.Zero = codes "Zero"
log_cause_text log.Wide = codes "Wide"
log_cause_text log.NoConflict = codes "NoConflict"
log_cause_text log.NotFalse = codes "NotFalse"
log_cause_text log.NotSolution = codes "NotSolution"

-- The line that tells of a log that is not accepted.
abbrev pub log_text : ℕ → Cause → List ℕ
log_text line cause =
    codes "log: line " ++ decimal line ++ codes ": " ++ log_cause_text cause ++ 10 ∷ []

-- Why a text is refused.
abbrev pub fault_text : TextFault → List ℕ
fault_text TooLong = codes ": too long" ++ 10 ∷ []
fault_text (Word w cause) = codes ": word " ++ decimal w ++ codes ": " ++ cause_text cause ++ 10 ∷ []
fault_text (Pair n) = codes ": pair " ++ decimal n ++ codes ": NoSuchVertex" ++ 10 ∷ []
fault_text (Line n) = codes ": line " ++ decimal n ++ codes ": Form" ++ 10 ∷ []
fault_text (Opb n cause) =
    codes ": line " ++ decimal n ++ codes ": " ++ opb_cause_text cause ++ 10 ∷ []
fault_text (Listed n cause) =
    codes ": line " ++ decimal n ++ codes ": " ++ list_cause_text cause ++ 10 ∷ []

-- The line that tells of a refused text.
abbrev pub refusal_text : Role → TextFault → List ℕ
refusal_text role fault = role_text role ++ fault_text fault

-- The line on the error stream for each way to stop.
abbrev pub stop_text : Stop → List ℕ
stop_text (Refused role fault) = refusal_text role fault
stop_text FilesFault = files_fault_text
stop_text OutputFault = output_fault_text
stop_text NoMemory = no_memory_text

-- The status for each way to stop.
abbrev pub stop_status : Stop → ℕ
stop_status (Refused role fault) = 4
stop_status FilesFault = 5
stop_status OutputFault = 5
stop_status NoMemory = 6
