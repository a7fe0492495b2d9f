-- What a call tells of a refusal: a status and a report.

use Rattle.std.specs.Prelude.{◌≡◌, ℕ}
use Rattle.graph_theory.specs.declared.lad_text.LadCause.{LadCause}
use Rattle.graph_theory.specs.declared.lad_text.LadCause.TheVariants.{NotNumber, TooMany, EndsEarly, NoSuchVertex, LabelClash, WordsLeft}
use Rattle.subgraph_c.specs.Asking.{Call, IsFaulty}
use Rattle.subgraph_c.specs.declared.passed.Report.{Report}
use Rattle.subgraph_c.specs.declared.refusal.OutOfRange.{OutOfRange}
use Rattle.subgraph_c.specs.declared.refusal.OutOfRange.TheVariants.{Format, Maps, Induced, InducedMaps, ManyPairs, OneVertex, Budget, Rows, Room, Handle}
use Rattle.subgraph_c.specs.declared.refusal.Refusal.{Refusal}
use Rattle.subgraph_c.specs.declared.refusal.Refusal.TheVariants.{Number, Pattern, Target, Vertex, NoMemory}

-- The number of a cause for which a word is refused.
abbrev pub word_cause : LadCause → ℕ
word_cause NotNumber = 1
word_cause TooMany = 2
word_cause EndsEarly = 3
word_cause NoSuchVertex = 4
word_cause LabelClash = 5
word_cause WordsLeft = 6

-- The number of what is out of range.
abbrev pub range_cause : OutOfRange → ℕ
range_cause Format = 1
range_cause Maps = 2
range_cause Induced = 3
range_cause InducedMaps = 4
range_cause ManyPairs = 5
range_cause OneVertex = 6
range_cause Budget = 7
range_cause Rows = 8
range_cause Room = 9
range_cause Handle = 10

-- The status of a refusal.
abbrev pub refusal_status : Refusal → ℕ
refusal_status (Number n) = 3
refusal_status (Pattern word cause) = 4
refusal_status (Target word cause) = 4
refusal_status (Vertex number) = 4
refusal_status NoMemory = 6

-- A report that tells nothing but how many images or bytes were written.
abbrev pub images_report : ℕ → Report
images_report n = record {
  word = 0;
  count = n;
  role = 0;
  cause = 0;
}

-- A report that a text of so many bytes has no room.
abbrev pub long_report : ℕ → Report
long_report n = record {
  word = 0;
  count = n;
  role = 0;
  cause = range_cause Room;
}

-- A report of a fault: what it is in, where it is, and its cause.
abbrev pub fault_report : ℕ → ℕ → ℕ → Report
fault_report role word cause = record {
  word = word;
  count = 0;
  role = role;
  cause = cause;
}

-- The report of a refusal.
abbrev pub refusal_report : Refusal → Report
refusal_report (Number n) = fault_report 0 0 (range_cause n)
refusal_report (Pattern word cause) = fault_report 1 word (word_cause cause)
refusal_report (Target word cause) = fault_report 2 word (word_cause cause)
refusal_report (Vertex number) = fault_report 3 number (word_cause NoSuchVertex)
refusal_report NoMemory = images_report 0

-- A text or the pairs are faulty, and the report tells where and why.
pub record FaultTold (c : Call) (report : Report) : Type 0 where
  pub refusal : Refusal
  pub is : IsFaulty c refusal
  pub report_is : report ≡ refusal_report refusal
