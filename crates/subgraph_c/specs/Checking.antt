-- What a call that judges a log answers.

use Rattle.std.specs.Prelude.{◌≡◌, ℕ, ◌⊎◌, List, Bool, Result, Ok, Err}
use Rattle.proof_theory.specs.Forms.{IsSolution, HasNoSolution}
use Rattle.log_theory.specs.OpbText.{OpbModel}
use Rattle.log_theory.specs.OpbReading.{opb_answer}
use Rattle.log_theory.specs.Verdicts.{verdict_of}
use Rattle.log_theory.specs.Acceptance.{Accepts}
use Rattle.log_theory.specs.declared.opb.OpbCause.{OpbCause}
use Rattle.log_theory.specs.declared.opb.OpbCause.TheVariants as opb
use Rattle.log_theory.specs.declared.step.Cause.{Cause}
use Rattle.log_theory.specs.declared.step.Cause.TheVariants as line
use Rattle.log_theory.specs.declared.step.Verdict.{Verdict}
use Rattle.log_theory.specs.declared.step.Verdict.TheVariants.{Unsatisfiable, Satisfiable, Undecided, Refused, NoMemory}
use Rattle.subgraph_c.specs.Reports.{images_report, fault_report}
use Rattle.subgraph_c.specs.declared.checking.Told.{Told}
use Rattle.subgraph_c.specs.declared.passed.Report.{Report}

-- The number of a cause for which a line of an encoding is refused.
abbrev pub opb_cause : OpbCause → ℕ
opb_cause opb.Header = 1
opb_cause opb.Objective = 2
opb_cause opb.Equality = 3
opb_cause opb.Product = 4
opb_cause opb.NoSuchVariable = 5
opb_cause opb.Wide = 6
opb_cause opb.Form = 7
opb_cause opb.Count = 8

-- The number of a cause for which a line of a log is refused.
abbrev pub log_cause : Cause → ℕ
log_cause line.EndsEarly = 1
log_cause line.Form = 2
log_cause line.NameUsed = 3
log_cause line.Order = 4
log_cause line.Twice = 5
log_cause line.NoSuchName = 6
log_cause line.Stack = 7
log_cause line.Zero = 8
log_cause line.Wide = 9
log_cause line.NoConflict = 10
log_cause line.NotFalse = 11
log_cause line.NotSolution = 12

-- A status with a report.
abbrev pub told : ℕ → Report → Told
told status report = record {
  status = status;
  report = report;
}

-- What is told of a verdict: status 0 with the number of the claim, or status 7 with the first faulty line and its
-- cause.
abbrev pub verdict_told : Verdict → Told
verdict_told Unsatisfiable = told 0 (fault_report 0 0 1)
verdict_told Satisfiable = told 0 (fault_report 0 0 2)
verdict_told Undecided = told 0 (fault_report 0 0 3)
verdict_told (Refused line cause) = told 7 (fault_report 2 line (log_cause cause))
verdict_told NoMemory = told 6 (images_report 0)

-- What is told of a log over what was read as an encoding: the log's verdict, or status 4 with the encoding's first
-- faulty line and its cause.
abbrev pub answer_told : Result OpbModel (ℕ × OpbCause) → List ℕ → Told
answer_told (Ok m) log = verdict_told (verdict_of m.variables m.constraints log)
answer_told (Err f) log = told 4 (fault_report 1 f.0 (opb_cause f.1))

-- Two texts have one answer.
abbrev pub texts_told : List ℕ → List ℕ → Told
texts_told encoding log = answer_told (opb_answer encoding) log

-- It is told, or that memory was refused.
abbrev pub IsTold : Told → List ℕ → List ℕ → Type 0
IsTold t encoding log = (t ≡ texts_told encoding log) ⊎ (t ≡ verdict_told NoMemory)

-- The encoding is a model without a solution, and the log is accepted over it with that claim.
pub record IsRefutation (encoding log : List ℕ) : Type 0 where
  pub model : OpbModel
  pub model_is : opb_answer encoding ≡ Ok model
  pub accepts : Accepts model.variables model.constraints log Unsatisfiable
  pub none : HasNoSolution model.variables model.constraints

-- The encoding is a model with a solution, and the log is accepted over it with that claim.
pub record IsWitness (encoding log : List ℕ) : Type 0 where
  pub model : OpbModel
  pub model_is : opb_answer encoding ≡ Ok model
  pub accepts : Accepts model.variables model.constraints log Satisfiable
  pub some : (a : List Bool) × IsSolution model.variables model.constraints a

-- What the status of a call says.
pub record CheckStatus (status : ℕ) (encoding log : List ℕ) (report : Report) : Type 0 where
  pub exact : IsTold (told status report) encoding log
  pub unsatisfiable : status ≡ 0 → report.cause ≡ 1 → IsRefutation encoding log
  pub satisfiable : status ≡ 0 → report.cause ≡ 2 → IsWitness encoding log
