-- What a call that verifies a map answers.

use Rattle.std.specs.Prelude.{◌≡◌, ℕ, ◌⊎◌, List, Some, None}
use Rattle.graph_theory.specs.Embedding.{Problem, Embeds}
use Rattle.subgraph_c.specs.Asking.{Call, Asks, IsFaulty, bad_question}
use Rattle.subgraph_c.specs.Reports.{refusal_status, refusal_report, images_report, FaultTold}
use Rattle.subgraph_c.specs.declared.passed.Report.{Report}
use Rattle.subgraph_c.specs.declared.refusal.OutOfRange.{OutOfRange}
use Rattle.subgraph_c.specs.declared.refusal.Refusal.{Refusal}
use Rattle.subgraph_c.specs.declared.refusal.Refusal.TheVariants.{Number, NoMemory}
use Rattle.subgraph_c.specs.declared.verifying.Tested.{Tested}
use Rattle.subgraph_c.specs.declared.verifying.Tested.TheVariants.{Embedding, NoEmbedding, Refused}

-- The map embeds the problem that is asked, or it does not.
pub record IsGood (c : Call) (m : List ℕ) : Type 0 where
  pub problem : Problem
  pub asks : Asks c problem
  pub embeds : Embeds problem m

pub record IsBad (c : Call) (m : List ℕ) : Type 0 where
  pub problem : Problem
  pub asks : Asks c problem
  pub no_embedding : Embeds problem m → ⊥

-- Why a call tests nothing: only the numbers that choose the problem are judged.
abbrev pub IsUntested : Call → Refusal → Type 0
IsUntested c (Number n) = bad_question c.options c.less ≡ Some n
IsUntested c NoMemory = bad_question c.options c.less ≡ None
IsUntested c refusal = (bad_question c.options c.less ≡ None) × IsFaulty c refusal

-- What a test says.
abbrev pub TestSays : Tested → Call → List ℕ → Type 0
TestSays Embedding c m = IsGood c m
TestSays NoEmbedding c m = IsBad c m
TestSays (Refused refusal) c m = IsUntested c refusal

-- The status of a test, and its report.
abbrev pub tested_status : Tested → ℕ
tested_status Embedding = 0
tested_status NoEmbedding = 7
tested_status (Refused refusal) = refusal_status refusal

abbrev pub tested_report : Tested → Report
tested_report Embedding = images_report 0
tested_report NoEmbedding = images_report 0
tested_report (Refused refusal) = refusal_report refusal

-- A number that chooses the problem is out of range, and the report tells which.
pub record QuestionTold (c : Call) (report : Report) : Type 0 where
  pub number : OutOfRange
  pub is : bad_question c.options c.less ≡ Some number
  pub report_is : report ≡ refusal_report (Number number)

-- What a call leads to.
pub record VerifyLeads (status : ℕ) (c : Call) (m : List ℕ) : Type 0 where
  pub embedding : (q : Problem) → Asks c q → Embeds q m → (status ≡ 0) ⊎ (status ≡ 6)
  pub no_embedding : (q : Problem) → Asks c q → (Embeds q m → ⊥) → (status ≡ 7) ⊎ (status ≡ 6)
  pub range : (bad_question c.options c.less ≡ None → ⊥) → status ≡ 3
  pub faulty : (refusal : Refusal) → bad_question c.options c.less ≡ None → IsFaulty c refusal
      → (status ≡ 4) ⊎ (status ≡ 6)

-- What the status of a call says of what was passed, and of the report.
pub record VerifyStatus (status : ℕ) (c : Call) (m : List ℕ) (report : Report) : Type 0 where
  pub embedding : status ≡ 0 → IsGood c m
  pub no_embedding : status ≡ 7 → IsBad c m
  pub range : status ≡ 3 → QuestionTold c report
  pub faulty : status ≡ 4 → (bad_question c.options c.less ≡ None) × FaultTold c report
  pub zeros : (status ≡ 0) ⊎ ((status ≡ 6) ⊎ (status ≡ 7)) → report ≡ images_report 0
  pub one_of : (status ≡ 0) ⊎ ((status ≡ 3) ⊎ ((status ≡ 4) ⊎ ((status ≡ 6) ⊎ (status ≡ 7))))
  pub leads : VerifyLeads status c m
