-- What the status of a judged log says, by the cases of its verdict.

use Rattle.std.specs.Prelude.{◌≡◌, ℕ, List, Result, Ok, Err, refl}
use Rattle.std.proofs.Common.{inl, inr, subst, arith}
use Rattle.log_theory.specs.OpbText.{OpbModel}
use Rattle.log_theory.specs.OpbReading.{opb_answer}
use Rattle.log_theory.specs.Verdicts.{verdict_of}
use Rattle.log_theory.specs.TextLaws.{LogLaws, AnswerLaws}
use Rattle.log_theory.specs.declared.opb.OpbCause.{OpbCause}
use Rattle.log_theory.specs.declared.step.Verdict.{Verdict}
use Rattle.log_theory.specs.declared.step.Verdict.TheVariants.{Unsatisfiable, Satisfiable, Undecided, Refused, NoMemory}
use Rattle.log_theory.specs.Acceptance.{Accepts}
use Rattle.subgraph_c.specs.Checking.{answer_told, verdict_told, told, IsTold, IsRefutation, IsWitness, CheckStatus}
use Rattle.subgraph_c.specs.declared.checking.Told.{Told}
use Rattle.subgraph_c.specs.declared.passed.Report.{Report}

module _ (laws : LogLaws) (answers : AnswerLaws) (encoding log : List ℕ) (m : OpbModel) (read : opb_answer encoding ≡ Ok m) where
  -- A verdict with the first claim is a refutation.
  refutation_by : (v : Verdict) → verdict_of m.variables m.constraints log ≡ v → (verdict_told v).status ≡ 0 → (verdict_told v).report.cause ≡ 1
      → IsRefutation encoding log
  refutation_by Unsatisfiable is s c = record {
    model = m;
    model_is = read;
    accepts = subst (λ (v : Verdict). Accepts m.variables m.constraints log v) is (answers.accepted m.variables m.constraints log (rw is tt));
    none = laws.unsatisfiable m.variables m.constraints log is;
  }
  refutation_by Satisfiable is s c = absurd (omega arith)
  refutation_by Undecided is s c = absurd (omega arith)
  refutation_by (Refused line cause) is s c = absurd (omega arith)
  refutation_by NoMemory is s c = absurd (omega arith)

  -- One with the second is a witness.
  witness_by : (v : Verdict) → verdict_of m.variables m.constraints log ≡ v → (verdict_told v).status ≡ 0 → (verdict_told v).report.cause ≡ 2
      → IsWitness encoding log
  witness_by Satisfiable is s c = record {
    model = m;
    model_is = read;
    accepts = subst (λ (v : Verdict). Accepts m.variables m.constraints log v) is (answers.accepted m.variables m.constraints log (rw is tt));
    some = laws.satisfiable m.variables m.constraints log is;
  }
  witness_by Unsatisfiable is s c = absurd (omega arith)
  witness_by Undecided is s c = absurd (omega arith)
  witness_by (Refused line cause) is s c = absurd (omega arith)
  witness_by NoMemory is s c = absurd (omega arith)

-- The same, whatever was read.
refutation_of : LogLaws → AnswerLaws → (encoding log : List ℕ) (a : Result OpbModel (ℕ × OpbCause)) → opb_answer encoding ≡ a
    → (answer_told a log).status ≡ 0 → (answer_told a log).report.cause ≡ 1 → IsRefutation encoding log
refutation_of laws answers encoding log (Ok m) read s c = refutation_by laws answers encoding log m read _ refl s c
refutation_of laws answers encoding log (Err f) read s c = absurd (omega arith)

witness_of : LogLaws → AnswerLaws → (encoding log : List ℕ) (a : Result OpbModel (ℕ × OpbCause)) → opb_answer encoding ≡ a
    → (answer_told a log).status ≡ 0 → (answer_told a log).report.cause ≡ 2 → IsWitness encoding log
witness_of laws answers encoding log (Ok m) read s c = witness_by laws answers encoding log m read _ refl s c
witness_of laws answers encoding log (Err f) read s c = absurd (omega arith)

-- A status and a report of one answer are those of what is told.
refuted : LogLaws → AnswerLaws → (t : Told) (encoding log : List ℕ) → IsTold t encoding log → t.status ≡ 0 → t.report.cause ≡ 1 → IsRefutation encoding log
refuted laws answers t encoding log (inl is) s c =
    refutation_of laws answers encoding log (opb_answer encoding) refl (subst (λ (u : Told). u.status ≡ 0) is s) (subst (λ (u : Told). u.report.cause ≡ 1) is c)
refuted laws answers t encoding log (inr is) s c = let six : 6 ≡ 0 = subst (λ (u : Told). u.status ≡ 0) is s in absurd (omega (arith, six))

witnessed : LogLaws → AnswerLaws → (t : Told) (encoding log : List ℕ) → IsTold t encoding log → t.status ≡ 0 → t.report.cause ≡ 2 → IsWitness encoding log
witnessed laws answers t encoding log (inl is) s c =
    witness_of laws answers encoding log (opb_answer encoding) refl (subst (λ (u : Told). u.status ≡ 0) is s) (subst (λ (u : Told). u.report.cause ≡ 2) is c)
witnessed laws answers t encoding log (inr is) s c = let six : 6 ≡ 0 = subst (λ (u : Told). u.status ≡ 0) is s in absurd (omega (arith, six))

-- The status of a judged log says what the log shows.
pub check_status_says : LogLaws → AnswerLaws → (status : ℕ) (report : Report) (encoding log : List ℕ) → IsTold (told status report) encoding log
    → CheckStatus status encoding log report
check_status_says laws answers status report encoding log is = record {
  exact = is;
  unsatisfiable = refuted laws answers (told status report) encoding log is;
  satisfiable = witnessed laws answers (told status report) encoding log is;
}
