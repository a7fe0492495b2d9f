-- The laws of texts, from the definitions alone.
use Rattle.std.specs.Prelude.{◌≡◌, ◌≢◌, ℕ, Bool, List, [], ◌++◌, Ok, Some}
use Rattle.log_theory.specs.declared.profile.Profile.{Profile}
use Rattle.log_theory.specs.declared.profile.Profile.TheVariants.{Hinted, Plain}
use Rattle.log_theory.specs.declared.step.Cause.{Cause}
use Rattle.log_theory.specs.declared.step.Cause.TheVariants.{EndsEarly}
use Rattle.log_theory.specs.declared.step.Verdict.{Verdict}
use Rattle.log_theory.specs.declared.step.Verdict.TheVariants.{Unsatisfiable, Satisfiable, Refused, NoMemory}
use Rattle.proof_theory.specs.Forms.{Form, IsSolution, HasNoSolution}
use Rattle.log_theory.specs.Verdicts.{verdict_of, IsClaim}
use Rattle.log_theory.specs.declared.step.Step.{Step}
use Rattle.log_theory.specs.Words.{joined}
use Rattle.log_theory.specs.declared.step.Step.TheVariants.{Head}
use Rattle.log_theory.specs.LogText.{IsStep, step_words, read_line}
use Rattle.log_theory.specs.Profiles.{told_in, words_in, read_in, log_profile, dropped_line, dropped_log}
use Rattle.log_theory.specs.Acceptance.{Accepts, Refuses}
use Rattle.log_theory.specs.OpbText.{OpbModel, IsOpbModel, opb_text}
use Rattle.log_theory.specs.OpbReading.{opb_answer}

-- What is written as OPB text is read back.
abbrev pub OpbLaw : Type 0
OpbLaw = (m : OpbModel) → IsOpbModel m → opb_answer (opb_text m) ≡ Ok m

-- What the verdict of a log means for its model, and that no proper front of an accepted log is accepted.
pub record LogLaws : Type 0 where
  pub unsatisfiable : (n : ℕ) (model : List Form) (log : List ℕ)
      → verdict_of n model log ≡ Unsatisfiable → HasNoSolution n model
  pub satisfiable : (n : ℕ) (model : List Form) (log : List ℕ)
      → verdict_of n model log ≡ Satisfiable → (a : List Bool) × IsSolution n model a
  pub answered : (n : ℕ) (model : List Form) (log : List ℕ) → verdict_of n model log ≢ NoMemory
  pub fronts : (n : ℕ) (model : List Form) (front rest : List ℕ) → rest ≢ []
      → IsClaim (verdict_of n model (front ++ rest))
      → (k : ℕ) × (verdict_of n model front ≡ Refused k EndsEarly)

-- A log is accepted with a claim, or refused at a line with a cause, exactly where its verdict says so: so it has exactly one answer.
pub record AnswerLaws : Type 0 where
  pub accepts : (n : ℕ) (model : List Form) (log : List ℕ) (claim : Verdict)
      → Accepts n model log claim → verdict_of n model log ≡ claim
  pub accepted : (n : ℕ) (model : List Form) (log : List ℕ) → IsClaim (verdict_of n model log)
      → Accepts n model log (verdict_of n model log)
  pub refuses : (n : ℕ) (model : List Form) (log : List ℕ) (k : ℕ) (cause : Cause)
      → Refuses n model log k cause → verdict_of n model log ≡ Refused k cause
  pub refused : (n : ℕ) (model : List Form) (log : List ℕ) (k : ℕ) (cause : Cause)
      → verdict_of n model log ≡ Refused k cause → Refuses n model log k cause

-- The line of a step, its numbers in their ranges, is read as that step.
abbrev pub StepLaw : Type 0
StepLaw = (s : Step) → IsStep s → read_line (joined (step_words s)) ≡ Some s

-- The line of a step in a profile is read as what the profile keeps of that step; without hints it is the line with hints, but for its
-- references, where it is not the first; and a log with hints that is accepted is accepted with the same claim when
-- its hints are dropped.
pub record ProfileLaws : Type 0 where
  pub read : (profile : Profile) (s : Step) → IsStep s
      → read_in profile (joined (words_in profile s)) ≡ Some (told_in profile s)
  pub line : (s : Step) → IsStep s → s ≢ Head
      → dropped_line (joined (step_words s)) ≡ joined (words_in Plain s)
  pub dropped : (n : ℕ) (model : List Form) (log : List ℕ) (claim : Verdict)
      → log_profile log ≡ Some Hinted → Accepts n model log claim
      → Accepts n model (dropped_log log) claim
