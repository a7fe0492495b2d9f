-- What a checker stands at, and what an answer of its code says of where a line leads and of a whole log's verdict.
use Rattle.std.specs.Prelude.{◌≡◌, ◌≢◌, ℕ, ◌<◌, slice_index, List, ◌∷◌, ◌++◌, length, ◌==◌, Option, None, Some, Result, Ok, Err}
use Rattle.proof_theory.specs.Forms.{Form}
use Rattle.log_theory.specs.declared.step.Cause.{Cause as Reason}
use Rattle.log_theory.specs.declared.step.Verdict.{Verdict}
use Rattle.log_theory.specs.declared.step.Verdict.TheVariants.{NoMemory as Unanswered}
use Rattle.log_theory.specs.Words.{pieces}
use Rattle.log_theory.specs.Acceptance.{NoFeed}
use Rattle.log_theory.specs.Verdicts.{Stage, Progress, Goes, Ends, verdict_from}
use Rattle.pb_propagation.specs.declared.fault.LineFault.{LineFault}
use Rattle.pb_propagation.specs.declared.fault.LineFault.TheVariants.{Cause, NoMemory}
use Rattle.proof_checker.specs.declared.lines.Turn.{Turn}
use Rattle.proof_checker.specs.declared.lines.Turn.TheVariants.{Goes as GoesOn, Ends as EndsWith}

-- Where a line leads: to this stage, to the end with a verdict, or nowhere.
abbrev pub Turns : Result Turn LineFault → Result Progress Reason → Stage → Type 0
Turns (Ok GoesOn) r stage = r ≡ Ok (Goes stage)
Turns (Ok (EndsWith v)) r stage = r ≡ Ok (Ends v)
Turns (Err (Cause e)) r stage = r ≡ Err e
Turns (Err NoMemory) r stage = Unit {0}

-- The model's variables and forms, and where the log stands.
pub record Checking : Type 0 where
  pub variables : ℕ
  pub model : List Form
  pub stage : Stage

-- The verdict of a text from line k on.
abbrev pub verdict_at : Checking → ℕ → List ℕ → Verdict
verdict_at c k text = verdict_from c.variables c.model c.stage k (pieces (λ b. b == 10) text)

-- The answer is this verdict, or memory was refused.
abbrev pub Answers : Verdict → Verdict → Type 0
Answers Unanswered v = Unit {0}
Answers answer v = v ≡ answer

-- The text's first line and the text behind its LF, or that it has no LF.
abbrev pub Splits : List ℕ → Option (List ℕ × List ℕ) → Type 0
Splits text None = NoFeed text
Splits text (Some p) = (text ≡ p.0 ++ 10 ∷ p.1) × NoFeed p.0

-- The first LF stands here, or there is none.
abbrev pub FirstFeed : List ℕ → Option ℕ → Type 0
FirstFeed text None = (k : ℕ) → k < length text → slice_index text k ≢ 10
FirstFeed text (Some i) = (i < length text) × (slice_index text i ≡ 10) × ((k : ℕ) → k < i
    → slice_index text k ≢ 10)
