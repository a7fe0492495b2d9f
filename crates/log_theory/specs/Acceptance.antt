-- What it means that a log is accepted with a claim, or refused at a line with a cause.
use Rattle.std.specs.Prelude.{◌≡◌, ◌≢◌, ℕ, ◌+◌, ◌⊎◌, List, [], ◌∷◌, ◌++◌, length, Ok, Err}
use Rattle.std.specs.List.{flat_map}
use Rattle.log_theory.specs.declared.step.Cause.{Cause}
use Rattle.log_theory.specs.declared.step.Cause.TheVariants.{EndsEarly, Form as Malformed}
use Rattle.log_theory.specs.declared.step.Verdict.{Verdict}
use Rattle.proof_theory.specs.Forms.{Form}
use Rattle.log_theory.specs.Verdicts.{Opening, Progress, Goes, Ends, line_progress}

-- No byte is an LF.
abbrev pub NoFeed : List ℕ → Type 0
NoFeed [] = Unit {0}
NoFeed (b ∷ bs) = (b ≢ 10) × NoFeed bs

-- Each of these is a line.
abbrev pub AreLines : List (List ℕ) → Type 0
AreLines [] = Unit {0}
AreLines (l ∷ ls) = NoFeed l × AreLines ls

-- The text of lines, each with its LF.
abbrev pub lines_text : List (List ℕ) → List ℕ
lines_text ls = flat_map (λ l. l ++ 10 ∷ []) ls

-- Lines lead from where a log stands to where it stands behind them; behind a last line none is lawful.
abbrev pub Runs : ℕ → List Form → Progress → List (List ℕ) → Progress → Type 0
Runs n model from [] to = to ≡ from
Runs n model (Goes stage) (l ∷ ls) to = (next : Progress)
    × ((line_progress n model stage l ≡ Ok next) × Runs n model next ls to)
Runs n model (Ends v) (l ∷ ls) to = ⊥

-- The log is lawful lines, the last of which makes this claim; then the text ends.
pub record Accepts (n : ℕ) (model : List Form) (log : List ℕ) (claim : Verdict) : Type 0 where
  pub lines : List (List ℕ)
  pub are_lines : AreLines lines
  pub text : log ≡ lines_text lines
  pub runs : Runs n model (Goes Opening) lines (Ends claim)

-- Why no lawful line begins the rest of a text.
abbrev pub HasFault : ℕ → List Form → Progress → List ℕ → Cause → Type 0
HasFault n model (Ends v) rest cause = (rest ≢ []) × (cause ≡ Malformed)
HasFault n model (Goes stage) rest cause =
    (NoFeed rest × (cause ≡ EndsEarly)) ⊎ ((line : List ℕ) × (more : List ℕ)
    × (rest ≡ line ++ 10 ∷ more) × NoFeed line × (line_progress n model stage line ≡ Err cause))

-- The lines before line k are lawful, and line k is not: this is its first cause.
pub record Refuses (n : ℕ) (model : List Form) (log : List ℕ) (k : ℕ) (cause : Cause) : Type 0 where
  pub lines : List (List ℕ)
  pub rest : List ℕ
  pub reached : Progress
  pub are_lines : AreLines lines
  pub text : log ≡ lines_text lines ++ rest
  pub number : k ≡ length lines + 1
  pub runs : Runs n model (Goes Opening) lines reached
  pub fault : HasFault n model reached rest cause
