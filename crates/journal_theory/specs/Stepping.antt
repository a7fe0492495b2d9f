-- Lines that step one after another, and the text that they are.

use Rattle.std.specs.Prelude.{◌≡◌, ℕ, ◌++◌, true, List, [], ◌∷◌, length, map, Ok, Some}
use Rattle.std.specs.List.{flat_map}
use Rattle.log_theory.specs.declared.step.Ref.{Ref}
use Rattle.log_theory.specs.declared.step.Step.{Step}
use Rattle.log_theory.specs.declared.step.Step.TheVariants.{Head, Model, E}
use Rattle.log_theory.specs.declared.step.Verdict.TheVariants.{Unsatisfiable}
use Rattle.proof_theory.specs.Forms.{Form}
use Rattle.proof_theory.specs.Rules.{is_contradiction}
use Rattle.log_theory.specs.Words.{joined, line_text}
use Rattle.log_theory.specs.LogText.{IsStep, step_words}
use Rattle.log_theory.specs.Tables.{Table, empty_table, find, step_of}
use Rattle.log_theory.specs.Verdicts.{in_range, step_variables}
use Rattle.log_theory.specs.Acceptance.{NoFeed, lines_text, Accepts}

-- Lines lead from a table to a table, each stepping from where those before it lead.
abbrev pub StepsRun : List Form → Table → List Step → Table → Type 0
StepsRun model t [] u = u ≡ t
StepsRun model t (s ∷ ss) u = (m : Table) × (step_of model t s ≡ Ok m) × StepsRun model m ss u

-- The line of a step, without its end.
abbrev pub step_line : Step → List ℕ
step_line s = joined (step_words s)

-- A step can be written as a line over n variables.
pub record IsWritten (n : ℕ) (s : Step) : Type 0 where
  pub is_step : IsStep s
  pub variables : in_range n (step_variables s) ≡ true

abbrev pub AreWritten : ℕ → List Step → Type 0
AreWritten n [] = Unit {0}
AreWritten n (s ∷ ss) = IsWritten n s × AreWritten n ss

-- A log that ends in `e`: its two head lines, these, and the last.
abbrev pub whole_log : List Form → List Step → Ref → List Step
whole_log model steps at = Head ∷ Model (length model) ∷ (steps ++ E at ∷ [])

-- The text of lines that step, and lead to a table where the last line's form is plainly false, is accepted: no 0/1 list satisfies the model.
abbrev pub TextLaw : Type 0
TextLaw = (n : ℕ) (model : List Form) (steps : List Step) (at : Ref) (t : Table) (f : Form)
    → AreWritten n (whole_log model steps at)
    → StepsRun model empty_table steps t → find model t at ≡ Some f → is_contradiction f ≡ true
    → Accepts n model (lines_text (map step_line (whole_log model steps at))) Unsatisfiable

-- No line of a step has a line end within it.
abbrev pub NoFeedLaw : Type 0
NoFeedLaw = (s : Step) → IsStep s → NoFeed (step_line s)

-- The text of lines is what the writer of lines puts, line after line.
abbrev pub LinesLaw : Type 0
LinesLaw = (steps : List Step) → lines_text (map step_line steps) ≡ flat_map (λ s. line_text
    (step_words s)) steps
