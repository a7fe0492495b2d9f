-- The text of a log as its steps, and the text of a trimmed log.

use Rattle.std.specs.Prelude.{◌≡◌, ℕ, ◌^◌, ◌<◌, List, [], ◌∷◌, ◌++◌, length, map, Some}
use Rattle.log_theory.specs.declared.profile.Profile.{Profile}
use Rattle.log_theory.specs.declared.step.Step.{Step}
use Rattle.log_theory.specs.declared.step.Step.TheVariants.{Head, Model}
use Rattle.proof_theory.specs.Forms.{Form}
use Rattle.log_theory.specs.LogText.{IsStep}
use Rattle.log_theory.specs.Profiles.{read_in, profile_of}
use Rattle.log_theory.specs.Acceptance.{AreLines, lines_text}
use Rattle.journal_theory.specs.Stepping.{step_line}
use Rattle.trim_theory.specs.Trimming.{Trims}

-- A profile reads lines as these steps, one by one.
abbrev pub AreRead : Profile → List (List ℕ) → List Step → Type 0
AreRead profile [] [] = Unit {0}
AreRead profile (l ∷ ls) (s ∷ ss) = (read_in profile l ≡ Some s) × AreRead profile ls ss
AreRead profile _ _ = ⊥

-- The text is a log of this profile: two head lines, and then lines that are read as these steps and a last one.
pub record IsLogOf (profile : Profile) (text : List ℕ) (steps : List Step)
    (last : Step) : Type 0 where
  pub head : List ℕ
  pub count : List ℕ
  pub rest : List (List ℕ)
  pub are_lines : AreLines (head ∷ count ∷ rest)
  pub text_is : text ≡ lines_text (head ∷ count ∷ rest)
  pub profile_is : profile_of head ≡ Some profile
  pub read : AreRead profile rest (steps ++ last ∷ [])

-- A log with hints: its two head lines, these steps, and a last one.
abbrev pub ended_log : List Form → List Step → Step → List Step
ended_log model steps end = Head ∷ Model (length model) ∷ (steps ++ end ∷ [])

-- The numbers of all steps are in their ranges.
abbrev pub AreSteps : List Step → Type 0
AreSteps [] = Unit {0}
AreSteps (s ∷ ss) = IsStep s × AreSteps ss

-- `text` is the trimmed log of the text `log`, and is a log with hints whatever profile that has.
pub record TrimsText (model : List Form) (log text : List ℕ) : Type 0 where
  pub profile : Profile
  pub steps : List Step
  pub last : Step
  pub is_log : IsLogOf profile log steps last
  pub out : List Step
  pub end : Step
  pub trims : Trims profile model steps last out end
  pub in_range : AreSteps trims.hinted
  pub last_in_range : IsStep last
  pub few : length steps < 2 ^ 63
  pub text_is : text ≡ lines_text (map step_line (ended_log model out end))
