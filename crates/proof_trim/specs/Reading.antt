-- The text of a log as its steps.
use Rattle.std.specs.Prelude.{◌≡◌, ℕ, List, [], ◌∷◌, ◌++◌, Some}
use Rattle.log_theory.specs.declared.profile.Profile.{Profile}
use Rattle.log_theory.specs.declared.step.Step.{Step}
use Rattle.log_theory.specs.LogText.{IsStep}
use Rattle.log_theory.specs.Profiles.{IsStepIn, profile_of}
use Rattle.log_theory.specs.Acceptance.{NoFeed, AreLines, lines_text}
use Rattle.trim_theory.specs.Logs.{AreRead, IsLogOf}

-- Each is a step that a line of the profile tells, its numbers in their ranges.
abbrev pub AreStepsIn : Profile → List Step → Type 0
AreStepsIn profile [] = Unit {0}
AreStepsIn profile (s ∷ ss) = IsStepIn profile s × AreStepsIn profile ss

-- The text is lines that a profile reads as these steps.
pub record ReadsAs (profile : Profile) (text : List ℕ) (steps : List Step) : Type 0 where
  pub lines : List (List ℕ)
  pub are_lines : AreLines lines
  pub text_is : text ≡ lines_text lines
  pub read : AreRead profile lines steps
  pub in_range : AreStepsIn profile steps

-- The text has a head of a profile, two lines, and these lines behind it.
pub record IsOpened (profile : Profile) (text lines : List ℕ) : Type 0 where
  pub head : List ℕ
  pub count : List ℕ
  pub text_is : text ≡ head ++ 10 ∷ (count ++ 10 ∷ lines)
  pub head_is : NoFeed head
  pub count_is : NoFeed count
  pub profile_is : profile_of head ≡ Some profile

-- The text is a log of a profile with these steps and this last one.
pub record IsReadLog (profile : Profile) (text : List ℕ) (steps : List Step)
    (last : Step) : Type 0 where
  pub is_log : IsLogOf profile text steps last
  pub in_range : AreStepsIn profile steps
  pub last_in_range : IsStep last
