-- Where the lines of a text stand.
use Rattle.std.specs.Prelude.{◌≡◌, ℕ, List, [], ◌∷◌, ◌++◌, ◌<◌, ◌^◌, length, Some, drop}
use Rattle.log_theory.specs.declared.profile.Profile.TheVariants.{Hinted, Plain}
use Rattle.log_theory.specs.declared.step.Step.{Step}
use Rattle.log_theory.specs.Profiles.{read_in}
use Rattle.log_theory.specs.Acceptance.{NoFeed}
use Rattle.proof_theory.specs.Forms.{Form}
use Rattle.trim_theory.specs.Marking.{made_lines}
use Rattle.proof_trim.specs.declared.index.Index.{Index}
use Rattle.proof_trim.specs.Places.{IsIndexOf}
use Rattle.proof_trim.specs.Reading.{ReadsAs}
use Rattle.proof_trim.specs.Texts.{steps_text}
use Rattle.proof_trim.specs.Trimmed.{AreHinted, IsRenewedText}

-- A line begins at a place of the text, and tells this step in a log with hints.
pub record IsLineAt (text : List ℕ) (place : ℕ) (s : Step) : Type 0 where
  pub line : List ℕ
  pub rest : List ℕ
  pub there : drop place text ≡ line ++ 10 ∷ rest
  pub no_feed : NoFeed line
  pub read : read_in Hinted line ≡ Some s

-- At the places begin lines that tell these steps, one by one.
abbrev pub AreAt : List ℕ → List ℕ → List Step → Type 0
AreAt text [] [] = Unit {0}
AreAt text (p ∷ ps) (s ∷ ss) = IsLineAt text p s × AreAt text ps ss
AreAt text _ _ = ⊥

-- What a log with hints is found to be: its steps, an index of them, and where those stand that make a constraint.
pub record IsScanned (text : List ℕ) (index : Index) (places : List ℕ) (last : Step) : Type 0 where
  pub steps : List Step
  pub reads : ReadsAs Hinted text (steps ++ last ∷ [])
  pub known : IsIndexOf index steps
  pub at : AreAt text places (made_lines steps)

-- The text of a log without hints, with hints.
pub record IsReplayedText (model : List Form) (text out : List ℕ) : Type 0 where
  pub steps : List Step
  pub last : Step
  pub hinted : List Step
  pub reads : ReadsAs Plain text (steps ++ last ∷ [])
  pub hints : AreHinted Plain model steps hinted
  pub out_is : out ≡ steps_text (hinted ++ last ∷ [])

-- What is left of the text of a log with hints.
pub record IsRenewedFrom (count : ℕ) (text out : List ℕ) (made kept : ℕ) : Type 0 where
  pub hinted : List Step
  pub last : Step
  pub reads : ReadsAs Hinted text (hinted ++ last ∷ [])
  pub few : length hinted < 2 ^ 63
  pub renewed : IsRenewedText count hinted last out made kept
