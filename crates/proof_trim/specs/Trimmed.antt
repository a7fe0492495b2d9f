-- What trimming gives.
use Rattle.std.specs.Prelude.{◌≡◌, ℕ, Bool, List, [], ◌∷◌, ◌++◌, length, map}
use Rattle.log_theory.specs.declared.profile.Profile.{Profile}
use Rattle.log_theory.specs.declared.step.Name.{Name}
use Rattle.log_theory.specs.declared.step.Step.{Step}
use Rattle.log_theory.specs.declared.step.Step.TheVariants.{Head, Model}
use Rattle.proof_theory.specs.Forms.{Form}
use Rattle.log_theory.specs.Profiles.{told_in}
use Rattle.log_theory.specs.Tables.{empty_table}
use Rattle.trim_theory.specs.Trimming.{made_names, HintsStand}
use Rattle.trim_theory.specs.Logs.{AreSteps, TrimsText}
use Rattle.trim_theory.specs.Marking.{made_lines, place_at, new_ref, new_last, marked_log, IsLast}
use Rattle.proof_trim.specs.Marks.{IsMarked}
use Rattle.proof_trim.specs.Ranks.{mark_at}
use Rattle.proof_trim.specs.Texts.{steps_text}

-- The lines of a log, each with hints that lead to a conflict where it asks for some.
pub record AreHinted (profile : Profile) (model : List Form) (steps hinted : List Step) : Type 0 where
  pub told : map (told_in profile) hinted ≡ steps
  pub hints : (keep : Name → Bool) → HintsStand profile keep model empty_table hinted
  pub in_range : AreSteps hinted

-- The needed lines of a log with hints under their new names, with their deletions, and its last line.
pub record IsRenewed (hinted : List Step) (last : Step) (lines : List Step) (end : Step)
    (made : ℕ) : Type 0 where
  pub marks : List ℕ
  pub marked : IsMarked (place_at hinted (made_names (made_lines hinted))) (made_lines hinted) last
      0 marks
  pub lines_are : lines
      ≡ marked_log (new_ref hinted (mark_at marks)) (mark_at marks) 0 (made_lines hinted)
  pub end_is : IsLast last → end ≡ new_last (new_ref hinted (mark_at marks)) last
  pub made_is : made ≡ length (made_lines hinted)

-- The text of these lines over so many constraints; `made` and `kept` are the numbers of lines that make a constraint before and after.
pub record IsRenewedText (count : ℕ) (hinted : List Step) (last : Step) (text : List ℕ)
    (made kept : ℕ) : Type 0 where
  pub lines : List Step
  pub end : Step
  pub renewed : IsRenewed hinted last lines end made
  pub text_is : text ≡ steps_text (Head ∷ Model count ∷ (lines ++ end ∷ []))
  pub kept_is : kept ≡ length (made_lines lines)

-- The text is the trimmed log of a log, `made` and `kept` the numbers of lines that make a constraint in the log and in the text.
pub record IsTrimmed (model : List Form) (log text : List ℕ) (made kept : ℕ) : Type 0 where
  pub trims : TrimsText model log text
  pub made_is : made ≡ length (made_lines trims.steps)
  pub kept_is : kept ≡ length (made_lines trims.out)
