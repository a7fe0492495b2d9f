-- Lines that are kept, and the text that they are kept as.
use Rattle.std.specs.Prelude.{◌≡◌, ℕ, ◌+◌, ◌==◌, List, [], ◌∷◌, ◌++◌, length, Option, Some, None, Result, Ok, Err}
use Rattle.std.specs.List.{flat_map}
use Rattle.log_theory.specs.declared.step.Name.{Name}
use Rattle.log_theory.specs.declared.step.Step.{Step}
use Rattle.log_theory.specs.declared.step.Step.TheVariants.{P, U}
use Rattle.log_theory.specs.Words.{pieces, line_text}
use Rattle.log_theory.specs.LogText.{step_words, read_line, AreOps, AreLiterals, AreRefs, IsStep}
use Rattle.journal_theory.specs.Journals.{own_name, named, numbered}

-- ---- lines

-- A line that makes a form, its numbers in their ranges, whatever name it bears.
abbrev pub IsLine : Step → Type 0
IsLine (P name ops) = AreOps ops
IsLine (U name lits refs) = AreLiterals lits × AreRefs refs
IsLine _ = ⊥

-- ---- what keeping does

-- The line stands behind those before it, under its owner's next name, which is the answer; where nothing is kept any name is; at a refusal all is as it was.
abbrev pub Keeps : {E : Type 0} → Result Name E → ℕ → Option (List Step) → Option (List Step)
    → Step → Type 0
Keeps (Ok n) owner (Some old) (Some new) step = (n ≡ own_name owner (length old))
    × (new ≡ old ++ named owner (length old) step ∷ [])
Keeps (Ok n) owner None None step = Unit {0}
Keeps (Ok n) owner None (Some new) step = ⊥
Keeps (Ok n) owner (Some old) None step = ⊥
Keeps (Err e) owner old new step = new ≡ old

-- A note of a row stands behind those before it, where lines are kept.
abbrev pub Notes : Option (List Step) → List (ℕ × ℕ) → List (ℕ × ℕ) → ℕ → ℕ → Type 0
Notes None old new row number = Unit {0}
Notes (Some steps) old new row number = new ≡ old ++ (row, number) ∷ []

-- Whose lines they are, what was noted, and for how many more notes there is room: all as before. What holds lines may be of any type.
pub record KeepsRest {K : Type 0} (owner_of : K → ℕ) (notes_of : K → List (ℕ × ℕ)) (spare_of : K
    → ℕ) (old new : K) : Type 0 where
  pub owner : owner_of new ≡ owner_of old
  pub notes : notes_of new ≡ notes_of old
  pub spare : spare_of new ≡ spare_of old

-- ---- text

-- The text of lines.
abbrev pub text_of : List Step → List ℕ
text_of steps = flat_map (λ s. line_text (step_words s)) steps

abbrev pub told : Option Step → List Step → List Step
told None rest = rest
told (Some s) rest = s ∷ rest

abbrev pub steps_told : List (List ℕ) → List Step
steps_told [] = []
steps_told (l ∷ ls) = told (read_line l) (steps_told ls)

-- The steps that a text tells, line by line.
abbrev pub steps_in : List ℕ → List Step
steps_in text = steps_told (pieces (λ b. b == 10) text)

-- Where each line ends, the first one beginning here.
abbrev pub ends_from : ℕ → List Step → List ℕ
ends_from at [] = []
ends_from at (s ∷ ss) = (at + length (line_text (step_words s))) ∷ ends_from (at + length
    (line_text (step_words s))) ss

abbrev pub AreSteps : List Step → Type 0
AreSteps [] = Unit {0}
AreSteps (s ∷ ss) = IsStep s × AreSteps ss

-- The bytes are the text of the steps that they tell, and these are the ends of its lines.
pub record IsText (bytes ends : List ℕ) : Type 0 where
  pub are_steps : AreSteps (steps_in bytes)
  pub bytes_are : bytes ≡ text_of (steps_in bytes)
  pub ends_are : ends ≡ ends_from 0 (steps_in bytes)

-- The lines bear the names of their owner, one after another.
abbrev pub BearNames : ℕ → List Step → Type 0
BearNames owner steps = numbered owner 0 steps ≡ steps

-- A journal as its users see it: its owner, its lines in order, the notes, and for how many more there is room.
pub record Keeping : Type 0 where
  pub owner : ℕ
  pub steps : List Step
  pub notes : List (ℕ × ℕ)
  pub spare : ℕ
