-- A line under another name, with each reference replaced by one that a relation allows.

use Rattle.std.specs.Prelude.{◌≡◌, ℕ, ◌+◌, List, [], ◌∷◌, Some, Ok}
use Rattle.log_theory.specs.declared.step.Ref.{Ref}
use Rattle.log_theory.specs.declared.step.Op.{Op}
use Rattle.log_theory.specs.declared.step.Op.TheVariants.{Push}
use Rattle.log_theory.specs.declared.step.Step.{Step}
use Rattle.log_theory.specs.declared.step.Step.TheVariants.{P, U, E, Y, Q}
use Rattle.proof_theory.specs.Forms.{Form}
use Rattle.log_theory.specs.Lookups.{Lookup, makes}
use Rattle.journal_theory.specs.Journals.{own_name}

-- What a reference may become.
abbrev pub Renaming : Type 1
Renaming = Ref → Ref → Type 0

-- References become these, one by one.
abbrev pub RefsRenamed : Renaming → List Ref → List Ref → Type 0
RefsRenamed to [] [] = Unit {0}
RefsRenamed to (q ∷ qs) (r ∷ rs) = to q r × RefsRenamed to qs rs
RefsRenamed to _ _ = ⊥

-- An operation stays, but for what it pushes.
abbrev pub OpRenamed : Renaming → Op → Op → Type 0
OpRenamed to (Push q) (Push r) = to q r
OpRenamed to (Push q) _ = ⊥
OpRenamed to o p = p ≡ o

abbrev pub OpsRenamed : Renaming → List Op → List Op → Type 0
OpsRenamed to [] [] = Unit {0}
OpsRenamed to (o ∷ os) (p ∷ ps) = OpRenamed to o p × OpsRenamed to os ps
OpsRenamed to _ _ = ⊥

-- A line that makes a form becomes owner 0's line of a place from 0, with the same operations or literals.
abbrev pub LineRenamed : Renaming → ℕ → Step → Step → Type 0
LineRenamed to place (P name ops) (P new os) = (new ≡ own_name 0 place) × OpsRenamed to ops os
LineRenamed to place (U name lits refs) (U new ls rs) =
    (new ≡ own_name 0 place) × (ls ≡ lits) × RefsRenamed to refs rs
LineRenamed to place s u = ⊥

-- Lines become these, one by one, under the names from a place on.
abbrev pub LinesRenamed : Renaming → ℕ → List Step → List Step → Type 0
LinesRenamed to place [] [] = Unit {0}
LinesRenamed to place (s ∷ ss) (u ∷ us) =
    LineRenamed to place s u × LinesRenamed to (place + 1) ss us
LinesRenamed to place _ _ = ⊥

-- A last line stays, but for what it names.
abbrev pub EndRenamed : Renaming → Step → Step → Type 0
EndRenamed to (E q) (E r) = to q r
EndRenamed to (Y ones) u = u ≡ Y ones
EndRenamed to Q u = u ≡ Q
EndRenamed to s u = ⊥

-- What the one lookup finds under the old reference, the other finds under the new one.
abbrev pub Follows : Lookup → Lookup → Renaming
Follows look see q r = (f : Form) → look q ≡ Some f → see r ≡ Some f

-- A line whose references find what they found makes the same form under its new name.
abbrev pub RenamingLaw : Type 0
RenamingLaw = (look see : Lookup) (place : ℕ) (s u : Step) (f : Form)
    → LineRenamed (Follows look see) place s u → makes look s ≡ Ok f → makes see u ≡ Ok f
