-- The lines of owner 0 with their deletions: what is named no more is deleted behind the line that names it last.

use Rattle.std.specs.Prelude.{◌≡◌, ℕ, zero, suc, ◌+◌, Bool, false, cond, not, ◌==◌, ◌&&◌, ◌||◌, List, [], ◌∷◌, ◌++◌, length, None, Ok}
use Rattle.log_theory.specs.declared.step.Name.{Name}
use Rattle.log_theory.specs.declared.step.Ref.{Ref}
use Rattle.log_theory.specs.declared.step.Ref.TheVariants.{Line, Made, Shared}
use Rattle.log_theory.specs.declared.step.Step.{Step}
use Rattle.log_theory.specs.declared.step.Step.TheVariants.{P, U, D}
use Rattle.proof_theory.specs.Forms.{Form}
use Rattle.log_theory.specs.Lookups.{Lookup, makes}
use Rattle.log_theory.specs.Tables.{Table, empty_table, from_one, find}
use Rattle.journal_theory.specs.Referring.{step_refs}
use Rattle.journal_theory.specs.Stepping.{StepsRun}
use Rattle.journal_theory.specs.Journals.{own_name}
use Rattle.trim_theory.specs.Renaming.{RefsRenamed, Follows}

-- ---- lines without deletions

-- What a reference names in a model and owner 0's forms.
abbrev pub own_look : List Form → List Form → Lookup
own_look model forms (Line k) = from_one model k
own_look model forms (Made name) = cond (name.owner == 0) (from_one forms name.number) None
own_look model forms (Shared row) = None

-- The line makes a form under this name.
abbrev pub Bears : Name → Step → Type 0
Bears name (P own ops) = own ≡ name
Bears name (U own lits refs) = own ≡ name
Bears name s = ⊥

-- Owner 0's next lines each make a form over all before it, which are these in the end.
abbrev pub MakesFrom : List Form → List Form → List Step → List Form → Type 0
MakesFrom model before [] all = all ≡ before
MakesFrom model before (s ∷ ss) all =
    Bears (own_name 0 (length before)) s × ((f : Form) × (makes (own_look model before) s ≡ Ok f)
    × MakesFrom model (before ++ f ∷ []) ss all)

-- ---- deletions

-- What further lines and the last one refer to, in order.
abbrev pub later_refs : List Step → Step → List Ref
later_refs [] end = step_refs end
later_refs (s ∷ ss) end = step_refs s ++ later_refs ss end

-- Whether a reference is owner 0's line of a place from 0.
abbrev pub is_own : ℕ → Ref → Bool
is_own i (Made name) = (name.owner == 0) && (name.number == i + 1)
is_own i r = false

-- Whether owner 0's line of a place is among references.
abbrev pub is_named : ℕ → List Ref → Bool
is_named i [] = false
is_named i (r ∷ rs) = is_own i r || is_named i rs

-- Of the first n places, those that are named here and not later are deleted, by rising number.
abbrev pub deletions : ℕ → List Ref → List Ref → List Step
deletions zero here later = []
deletions (suc n) here later =
    deletions n here later ++ cond (is_named n here && not (is_named n later))
    (D (Made (own_name 0 n)) ∷ []) []

-- Owner 0's lines from a place on, behind each the deletions of what it names last.
abbrev pub with_deletions : ℕ → List Step → Step → List Step
with_deletions place [] end = []
with_deletions place (s ∷ ss) end =
    s ∷ (deletions place (step_refs s) (later_refs ss end) ++ with_deletions (place + 1) ss end)

-- Lines that make their forms step with their deletions too, and what the last line names is there behind them.
abbrev pub SimulationLaw : Type 0
SimulationLaw = (model : List Form) (lines : List Step) (end : Step) (all : List Form)
    → MakesFrom model [] lines all
    → (t : Table) × StepsRun model empty_table (with_deletions 0 lines end) t
    × RefsRenamed (Follows (own_look model all) (find model t)) (step_refs end) (step_refs end)
