-- A trimmed log: of the lines that make forms those that are needed, renamed in their order, with deletions.

use Rattle.std.specs.Prelude.{◌≡◌, ℕ, ◌+◌, Bool, true, cond, ◌==◌, List, [], ◌∷◌, map, Option, Some, None, Ok, slice_get}
use Rattle.log_theory.specs.declared.profile.Profile.{Profile}
use Rattle.log_theory.specs.declared.profile.Profile.TheVariants.{Plain}
use Rattle.log_theory.specs.declared.step.Name.{Name}
use Rattle.log_theory.specs.declared.step.Ref.{Ref}
use Rattle.log_theory.specs.declared.step.Ref.TheVariants.{Line, Made, Shared}
use Rattle.log_theory.specs.declared.step.Step.{Step}
use Rattle.log_theory.specs.declared.step.Step.TheVariants.{P, U, N}
use Rattle.proof_theory.specs.Forms.{Form}
use Rattle.proof_theory.specs.Slack.{refutes, negations}
use Rattle.log_theory.specs.Profiles.{told_in}
use Rattle.log_theory.specs.Lookups.{find_all}
use Rattle.log_theory.specs.Tables.{Table, empty_table, find, step_in}
use Rattle.journal_theory.specs.Journals.{own_name}
use Rattle.trim_theory.specs.Renaming.{Renaming, LinesRenamed, EndRenamed}
use Rattle.trim_theory.specs.Running.{later_refs, is_named, with_deletions}

-- ---- what is kept

-- The lines that make a form by operations or by unit propagation, as far as their names are kept.
abbrev pub kept_lines : (Name → Bool) → List Step → List Step
kept_lines keep [] = []
kept_lines keep (P name ops ∷ ss) =
    cond (keep name) (P name ops ∷ kept_lines keep ss) (kept_lines keep ss)
kept_lines keep (U name lits refs ∷ ss) =
    cond (keep name) (U name lits refs ∷ kept_lines keep ss) (kept_lines keep ss)
kept_lines keep (s ∷ ss) = kept_lines keep ss

-- The names of lines that make forms, in order.
abbrev pub made_names : List Step → List Name
made_names [] = []
made_names (P name ops ∷ ss) = name ∷ made_names ss
made_names (U name lits refs ∷ ss) = name ∷ made_names ss
made_names (s ∷ ss) = made_names ss

-- The names that are kept: the one at place i becomes owner 0's name of place i.
abbrev pub kept_names : (Name → Bool) → List Step → List Name
kept_names keep log = made_names (kept_lines keep log)

-- The name that a row shares: that of the first line of the row.
abbrev pub row_name : List Step → ℕ → Option Name
row_name [] k = None
row_name (N row name ∷ ss) k = cond (row == k) (Some name) (row_name ss k)
row_name (s ∷ ss) k = row_name ss k

-- What a kept name becomes.
abbrev pub IsNewName : List Name → Name → Ref → Type 0
IsNewName names name r =
    (i : ℕ) × (slice_get names i ≡ Some name) × (r ≡ Made (own_name 0 i))

-- What the references of a log become: the model's stay, a kept name is renamed, and a row becomes the name that it shares.
abbrev pub ToKept : List Step → List Name → Renaming
ToKept log names (Line k) r = r ≡ Line k
ToKept log names (Made name) r = IsNewName names name r
ToKept log names (Shared k) r =
    (name : Name) × (row_name log k ≡ Some name) × IsNewName names name r

-- ---- what is needed

-- Each of owner 0's lines from a place on is named by a later one or by the last line of the log.
abbrev pub AreUsed : ℕ → List Step → Step → Type 0
AreUsed place [] end = Unit {0}
AreUsed place (s ∷ ss) end =
    (is_named place (later_refs ss end) ≡ true) × AreUsed (place + 1) ss end

-- ---- the steps of a log

-- Lines of a profile lead from a table to a table, each stepping from where those before it lead.
abbrev pub StepsIn : Profile → List Form → Table → List Step → Table → Type 0
StepsIn profile model t [] u = u ≡ t
StepsIn profile model t (s ∷ ss) u =
    (m : Table) × (step_in profile model t s ≡ Ok m) × StepsIn profile model m ss u

-- ---- hints of a log that has none

-- The references of a kept line without hints of its own lead to a conflict, over what the log's table has there.
abbrev pub LineStands : Profile → (Name → Bool) → List Form → Table → Step → Type 0
LineStands Plain keep model t (U name lits refs) =
    keep name ≡ true → (fs : List Form) × (find_all (find model t) refs ≡ Ok fs)
    × (refutes (negations lits) fs ≡ true)
LineStands profile keep model t s = Unit {0}

-- The same of each line, where the lines of the log lead from a table.
abbrev pub HintsStand : Profile → (Name → Bool) → List Form → Table → List Step → Type 0
HintsStand profile keep model t [] = Unit {0}
HintsStand profile keep model t (s ∷ ss) =
    LineStands profile keep model t s × ((u : Table)
    → step_in profile model t (told_in profile s) ≡ Ok u → HintsStand profile keep model u ss)

-- ---- the trimmed log

-- `out` and its last line `end` are the trimmed log of the steps `log`, read in a profile, and of their last line: the kept lines
-- with their hints, renamed with all they refer to, each of them needed, and each deleted behind the line that names it last.
pub record Trims (profile : Profile) (model : List Form) (log : List Step) (last : Step)
    (out : List Step) (end : Step) : Type 0 where
  pub keep : Name → Bool
  pub hinted : List Step
  pub told : map (told_in profile) hinted ≡ log
  pub hints : HintsStand profile keep model empty_table hinted
  pub lines : List Step
  pub renamed : LinesRenamed (ToKept hinted (kept_names keep hinted)) 0
      (kept_lines keep hinted) lines
  pub ends : EndRenamed (ToKept hinted (kept_names keep hinted)) last end
  pub used : AreUsed 0 lines end
  pub deleted : out ≡ with_deletions 0 lines end
