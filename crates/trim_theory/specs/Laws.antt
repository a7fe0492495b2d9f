-- The laws of trimmed logs, from the definitions alone.

use Rattle.std.specs.Prelude.{◌≡◌, ℕ, ◌+◌, ◌^◌, ◌<◌, ◌≤◌, Bool, true, false, List, [], ◌∷◌, ◌++◌, length, map, Some}
use Rattle.log_theory.specs.declared.profile.Profile.{Profile}
use Rattle.log_theory.specs.declared.profile.Profile.TheVariants.{Hinted}
use Rattle.log_theory.specs.declared.step.Name.{Name}
use Rattle.log_theory.specs.declared.step.Ref.{Ref}
use Rattle.log_theory.specs.declared.step.Ref.TheVariants.{Made}
use Rattle.log_theory.specs.declared.step.Step.{Step}
use Rattle.log_theory.specs.declared.step.Step.TheVariants.{D}
use Rattle.log_theory.specs.declared.step.Verdict.{Verdict}
use Rattle.proof_theory.specs.Forms.{Form}
use Rattle.proof_theory.specs.Slack.{Setting, conflict, after, refutes}
use Rattle.proof_theory.specs.Propagation.{IsAmong}
use Rattle.log_theory.specs.Profiles.{told_in, log_profile}
use Rattle.log_theory.specs.Tables.{Table, empty_table, find}
use Rattle.log_theory.specs.Acceptance.{Accepts}
use Rattle.journal_theory.specs.Referring.{step_refs}
use Rattle.journal_theory.specs.Journals.{own_name}
use Rattle.trim_theory.specs.Renaming.{LinesRenamed, Follows}
use Rattle.trim_theory.specs.Running.{own_look, MakesFrom, is_named, deletions}
use Rattle.trim_theory.specs.Trimming.{StepsIn, kept_lines, kept_names, ToKept, AreUsed, HintsStand, Trims}
use Rattle.trim_theory.specs.Logs.{AreSteps, TrimsText}
use Rattle.trim_theory.specs.Marking.{MarkLaw}

-- ---- what is kept makes its forms

-- Of lines that step, those that are kept make their forms under their new names over the kept ones alone, and what the table finds
-- in the end under a reference that is kept, stands under the new one.
abbrev pub KeepingLaw : Type 0
KeepingLaw = (profile : Profile) (model : List Form) (hinted : List Step) (z : Table) (keep : Name
    → Bool) (lines : List Step)
    → StepsIn profile model empty_table (map (told_in profile) hinted) z
    → HintsStand profile keep model empty_table hinted
    → LinesRenamed (ToKept hinted (kept_names keep hinted)) 0 (kept_lines keep hinted) lines
    → (all : List Form) × MakesFrom model [] lines all × ((q r : Ref)
    → ToKept hinted (kept_names keep hinted) q r → Follows (find model z) (own_look model all) q r)

-- ---- the trimmed log

-- The trimmed log is accepted with the same claim wherever the whole one is.
abbrev pub TrimLaw : Type 0
TrimLaw = (n : ℕ) (model : List Form) (log text : List ℕ) (claim : Verdict) → length model < 2 ^ 63
    → Accepts n model log claim → TrimsText model log text → Accepts n model text claim

-- Of steps with hints that are in their ranges and lead somewhere there is one trimmed log.
abbrev pub OneLaw : Type 0
OneLaw = (model : List Form) (log : List Step) (z : Table) (last : Step) (out other : List Step)
    (end stop : Step) → AreSteps log → StepsIn Hinted model empty_table log z
    → Trims Hinted model log last out end
    → Trims Hinted model log last other stop → (out ≡ other) × (end ≡ stop)

-- Of a text with hints that is accepted there is one trimmed text.
abbrev pub OneTextLaw : Type 0
OneTextLaw = (n : ℕ) (model : List Form) (log text other : List ℕ) (claim : Verdict)
    → log_profile log ≡ Some Hinted → Accepts n model log claim
    → TrimsText model log text → TrimsText model log other → text ≡ other

pub record OneLaws : Type 0 where
  pub steps : OneLaw
  pub text : OneTextLaw

-- ---- for whoever makes one

-- Places from `low` on, strictly rising.
abbrev pub AreRising : ℕ → List ℕ → Type 0
AreRising low [] = Unit {0}
AreRising low (i ∷ is) = (low ≤ i) × AreRising (i + 1) is

-- The places are those below n that are named here and not later.
pub record AreLast (n : ℕ) (here later : List Ref) (places : List ℕ) : Type 0 where
  pub rising : AreRising 0 places
  pub sound : (i : ℕ) → IsAmong i places
      → (i < n) × (is_named i here ≡ true) × (is_named i later ≡ false)
  pub complete : (i : ℕ) → i < n → is_named i here ≡ true → is_named i later ≡ false
      → IsAmong i places

-- The deletions behind a line are those of these places.
abbrev pub DeletionLaw : Type 0
DeletionLaw = (n : ℕ) (here later : List Ref) (places : List ℕ) → AreLast n here later places
    → map (λ i. D (Made (own_name 0 i))) places ≡ deletions n here later

-- The setting with all that forms force besides, one after the other.
abbrev pub after_all : Setting → List Form → Setting
after_all s [] = s
after_all s (f ∷ fs) = after_all (after s f) fs

-- Forms that are passed in this order, and then one in conflict, refute.
abbrev pub HintLaw : Type 0
HintLaw = (s : Setting) (fs : List Form) (g : Form) → conflict (after_all s fs) g ≡ true
    → refutes s (fs ++ g ∷ []) ≡ true

-- Where the last line names none of them, there are no lines.
abbrev pub NothingLaw : Type 0
NothingLaw = (place : ℕ) (lines : List Step) (end : Step) → AreUsed place lines end
    → ((i : ℕ) → is_named i (step_refs end) ≡ false) → lines ≡ []

pub record CodeLaws : Type 0 where
  pub mark : MarkLaw
  pub deletion : DeletionLaw
  pub hint : HintLaw
  pub nothing : NothingLaw
