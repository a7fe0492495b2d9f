-- A trimmed log by marks: for each line that makes a form, which line names it last of all that are needed.

use Rattle.std.specs.Prelude.{◌≡◌, ◌≢◌, ◌⊎◌, ℕ, zero, suc, ◌+◌, ◌<◌, Bool, true, false, cond, not, ◌==◌, ◌&&◌, List, [], ◌∷◌, ◌++◌, length, map, Option, Some, None, slice_get}
use Rattle.log_theory.specs.declared.profile.Profile.{Profile}
use Rattle.log_theory.specs.declared.step.Name.{Name}
use Rattle.log_theory.specs.declared.step.Op.{Op}
use Rattle.log_theory.specs.declared.step.Op.TheVariants.{Push}
use Rattle.log_theory.specs.declared.step.Ref.{Ref}
use Rattle.log_theory.specs.declared.step.Ref.TheVariants.{Line, Made, Shared}
use Rattle.log_theory.specs.declared.step.Step.{Step}
use Rattle.log_theory.specs.declared.step.Step.TheVariants.{P, U, D, E, Y, Q}
use Rattle.proof_theory.specs.Forms.{Form}
use Rattle.proof_theory.specs.Propagation.{IsAmong}
use Rattle.log_theory.specs.Profiles.{told_in}
use Rattle.log_theory.specs.Tables.{Table, empty_table, find}
use Rattle.journal_theory.specs.Referring.{step_refs}
use Rattle.journal_theory.specs.Journals.{own_name}
use Rattle.trim_theory.specs.Trimming.{StepsIn, kept_lines, made_names, row_name, HintsStand, Trims}
use Rattle.trim_theory.specs.Logs.{AreSteps}

-- ---- places

-- All lines that make forms, in order; the place of one is its number here, from 0.
abbrev pub made_lines : List Step → List Step
made_lines log = kept_lines (λ name. true) log

abbrev pub same_name : Name → Name → Bool
same_name a b = (a.owner == b.owner) && (a.number == b.number)

-- The place behind one more.
abbrev pub one_behind : Option ℕ → Option ℕ
one_behind None = None
one_behind (Some i) = Some (suc i)

-- The first place of a name.
abbrev pub place_of : List Name → Name → Option ℕ
place_of [] name = None
place_of (n ∷ ns) name = cond (same_name n name) (Some 0) (one_behind (place_of ns name))

abbrev pub place_of_row : List Name → Option Name → Option ℕ
place_of_row names None = None
place_of_row names (Some name) = place_of names name

-- The place of the line that a reference names, by its name or by a row.
abbrev pub place_at : List Step → List Name → Ref → Option ℕ
place_at log names (Line k) = None
place_at log names (Made name) = place_of names name
place_at log names (Shared k) = place_of_row names (row_name log k)

-- ---- marks

-- The mark of a place is 0 where its line is not needed, and else the place behind that of the needed line that names it last; the
-- last line of the log counts as the one behind all others.
pub record Marked (log : List Step) (last : Step) (mark : ℕ → ℕ) : Type 0 where
  pub by_line : (i j : ℕ) (s : Step) (q : Ref) → slice_get (made_lines log) j ≡ Some s
      → mark j ≢ 0 → IsAmong q (step_refs s)
      → place_at log (made_names (made_lines log)) q ≡ Some i → j < mark i
  pub by_last : (i : ℕ) (q : Ref) → IsAmong q (step_refs last)
      → place_at log (made_names (made_lines log)) q ≡ Some i
      → length (made_lines log) < mark i
  pub from : (i j : ℕ) → mark i ≡ suc j
      → ((s : Step) × (slice_get (made_lines log) j ≡ Some s) × (mark j ≢ 0)
      × ((q : Ref) × IsAmong q (step_refs s)
      × (place_at log (made_names (made_lines log)) q ≡ Some i)))
      ⊎ ((j ≡ length (made_lines log)) × ((q : Ref) × IsAmong q (step_refs last)
      × (place_at log (made_names (made_lines log)) q ≡ Some i)))

-- Whether a name's place is marked.
abbrev pub is_marked : (ℕ → ℕ) → Option ℕ → Bool
is_marked mark None = false
is_marked mark (Some i) = not (mark i == 0)

abbrev pub keeps : List Name → (ℕ → ℕ) → Name → Bool
keeps names mark name = is_marked mark (place_of names name)

-- ---- what is given

-- How many places before one are marked: its new place.
abbrev pub rank : (ℕ → ℕ) → ℕ → ℕ
rank mark zero = 0
rank mark (suc i) = rank mark i + cond (mark i == 0) 0 1

-- A reference to a place.
abbrev pub ref_to : (ℕ → ℕ) → Ref → Option ℕ → Ref
ref_to mark q None = q
ref_to mark q (Some i) = Made (own_name 0 (rank mark i))

-- What a reference becomes.
abbrev pub new_ref : List Step → (ℕ → ℕ) → Ref → Ref
new_ref log mark q = ref_to mark q (place_at log (made_names (made_lines log)) q)

abbrev pub new_op : (Ref → Ref) → Op → Op
new_op new (Push q) = Push (new q)
new_op new o = o

-- What a line becomes under a new name.
abbrev pub new_line : (Ref → Ref) → ℕ → Step → Step
new_line new place (P name ops) = P (own_name 0 place) (map (new_op new) ops)
new_line new place (U name lits refs) = U (own_name 0 place) lits (map new refs)
new_line new place s = s

-- What the last line becomes.
abbrev pub new_last : (Ref → Ref) → Step → Step
new_last new (E q) = E (new q)
new_last new s = s

-- The deletions of the places below n that bear this mark, by rising place.
abbrev pub marked_deletions : (ℕ → ℕ) → ℕ → ℕ → List Step
marked_deletions mark m zero = []
marked_deletions mark m (suc n) =
    marked_deletions mark m n ++ cond (mark n == m) (D (Made (own_name 0 (rank mark n))) ∷ []) []

-- The marked lines from a place on, each with its deletions behind it.
abbrev pub marked_log : (Ref → Ref) → (ℕ → ℕ) → ℕ → List Step → List Step
marked_log new mark place [] = []
marked_log new mark place (s ∷ ss) =
    cond (mark place == 0) (marked_log new mark (place + 1) ss) (new_line new (rank mark place) s
    ∷ (marked_deletions mark (place + 1) place ++ marked_log new mark (place + 1) ss))

-- A line that may be a log's last.
abbrev pub IsLast : Step → Type 0
IsLast (E q) = Unit {0}
IsLast (Y ones) = Unit {0}
IsLast Q = Unit {0}
IsLast s = ⊥

-- Where lines are marked, and what the last one names is there in the end, the marked ones are the trimmed log, by these very hints.
abbrev pub MarkLaw : Type 0
MarkLaw = (profile : Profile) (model : List Form) (hinted : List Step) (z : Table) (last : Step)
    (mark : ℕ → ℕ) → AreSteps hinted
    → StepsIn profile model empty_table (map (told_in profile) hinted) z
    → HintsStand profile (keeps (made_names (made_lines hinted)) mark) model empty_table hinted
    → IsLast last
    → ((q : Ref) → IsAmong q (step_refs last) → (f : Form) × (find model z q ≡ Some f))
    → Marked hinted last mark
    → (t : Trims profile model (map (told_in profile) hinted) last
    (marked_log (new_ref hinted mark) mark 0 (made_lines hinted))
    (new_last (new_ref hinted mark) last)) × (t.hinted ≡ hinted)
