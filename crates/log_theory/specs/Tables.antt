-- The table of the forms that a log has made so far, and one line's step.
use Rattle.std.specs.Prelude.{ℕ, zero, suc, ◌+◌, Bool, true, false, cond, not, ◌==◌, ◌&&◌, nat_le, nat_lt, List, [], ◌∷◌, ◌++◌, map, length, get_or, set, replicate, slice_get, Option, Some, None, Result, Ok, Err}
use Rattle.std.specs.List.{flat_map}
use Rattle.log_theory.specs.declared.profile.Profile.{Profile}
use Rattle.log_theory.specs.declared.profile.Profile.TheVariants.{Hinted, Plain}
use Rattle.log_theory.specs.declared.step.Name.{Name}
use Rattle.log_theory.specs.declared.step.Ref.{Ref}
use Rattle.log_theory.specs.declared.step.Ref.TheVariants.{Line, Made, Shared}
use Rattle.log_theory.specs.declared.step.Step.{Step}
use Rattle.log_theory.specs.declared.step.Step.TheVariants.{P, U, N, D}
use Rattle.log_theory.specs.declared.step.Cause.{Cause}
use Rattle.log_theory.specs.declared.step.Cause.TheVariants.{Form as Malformed, NameUsed, Order, NoSuchName}
use Rattle.proof_theory.specs.Forms.{Form}
use Rattle.log_theory.specs.Steps.{◌>>=◌, unless, or_fault}
use Rattle.log_theory.specs.LogText.{is_line}
use Rattle.log_theory.specs.Lookups.{Lookup, makes, closed_clause}

-- For each owner from 0 to 64 the forms that it made, in the order of their numbers; and the shared ones with their rows. A name that was
-- deleted keeps its place without a form, so that it still counts as used.
pub record Table : Type 0 where
  pub made : List (List (Option Form))
  pub shared : List (ℕ × Option Form)

-- Nothing made yet.
abbrev pub empty_table : Table
empty_table = record { made = replicate 65 []; shared = [] }

-- An owner's places, one for each name that it made.
abbrev pub made_by : Table → ℕ → List (Option Form)
made_by t owner = get_or t.made owner []

-- The item with a number that counts from 1.
abbrev pub from_one : {A : Type 0} → List A → ℕ → Option A
from_one fs zero = None
from_one fs (suc k) = slice_get fs k

-- The form of a place, if there is such a place and a form stands in it.
abbrev pub standing : {A : Type 0} → Option (Option A) → Option A
standing None = None
standing (Some o) = o

-- The form of a row, if it is not deleted.
abbrev pub shared_at : List (ℕ × Option Form) → ℕ → Option Form
shared_at [] row = None
shared_at (s ∷ ss) row = cond (s.0 == row) s.1 (shared_at ss row)

-- What each reference names in a model and a table.
abbrev pub find : List Form → Table → Lookup
find model t (Line k) = from_one model k
find model t (Made name) = standing (from_one (made_by t name.owner) name.number)
find model t (Shared row) = shared_at t.shared row

-- The places of forms none of which is deleted.
abbrev pub undeleted : List Form → List (Option Form)
undeleted fs = map (λ f. Some f) fs

-- Whether a row is used.
abbrev pub is_row_used : List (ℕ × Option Form) → ℕ → Bool
is_row_used [] row = false
is_row_used (s ∷ ss) row = cond (s.0 == row) true (is_row_used ss row)

-- Whether every row used lies below this one.
abbrev pub are_rows_below : List (ℕ × Option Form) → ℕ → Bool
are_rows_below [] row = true
are_rows_below (s ∷ ss) row = nat_lt s.0 row && are_rows_below ss row

-- A name is its owner's next; one that is made already is `NameUsed`, another `Order`.
abbrev pub fresh_name : Table → Name → Result ℕ Cause
fresh_name t name =
    unless (not (nat_le name.number (length (made_by t name.owner)))) NameUsed >>= λ _. unless
    (name.number == length (made_by t name.owner) + 1) Order

-- A row lies above all rows used; one that is used itself is `NameUsed`, another `Order`.
abbrev pub fresh_row : Table → ℕ → Result ℕ Cause
fresh_row t row = unless (not (is_row_used t.shared row)) NameUsed >>= λ _. unless
    (are_rows_below t.shared row) Order

-- The table with an owner's next form.
abbrev pub with_made : Table → Name → Form → Table
with_made t name f = record {
  made = set t.made name.owner (made_by t name.owner
      ++ Some f ∷ []);
  shared = t.shared;
}

-- The table with one more row.
abbrev pub with_shared : Table → ℕ → Form → Table
with_shared t row f = record { made = t.made; shared = t.shared ++ (row, Some f) ∷ [] }

-- Places without the form of a number that counts from 1.
abbrev pub without_number : List (Option Form) → ℕ → List (Option Form)
without_number fs zero = fs
without_number fs (suc k) = set fs k None

-- Rows without the form of one of them.
abbrev pub without_row : List (ℕ × Option Form) → ℕ → List (ℕ × Option Form)
without_row [] row = []
without_row (s ∷ ss) row = (s.0, cond (s.0 == row) None s.1) ∷ without_row ss row

-- The table without the form of a name or of a row. Where the form has another name, that one goes on naming it.
abbrev pub without : Table → Ref → Table
without t (Line k) = t
without t (Made name) = record {
  made = set t.made name.owner (without_number (made_by t name.owner) name.number);
  shared = t.shared;
}
without t (Shared row) = record { made = t.made; shared = without_row t.shared row }

-- One line's step in a log with hints: the table after it, or its first fault.
abbrev pub step_of : List Form → Table → Step → Result Table Cause
step_of model t (P name ops) = fresh_name t name >>= λ _. makes (find model t)
    (P name ops) >>= λ f. Ok (with_made t name f)
step_of model t (U name lits refs) = fresh_name t name >>= λ _. makes (find model t)
    (U name lits refs) >>= λ f. Ok (with_made t name f)
step_of model t (N row name) = fresh_row t row >>= λ _. makes (find model t)
    (N row name) >>= λ f. Ok (with_shared t row f)
step_of model t (D at) = unless (not (is_line at)) Malformed >>= λ _. or_fault
    (find model t at) NoSuchName >>= λ _. Ok (without t at)
step_of model t _ = Err Malformed

-- The forms that stand in places.
abbrev pub somes : List (Option Form) → List Form
somes [] = []
somes (None ∷ os) = somes os
somes (Some f ∷ os) = f ∷ somes os

-- The model's forms and all that were made so far and are not deleted, by whatever name.
abbrev pub all_forms : List Form → Table → List Form
all_forms model t = model ++ (somes (flat_map (λ fs. fs) t.made) ++ somes (map (λ s. s.1) t.shared))

-- One line's step in a log of a profile; without hints a `u` line names nothing, and is judged over all forms so far.
abbrev pub step_in : Profile → List Form → Table → Step → Result Table Cause
step_in Hinted model t s = step_of model t s
step_in Plain model t (U name lits refs) = fresh_name t name >>= λ _. closed_clause
    (all_forms model t) lits >>= λ f. Ok (with_made t name f)
step_in Plain model t s = step_of model t s
