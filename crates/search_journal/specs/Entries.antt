-- The refuted values of an account, each with the number of its line.

use Rattle.std.specs.Prelude.{◌≡◌, ℕ, ◌<◌, ◌≤◌, ◌⊎◌, List, [], ◌∷◌, ◌++◌, length, Contains, take, map, Option, Some, None}
use Rattle.graph_theory.specs.Embedding.{Problem}
use Rattle.search_theory.specs.Account.{Account, path, level_at}
use Rattle.proof_theory.specs.Forms.{Form}
use Rattle.log_theory.specs.declared.step.Ref.{Ref}
use Rattle.log_theory.specs.declared.step.Ref.TheVariants.{Made}
use Rattle.log_theory.specs.Tables.{from_one}
use Rattle.explanation_theory.specs.Reasons.{pairs_clause}
use Rattle.nogood_book.specs.declared.row.Row.{Row}
use Rattle.journals.specs.Keeping.{Keeping}
use Rattle.log_growth.specs.Frames.{Frame}
use Rattle.search_journal.specs.declared.refuted.Refuted.{Refuted}
use Rattle.search_journal.specs.Lines.{row_frame, StandsBeside}
use Rattle.search_journal.specs.Numbers.{RowsBelow}

-- ---- levels

-- All entries are of this level or later ones; of earlier ones; no entry is of an earlier level than one before it.
abbrev pub AreFrom : ℕ → List Refuted → Type 0
AreFrom level [] = Unit {0}
AreFrom level (e ∷ es) = (level ≤ e.level) × AreFrom level es

abbrev pub AreBelow : ℕ → List Refuted → Type 0
AreBelow level [] = Unit {0}
AreBelow level (e ∷ es) = (e.level < level) × AreBelow level es

abbrev pub AreRising : List Refuted → Type 0
AreRising [] = Unit {0}
AreRising (e ∷ es) = AreFrom e.level es × AreRising es

-- ---- what an entry stands for

-- The level has a vertex, and the line of the entry's number is the clause that the path up to the level and this vertex at the value do
-- not all hold.
pub record IsEntry (q : Problem) (a : Account) (forms : List Form) (e : Refuted) : Type 0 where
  pub vertex : ℕ
  pub vertex_is : (level_at a e.level).vertex ≡ Some vertex
  pub line : from_one forms e.number ≡ Some (pairs_clause q (take e.level (path a)
      ++ (vertex, e.value) ∷ []))

abbrev pub AreEntries : Problem → Account → List Form → List Refuted → Type 0
AreEntries q a forms [] = Unit {0}
AreEntries q a forms (e ∷ es) = IsEntry q a forms e × AreEntries q a forms es

-- One of the entries is of this level and value.
abbrev pub HasEntry : List Refuted → ℕ → ℕ → Type 0
HasEntry [] level value = ⊥
HasEntry (e ∷ es) level value = ((e.level ≡ level) × (e.value ≡ value)) ⊎ HasEntry es level value

-- Each refuted value of the account has an entry.
abbrev pub AreCovered : Account → List Refuted → Type 0
AreCovered a entries = (level vertex value : ℕ) → (level_at a level).vertex ≡ Some vertex
    → Contains (level_at a level).refuted value → HasEntry entries level value

-- A level without a vertex has no refuted values.
abbrev pub IsFreshWithout : Option ℕ → List ℕ → Type 0
IsFreshWithout None us = us ≡ []
IsFreshWithout (Some p) us = Unit {0}

-- ---- names

-- The reference of an entry: the owner's line of its number.
abbrev pub entry_ref : ℕ → Refuted → Ref
entry_ref owner e = Made (record { owner = owner; number = e.number })

abbrev pub entry_refs : ℕ → List Refuted → List Ref
entry_refs owner es = map (entry_ref owner) es

abbrev pub entry_value : Refuted → ℕ
entry_value e = e.value

abbrev pub entry_values : List Refuted → List ℕ
entry_values es = map entry_value es

-- ---- what stands

-- Lines stand beside the rows, the maker knows what it has to of their forms, the numbers of the rows are those that are noted, each noted row is one of the rows, and the entries are those of the account.
pub record Writes (knows : Problem → Frame → List Form
    → Type 0) (lines : Problem) (j : Keeping) (owner : ℕ) (numbers : List (ℕ
    × ℕ)) (entries : List Refuted) (q : Problem) (rows : List Row) (a : Account) : Type 0 where
  pub problem_is : lines ≡ q
  pub forms : List Form
  pub beside : StandsBeside q rows j forms
  pub known : knows q (row_frame q rows j.owner) forms
  pub owner_is : owner ≡ j.owner
  pub numbers_are : numbers ≡ j.notes
  pub in_rows : RowsBelow (length rows) j.notes
  pub fresh_level : IsFreshWithout a.vertex a.refuted
  pub rising : AreRising entries
  pub entries_are : AreEntries q a forms entries
  pub covered : AreCovered a entries
