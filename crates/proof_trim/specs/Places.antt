-- What an index of a log knows.
use Rattle.std.specs.Prelude.{◌≡◌, ℕ, Bool, true, false, ◌&&◌, List, length, Option, Some, None, nat_eq}
use Rattle.std.specs.HashMap.{get}
use Rattle.log_theory.specs.declared.step.Name.{Name}
use Rattle.log_theory.specs.declared.step.Ref.{Ref}
use Rattle.log_theory.specs.declared.step.Ref.TheVariants.{Line, Made, Shared}
use Rattle.log_theory.specs.declared.step.Step.{Step}
use Rattle.trim_theory.specs.Trimming.{made_names, row_name}
use Rattle.trim_theory.specs.Marking.{made_lines, place_of}
use Rattle.proof_trim.specs.declared.index.Index.{Index}

-- Whether two keys are the same name.
abbrev pub same_key : ℕ × ℕ → ℕ × ℕ → Bool
same_key a b = nat_eq a.0 b.0 && nat_eq a.1 b.1

-- The place of a name.
abbrev pub name_place : Index → Name → Option ℕ
name_place index name = get same_key index.places (name.owner, name.number)

abbrev pub place_by : Index → Option Name → Option ℕ
place_by index None = None
place_by index (Some name) = name_place index name

-- The place of what a reference names.
abbrev pub place_in : Index → Ref → Option ℕ
place_in index (Line k) = None
place_in index (Made name) = name_place index name
place_in index (Shared k) = place_by index (get nat_eq index.rows k)

-- The index knows the first place of each name, and the name of each row.
pub record IsIndexOf (index : Index) (log : List Step) : Type 0 where
  pub places : (name : Name) → name_place index name ≡ place_of (made_names (made_lines log)) name
  pub rows : (k : ℕ) → get nat_eq index.rows k ≡ row_name log k

-- The index of a log, and how many of its lines make a constraint.
pub record IsIndexWith (index : Index) (log : List Step) (count : ℕ) : Type 0 where
  pub index_of : IsIndexOf index log
  pub counted : count ≡ length (made_lines log)

-- A value where a test passes.
abbrev pub only : {A : Type 0} → Bool → A → Option A
only true x = Some x
only false x = None

-- The first of two values, if there is one.
abbrev pub or_else : {A : Type 0} → Option A → Option A → Option A
or_else (Some x) o = Some x
or_else None o = o
