-- What marking the places of references does.
use Rattle.std.specs.Prelude.{◌≡◌, ◌≢◌, ◌⊎◌, ℕ, suc, ◌<◌, ◌≤◌, List, length, get_or, Option, Some, slice_get}
use Rattle.log_theory.specs.declared.step.Ref.{Ref}
use Rattle.log_theory.specs.declared.step.Step.{Step}
use Rattle.proof_theory.specs.Propagation.{IsAmong}
use Rattle.journal_theory.specs.Referring.{step_refs}

-- One place below a limit was marked, or was marked before; all others are as they were.
pub record MarksOne (place : Option ℕ) (limit mark : ℕ) (old new : List ℕ) : Type 0 where
  pub long : length new ≡ length old
  pub others : (i : ℕ) → (place ≡ Some i → ⊥) → get_or new i 0 ≡ get_or old i 0
  pub kept : (i : ℕ) → get_or old i 0 ≢ 0 → get_or new i 0 ≡ get_or old i 0
  pub past : (i : ℕ) → limit ≤ i → get_or new i 0 ≡ get_or old i 0
  pub marked : (i : ℕ) → place ≡ Some i → i < limit → get_or old i 0 ≡ 0 → get_or new i 0 ≡ mark

-- The places of references below a limit are marked, and nothing else is new.
pub record MarksRefs (place : Ref → Option ℕ) (refs : List Ref) (limit mark : ℕ)
    (old new : List ℕ) : Type 0 where
  pub long : length new ≡ length old
  pub kept : (i : ℕ) → get_or old i 0 ≢ 0 → get_or new i 0 ≡ get_or old i 0
  pub past : (i : ℕ) → limit ≤ i → get_or new i 0 ≡ get_or old i 0
  pub reached : (i : ℕ) (q : Ref) → IsAmong q refs → place q ≡ Some i → i < limit
      → get_or new i 0 ≢ 0
  pub from : (i : ℕ) → get_or old i 0 ≡ 0 → get_or new i 0 ≢ 0
      → (get_or new i 0 ≡ mark) × ((q : Ref) × IsAmong q refs × (place q ≡ Some i))

-- All needed lines from place `at` on have marked what they name, and the last line has; each mark is that of the last one to name its
-- place.
pub record IsMarked (place : Ref → Option ℕ) (made : List Step) (last : Step) (at : ℕ)
    (marks : List ℕ) : Type 0 where
  pub long : length marks ≡ length made
  pub by_line : (i j : ℕ) (s : Step) (q : Ref) → at ≤ j → slice_get made j ≡ Some s
      → get_or marks j 0 ≢ 0 → IsAmong q (step_refs s) → place q ≡ Some i → i < j
      → j < get_or marks i 0
  pub by_last : (i : ℕ) (q : Ref) → IsAmong q (step_refs last) → place q ≡ Some i
      → i < length made → length made < get_or marks i 0
  pub from : (i j : ℕ) → get_or marks i 0 ≡ suc j
      → (at ≤ j) × (((s : Step) × (slice_get made j ≡ Some s) × (get_or marks j 0 ≢ 0)
      × ((q : Ref) × IsAmong q (step_refs s) × (place q ≡ Some i)))
      ⊎ ((j ≡ length made) × ((q : Ref) × IsAmong q (step_refs last) × (place q ≡ Some i))))
