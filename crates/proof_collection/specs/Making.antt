-- The logs of all workers beside the rows of their book.

use Rattle.std.specs.Prelude.{◌≡◌, ℕ, ◌+◌, ◌-◌, ◌<◌, ◌≤◌, List, [], ◌∷◌, map, Some, slice_get}
use Rattle.nogood_book.specs.declared.row.Row.{Row}
use Rattle.journals.specs.Keeping.{Keeping}
use Rattle.proof_logger.specs.Logging.{IsNogoodBy}

-- None of the rows is a nogood of this owner.
abbrev pub HasNone : ℕ → List Row → Type 0
HasNone owner rows = (k : ℕ) → IsNogoodBy owner rows k → ⊥

-- The log at each place, from 0 on, is that of the owner one further.
abbrev pub AreOfOwners : {L : Type 0} → (L → ℕ) → List L → Type 0
AreOfOwners {L} owner logs = (i : ℕ) (l : L) → slice_get logs i ≡ Some l → owner l ≡ i + 1

-- Each row is of an owner from 1 to this many.
abbrev pub AreBy : ℕ → List Row → Type 0
AreBy workers rows = (k : ℕ) (r : Row) → slice_get rows k ≡ Some r
    → (0 < r.owner) × (r.owner ≤ workers)

-- The log of the owner refutes.
abbrev pub IsFinisher : {L : Type 0} → (L → Type 0) → List L → ℕ → Type 0
IsFinisher {L} refutes logs owner = (l : L) → slice_get logs (owner - 1) ≡ Some l → refutes l

-- Owner 0's journal, without a line and without a note, and then those of the logs in their order.
pub record AreOfLogs {L : Type 0} (journal : L
    → Keeping) (logs : List L) (journals : List Keeping) : Type 0 where
  pub first : Keeping
  pub owner : first.owner ≡ 0
  pub steps : first.steps ≡ []
  pub notes : first.notes ≡ []
  pub front : journals ≡ first ∷ map journal logs
