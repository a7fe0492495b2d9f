-- What stays of a keeper, from one call to the next.
use Rattle.std.proofs.Common.{◌≡◌, ◌∙◌, ℕ, List, refl}
use Rattle.journals.specs.Keeping.{KeepsRest}

-- Nothing was done.
pub rest_same : {K : Type 0} {owner_of : K → ℕ} {notes_of : K → List (ℕ × ℕ)} {spare_of : K → ℕ} {k : K} → KeepsRest owner_of notes_of spare_of k k
rest_same = record { owner = refl; notes = refl; spare = refl }

-- One call, then another.
pub rest_then : {K : Type 0} {owner_of : K → ℕ} {notes_of : K → List (ℕ × ℕ)} {spare_of : K → ℕ} {old mid new : K} → KeepsRest owner_of notes_of spare_of old mid
    → KeepsRest owner_of notes_of spare_of mid new → KeepsRest owner_of notes_of spare_of old new
rest_then first second = record {
  owner = second.owner ∙ first.owner;
  notes = second.notes ∙ first.notes;
  spare = second.spare ∙ first.spare;
}
