-- Words that are set to 0 one after another.

use Rattle.std.proofs.Common.{◌≡◌, ℕ, ◌+◌, ◌<◌, ◌≤◌, List, length, get_or, refl, ◌∙◌, ◌⊎◌, inl, inr, arith}
use Rattle.std.proofs.Math.ListN.{set}
use Rattle.std.proofs.lemmas.List.{get_or-set_same, get_or-set_other}
use Rattle.std.proofs.lemmas.Bool.{cases_eq}
use Rattle.fail_account.specs.Rows.{Clears}

-- none yet
pub clears_none : (words : List ℕ) (from : ℕ) → Clears words words from from
clears_none words from = record { inside = λ k low high. absurd (omega arith); outside = λ k past. refl }

-- one more
pub clears_more : (old new : List ℕ) (from place : ℕ) → from ≤ place → place < length new → Clears old new from place → Clears old (set new place 0) from (place + 1)
clears_more old new from place low inside clears = record {
  inside = λ k k_low k_high. at_inside k k_low k_high (cases_eq k place);
  outside = λ k past. at_outside k past;
}
  where
    at_inside : (k : ℕ) → from ≤ k → k < place + 1 → (k ≡ place) ⊎ (k ≡ place → ⊥) → get_or (set new place 0) k 0 ≡ 0
    at_inside k k_low k_high (inl e) = rw (e, get_or-set_same new place 0 0 inside) refl
    at_inside k k_low k_high (inr ne) = get_or-set_other new place k 0 0 ne ∙ clears.inside k k_low (omega arith)

    at_outside : (k : ℕ) → (k < from) ⊎ (place + 1 ≤ k) → get_or (set new place 0) k 0 ≡ get_or old k 0
    at_outside k (inl h) = get_or-set_other new place k 0 0 (λ e. omega arith) ∙ clears.outside k (inl h)
    at_outside k (inr h) = get_or-set_other new place k 0 0 (λ e. omega arith) ∙ clears.outside k (inr (omega arith))
