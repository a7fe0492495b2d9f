-- Marks of vertices.
use Rattle.std.proofs.Common.{◌≡◌, ℕ, zero, suc, ◌+◌, ◌<◌, ◌≤◌, Bool, false, List, [], ◌∷◌, length, get_or, refl, ap, ◌∙◌, arith, inl, inr, ◌⊎◌}
use Rattle.std.specs.Prelude.{set}
use Rattle.std.proofs.lemmas.Bool.{cases_eq, cases_lt}
use Rattle.std.proofs.lemmas.List.{get_or-set_same, get_or-set_other}

-- Past the end nothing is marked.
pub none_past : (marked : List Bool) (r : ℕ) → length marked ≤ r → get_or marked r false ≡ false
none_past [] zero h = refl
none_past [] (suc r) h = refl
none_past (m ∷ marked) zero h = absurd (omega (arith, h))
none_past (m ∷ marked) (suc r) h = none_past marked r (omega (arith, h))

-- One more has no mark.
pub unmarked_next : (marked : List Bool) (k : ℕ) → k < length marked → ((r : ℕ) → r < k → get_or marked r false ≡ false) → (r : ℕ) → r < k + 1 → get_or (set marked k false) r false ≡ false
unmarked_next marked k inside before r below = by (cases_eq r k)
  where
    by : (r ≡ k) ⊎ (r ≡ k → ⊥) → get_or (set marked k false) r false ≡ false
    by (inl same) = ap (λ (n : ℕ). get_or (set marked k false) n false) same ∙ get_or-set_same marked k false false inside
    by (inr other) = get_or-set_other marked k r false false other ∙ before r (omega (arith, below, other))

pub all_unmarked : (marked : List Bool) (k : ℕ) → length marked ≤ k → ((r : ℕ) → r < k → get_or marked r false ≡ false) → (r : ℕ) → get_or marked r false ≡ false
all_unmarked marked k past before r = elim (cases_lt r k) [ inl h ↦ before r h | inr h ↦ none_past marked r (omega (arith, h, past)) ]
