-- A row that holds the values below a bound that pass a test, filled value by value.

use Rattle.std.proofs.Common.{◌≡◌, ℕ, ◌+◌, ◌≤◌, Bool, true, false, ◌==◌, nat_lt, ◌&&◌, ◌||◌, List, slice_index, subst, arith, inl, inr, ◌⊎◌}
use Rattle.std.proofs.lemmas.Grind.{common_steps}
use Rattle.std.proofs.lemmas.Bool.{cases_eq}
use Rattle.graph_theory.specs.Neighbours.{common}
use Rattle.graph_theory.specs.Asked.{asked_shared}
use Rattle.graph_theory.proofs.NeighbourCounts.{shared_are_kept}
use Rattle.bit_rows.specs.BitRows.{has}
use Rattle.common_neighbour.specs.Sharing.{TooFewAreDead}

-- one value more, which passes
pub passes_next : (b : Bool) (f : ℕ → Bool) (i v : ℕ) → b ≡ (nat_lt v i && f v) → f i ≡ true → (b || i == v) ≡ (nat_lt v (i + 1) && f v)
passes_next b f i v is here = by (cases_eq i v)
  where
    by : (i ≡ v) ⊎ (i ≡ v → ⊥) → (b || i == v) ≡ (nat_lt v (i + 1) && f v)
    by (inl e) = let at : f v ≡ true = rw (← e) here in grind (arith, common_steps)
    by (inr ne) = grind (arith, common_steps)

-- one value more, which does not
pub fails_next : (b : Bool) (f : ℕ → Bool) (i v : ℕ) → b ≡ (nat_lt v i && f v) → f i ≡ false → b ≡ (nat_lt v (i + 1) && f v)
fails_next b f i v is here = by (cases_eq i v)
  where
    by : (i ≡ v) ⊎ (i ≡ v → ⊥) → b ≡ (nat_lt v (i + 1) && f v)
    by (inl e) = let at : f v ≡ false = rw (← e) here in grind (arith, common_steps)
    by (inr ne) = grind (arith, common_steps)

-- the row after a value that passes
pub filled_next : (row old new : List ℕ) (f : ℕ → Bool) (i at : ℕ) → ((v : ℕ) → has old v ≡ (nat_lt v i && f v)) → row ≡ new
    → ((v : ℕ) → has new v ≡ (has old v || at == v)) → at ≡ i → f i ≡ true → (v : ℕ) → has row v ≡ (nat_lt v (i + 1) && f v)
filled_next row old new f i at before is set at_is here v =
    rw (is, set v, at_is) (passes_next (has old v) f i v (before v) here)

-- and after one that does not
pub left_next : (row old : List ℕ) (f : ℕ → Bool) (i : ℕ) → ((v : ℕ) → has old v ≡ (nat_lt v i && f v)) → row ≡ old → f i ≡ false
    → (v : ℕ) → has row v ≡ (nat_lt v (i + 1) && f v)
left_next row old f i before is here v = rw is (fails_next (has old v) f i v (before v) here)

-- an embedding sends two vertices to no two that share fewer neighbours than is asked of them
pub too_few_lie_in_none : TooFewAreDead
too_few_lie_in_none q p r t u p_in r_in fewer m e x =
    let kept = shared_are_kept q m p r e p_in r_in in
    let there : asked_shared q p r ≤ common q.target t u =
    subst (λ (v : ℕ). asked_shared q p r ≤ common q.target t v) x.2.1 (subst (λ (v : ℕ). asked_shared q p r ≤ common q.target v (slice_index m r)) x.1 kept) in
    absurd (omega arith)
