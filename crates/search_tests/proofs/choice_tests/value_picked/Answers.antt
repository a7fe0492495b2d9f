use Rattle.std.proofs.Common.{◌≡◌, ℕ, ◌/◌, ◌%◌, ◌<◌, ◌≤◌, true, ◌∷◌, [], sym, ◌∙◌, arith, inl, inr, ◌⊎◌}
use Rattle.std.proofs.lemmas.Bool.{cases_lt, false≢true}
use Rattle.std.proofs.lemmas.Nat.Bits.{bit_at_above}
use Rattle.bit_rows.specs.BitRows.{has}
use Rattle.bit_rows.proofs.Rows.{has_past}
use Rattle.search_tests.proofs.choice_tests.value_picked.Goals as goal

members_below : (v : ℕ) → has (164 ∷ []) v ≡ true → v < 8
members_below v e = by (cases_lt v 8) (cases_lt v 64)
  where
    by : (v < 8) ⊎ (8 ≤ v) → (v < 64) ⊎ (64 ≤ v) → v < 8
    by (inl l) o = l
    by (inr l) (inr far) = absurd (false≢true (sym (has_past (164 ∷ []) v (omega arith)) ∙ e))
    by (inr l) (inl near) =
        let place : v / 64 ≡ 0 = omega arith in
        let bit : v % 64 ≡ v = omega arith in
        let h = rw (place, bit, bit_at_above 164 8 v (omega arith) l) at e in
        absurd (false≢true h)

pub pick-requires-clause-degrees : goal.pick-requires-clause-degrees
pick-requires-clause-degrees c = members_below
