-- Rows that are combined word by word, as sets.
use Rattle.std.proofs.Common.{◌≡◌, ℕ, ◌/◌, ◌%◌, ◌^◌, ◌<◌, ◌≤◌, ◌&&◌, ◌||◌, not, List, length, get_or, refl, arith, inl, inr, ◌⊎◌, bit_and, bit_or, w64}
use Rattle.std.specs.Int.{bit_not}
use Rattle.std.proofs.lemmas.Bool.{cases_lt}
use Rattle.bit_rows.specs.BitRows.{has}
use Rattle.bit_rows.proofs.WordBits.{is_set_and, is_set_and_not, is_set_or}
use Rattle.bit_rows.proofs.Rows.{has_past}

pub has_and : (new old from : List ℕ) → length new ≡ length old → length old ≡ length from
    → ((k : ℕ) → k < length new → get_or new k 0 ≡ bit_and (get_or old k 0) (get_or from k 0)) → (v : ℕ) → has new v ≡ (has old v && has from v)
has_and new old from l m each v = by (cases_lt (v / 64) (length new))
  where
    by : (v / 64 < length new) ⊎ (length new ≤ v / 64) → has new v ≡ (has old v && has from v)
    by (inl h) = rw (each (v / 64) h) (is_set_and (get_or old (v / 64) 0) (get_or from (v / 64) 0) (v % 64))
    by (inr h) = rw (has_past new v (omega arith), has_past old v (omega arith)) refl

pub has_and_not : (new old from : List ℕ) → length new ≡ length old → length old ≡ length from → ((k : ℕ) → get_or from k 0 < 2 ^ 64)
    → ((k : ℕ) → k < length new → get_or new k 0 ≡ bit_and (get_or old k 0) (bit_not w64 (get_or from k 0)))
    → (v : ℕ) → has new v ≡ (has old v && not (has from v))
has_and_not new old from l m fits each v = by (cases_lt (v / 64) (length new))
  where
    by : (v / 64 < length new) ⊎ (length new ≤ v / 64) → has new v ≡ (has old v && not (has from v))
    by (inl h) = rw (each (v / 64) h) (is_set_and_not (get_or old (v / 64) 0) (get_or from (v / 64) 0) (v % 64) (fits (v / 64)) (omega arith))
    by (inr h) = rw (has_past new v (omega arith), has_past old v (omega arith)) refl

pub has_or : (new old from : List ℕ) → length new ≡ length old → length old ≡ length from
    → ((k : ℕ) → k < length new → get_or new k 0 ≡ bit_or (get_or old k 0) (get_or from k 0)) → (v : ℕ) → has new v ≡ (has old v || has from v)
has_or new old from l m each v = by (cases_lt (v / 64) (length new))
  where
    by : (v / 64 < length new) ⊎ (length new ≤ v / 64) → has new v ≡ (has old v || has from v)
    by (inl h) = rw (each (v / 64) h) (is_set_or (get_or old (v / 64) 0) (get_or from (v / 64) 0) (v % 64))
    by (inr h) = rw (has_past new v (omega arith), has_past old v (omega arith), has_past from v (omega arith)) refl
