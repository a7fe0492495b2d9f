-- A row in which one bit is set, and a row of zeros.

use Rattle.std.proofs.Common.{◌≡◌, ℕ, ◌*◌, ◌/◌, ◌%◌, ◌^◌, ◌<◌, ◌≤◌, Bool, true, false, eqb, ◌||◌, List, length, get_or, refl, sym, arith, inl, inr, ◌⊎◌, bit_or, w64}
use Rattle.std.proofs.Math.ListN.{set, replicate}
use Rattle.std.proofs.lemmas.Nat.Bits.{bit_at_set_same, bit_at_set_other}
use Rattle.std.proofs.lemmas.Bool.{cases_eq, cases_lt, eq-eqb, ne_eqb}
use Rattle.std.proofs.lemmas.List.{get_or-set_same, get_or-set_other, get_or_past, get_or-replicate, length-replicate}
use Rattle.bit_rows.specs.BitRows.{is_set, has}
use Rattle.bit_rows.proofs.WordBits.{is_set-zero}
use Rattle.bit_rows.proofs.Rows.{has_past}

or_true : (b : Bool) → (b || true) ≡ true
or_true true = refl
or_true false = refl

or_false : (b : Bool) → (b || false) ≡ b
or_false true = refl
or_false false = refl

-- the bit is set, and the others are as they were
pub has-set : (row : List ℕ) (value v : ℕ) → value < 64 * length row
    → has (set row (value / 64) (bit_or (get_or row (value / 64) 0) (1 * 2 ^ (value % 64) % 2 ^ 64))) v ≡ (has row v || eqb value v)
has-set row value v inside = by (cases_eq (v / 64) (value / 64)) (cases_eq (v % 64) (value % 64))
  where
    by : (v / 64 ≡ value / 64) ⊎ (v / 64 ≡ value / 64 → ⊥) → (v % 64 ≡ value % 64) ⊎ (v % 64 ≡ value % 64 → ⊥)
        → has (set row (value / 64) (bit_or (get_or row (value / 64) 0) (1 * 2 ^ (value % 64) % 2 ^ 64))) v ≡ (has row v || eqb value v)
    by (inl e) (inl f) =
        let word : value / 64 < length row = omega arith in
        rw (
          e,
          f,
          get_or-set_same row (value / 64) (bit_or (get_or row (value / 64) 0) (1 * 2 ^ (value % 64) % 2 ^ 64)) 0 word,
          bit_at_set_same w64 (get_or row (value / 64) 0) (value % 64) (omega arith),
          eq-eqb value v (omega arith),
        )
        (sym (or_true (is_set (get_or row (value / 64) 0) (value % 64))))
    by (inl e) (inr ne) =
        let word : value / 64 < length row = omega arith in
        rw (
          e,
          get_or-set_same row (value / 64) (bit_or (get_or row (value / 64) 0) (1 * 2 ^ (value % 64) % 2 ^ 64)) 0 word,
          bit_at_set_other w64 (get_or row (value / 64) 0) (value % 64) (omega arith) (v % 64) ne,
          ne_eqb value v (λ h. ne (omega arith)),
        )
        (sym (or_false (is_set (get_or row (value / 64) 0) (v % 64))))
    by (inr ne) r =
        rw (
          get_or-set_other row (value / 64) (v / 64) (bit_or (get_or row (value / 64) 0) (1 * 2 ^ (value % 64) % 2 ^ 64)) 0 ne,
          ne_eqb value v (λ h. ne (omega arith)),
        )
        (sym (or_false (has row v)))

-- where every word is 0 no value stands
pub has_none : (row : List ℕ) → ((k : ℕ) → k < length row → get_or row k 0 ≡ 0) → (v : ℕ) → has row v ≡ false
has_none row zeros v = by (cases_lt (v / 64) (length row))
  where
    by : (v / 64 < length row) ⊎ (length row ≤ v / 64) → has row v ≡ false
    by (inl inside) = rw (zeros (v / 64) inside) (is_set-zero (v % 64))
    by (inr past) = has_past row v (omega arith)

-- a row of zeros holds nothing
pub has-zeros : (n v : ℕ) → has (replicate n 0) v ≡ false
has-zeros n v = by (cases_lt (v / 64) n)
  where
    by : (v / 64 < n) ⊎ (n ≤ v / 64) → has (replicate n 0) v ≡ false
    by (inl inside) = rw (get_or-replicate {A = ℕ} n (v / 64) 0 0 inside) (is_set-zero (v % 64))
    by (inr past) = rw (get_or_past {X = ℕ} (replicate n 0) (v / 64) 0 (rw (length-replicate {A = ℕ} n 0) past)) (is_set-zero (v % 64))
