-- Rows of which one word is written.

use Rattle.std.proofs.Common.{◌≡◌, ℕ, ◌*◌, ◌+◌, ◌-◌, ◌/◌, ◌%◌, ◌^◌, ◌<◌, ◌≤◌, Bool, true, false, not, eqb, nat_lt, ◌&&◌, List, length, get_or, refl, sym, ap, ◌∙◌, arith, inl, inr, ◌⊎◌, bit_and, w64}
use Rattle.std.specs.Int.{bit_not}
use Rattle.std.proofs.Math.ListN.{set}
use Rattle.std.proofs.lemmas.Bool.{cases_eq, cases_lt, eq-eqb, ne_eqb, lt-ltb, le-ltb}
use Rattle.std.proofs.lemmas.List.{get_or-set_same, get_or-set_other}
use Rattle.std.proofs.Math.Pow.{pow-lt}
use Rattle.bit_rows.specs.BitRows.{is_set, has}
use Rattle.bit_rows.proofs.WordBits.{is_set_and_not, is_set_pow, is_set_ones, is_set-zero, one_shifted}
use Rattle.bit_rows.proofs.Rows.{has_past}

-- the values of the word that was written
pub has_written : (row : List ℕ) (place word v : ℕ) → place < length row → v / 64 ≡ place → has (set row place word) v ≡ is_set word (v % 64)
has_written row place word v inside here = rw (here, get_or-set_same row place word 0 inside) refl

-- and the others
pub has_elsewhere : (row : List ℕ) (place word v : ℕ) → (v / 64 ≡ place → ⊥) → has (set row place word) v ≡ has row v
has_elsewhere row place word v there = rw (get_or-set_other row place (v / 64) word 0 there) refl

-- ---- a row that is filled word by word

pub filled_next : (row : List ℕ) (place word below : ℕ) → place < length row → ((b : ℕ) → b < 64 → is_set word b ≡ nat_lt (64 * place + b) below)
    → ((v : ℕ) → v / 64 < place → has row v ≡ nat_lt v below) → (v : ℕ) → v / 64 < place + 1 → has (set row place word) v ≡ nat_lt v below
filled_next row place word below inside bits before v v_in = by (cases_eq (v / 64) place)
  where
    by : (v / 64 ≡ place) ⊎ (v / 64 ≡ place → ⊥) → has (set row place word) v ≡ nat_lt v below
    by (inl here) =
        let e : 64 * place + v % 64 ≡ v = omega arith in
        has_written row place word v inside here ∙ bits (v % 64) (omega arith) ∙ ap (λ (n : ℕ). nat_lt n below) e
    by (inr there) = has_elsewhere row place word v there ∙ before v (omega arith)

pub filled_whole : (row : List ℕ) (below : ℕ) → below ≤ 64 * length row → ((v : ℕ) → v / 64 < length row → has row v ≡ nat_lt v below)
    → (v : ℕ) → has row v ≡ nat_lt v below
filled_whole row below room each v = by (cases_lt (v / 64) (length row))
  where
    by : (v / 64 < length row) ⊎ (length row ≤ v / 64) → has row v ≡ nat_lt v below
    by (inl inside) = each v inside
    by (inr past) = has_past row v (omega arith) ∙ sym (le-ltb v below (omega arith))

-- the words of a row of all values below a bound
pub all_bits : (place below b : ℕ) → place < below / 64 → b < 64 → is_set (2 ^ 64 - 1) b ≡ nat_lt (64 * place + b) below
all_bits place below b less b_in = is_set_ones 64 b ∙ lt-ltb b 64 b_in ∙ sym (lt-ltb (64 * place + b) below (omega arith))

pub first_bits : (place below b : ℕ) → place ≡ below / 64 → b < 64 → is_set (2 ^ (below % 64) - 1) b ≡ nat_lt (64 * place + b) below
first_bits place below b here b_in = is_set_ones (below % 64) b ∙ by (cases_lt b (below % 64))
  where
    by : (b < below % 64) ⊎ (below % 64 ≤ b) → nat_lt b (below % 64) ≡ nat_lt (64 * place + b) below
    by (inl less) = lt-ltb b (below % 64) less ∙ sym (lt-ltb (64 * place + b) below (omega arith))
    by (inr more) = le-ltb b (below % 64) more ∙ sym (le-ltb (64 * place + b) below (omega arith))

pub no_bits : (place below b : ℕ) → below / 64 < place → is_set 0 b ≡ nat_lt (64 * place + b) below
no_bits place below b more = is_set-zero b ∙ sym (le-ltb (64 * place + b) below (omega arith))

-- ---- one bit taken out

stays : (b : Bool) → b ≡ (b && not false)
stays true = refl
stays false = refl

gone : (b : Bool) → false ≡ (b && not true)
gone true = refl
gone false = refl

off : (b : Bool) → (b && not true) ≡ false
off true = refl
off false = refl

on : (b : Bool) → (b && not false) ≡ b
on true = refl
on false = refl

pub has-unset : (row : List ℕ) (value v : ℕ) → value < 64 * length row
    → has (set row (value / 64) (bit_and (get_or row (value / 64) 0) (bit_not w64 (1 * 2 ^ (value % 64) % 2 ^ 64)))) v ≡ (has row v && not (eqb value v))
has-unset row value v inside = rw (one_shifted (value % 64) (omega arith)) (by (cases_eq (v / 64) (value / 64)) (cases_eq (v % 64) (value % 64)))
  where
    word : ℕ
    word = bit_and (get_or row (value / 64) 0) (bit_not w64 (2 ^ (value % 64)))

    bit : (i : ℕ) → i < 64 → is_set (bit_and (get_or row (value / 64) 0) (bit_not w64 (2 ^ (value % 64)))) i ≡ (is_set (get_or row (value / 64) 0) i && not (eqb i (value % 64)))
    bit i i_in =
        let within : value % 64 < 64 = omega arith in
        is_set_and_not (get_or row (value / 64) 0) (2 ^ (value % 64)) i (pow-lt within) i_in
        ∙ ap (λ (t : Bool). is_set (get_or row (value / 64) 0) i && not t) (is_set_pow (value % 64) i)

    by : (v / 64 ≡ value / 64) ⊎ (v / 64 ≡ value / 64 → ⊥) → (v % 64 ≡ value % 64) ⊎ (v % 64 ≡ value % 64 → ⊥)
        → has (set row (value / 64) (bit_and (get_or row (value / 64) 0) (bit_not w64 (2 ^ (value % 64))))) v ≡ (has row v && not (eqb value v))
    by (inl e) (inl f) =
        has_written row (value / 64) word v (omega arith) e ∙ bit (v % 64) (omega arith)
        ∙ ap (λ (t : Bool). is_set (get_or row (value / 64) 0) (v % 64) && not t) (eq-eqb (v % 64) (value % 64) f) ∙ off (is_set (get_or row (value / 64) 0) (v % 64))
        ∙ gone (has row v) ∙ ap (λ (t : Bool). has row v && not t) (sym (eq-eqb value v (omega arith)))
    by (inl e) (inr ne) =
        has_written row (value / 64) word v (omega arith) e ∙ bit (v % 64) (omega arith)
        ∙ ap (λ (t : Bool). is_set (get_or row (value / 64) 0) (v % 64) && not t) (ne_eqb (v % 64) (value % 64) ne) ∙ on (is_set (get_or row (value / 64) 0) (v % 64))
        ∙ ap (λ (k : ℕ). is_set (get_or row k 0) (v % 64)) (sym e)
        ∙ stays (has row v) ∙ ap (λ (t : Bool). has row v && not t) (sym (ne_eqb value v (λ h. ne (omega arith))))
    by (inr ne) r =
        has_elsewhere row (value / 64) word v ne ∙ stays (has row v) ∙ ap (λ (t : Bool). has row v && not t) (sym (ne_eqb value v (λ h. ne (omega arith))))
