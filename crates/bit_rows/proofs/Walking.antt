-- Members of a row, one after another.

use Rattle.std.proofs.Common.{◌≡◌, ℕ, ◌+◌, ◌-◌, ◌*◌, ◌/◌, ◌%◌, ◌^◌, ◌<◌, ◌≤◌, true, false, List, get_or, refl, sym, ap, ◌∙◌, subst, arith, w64, div-le_self, inl, inr, ◌⊎◌}
use Rattle.std.specs.Int.{bit_at, trailing_zeros}
use Rattle.std.proofs.lemmas.Bool.{cases_lt}
use Rattle.std.proofs.lemmas.Nat.{shr-shr}
use Rattle.std.proofs.lemmas.Nat.Bits.{bit_at-trailing_zeros, bit_at_above, bit_at-zero}
use Rattle.bit_rows.specs.BitRows.{has}
use Rattle.bit_rows.proofs.Rows.{has_at}
use Rattle.bit_rows.proofs.WordBits.{is_set-zero}

-- ---- one word

-- the bits of a word that was shifted down
shifted : (word b i : ℕ) → bit_at (word / 2 ^ b) i ≡ bit_at word (b + i)
shifted word b i = ap (λ (x : ℕ). x % 2) (shr-shr word b i)

pub shifted_small : (word b : ℕ) → word < 2 ^ 64 → word / 2 ^ b < 2 ^ 64
shifted_small word b l = omega (arith, div-le_self word (2 ^ b), l)

-- the lowest bit from the b-th on
pub low_from : (row : List ℕ) (place b : ℕ) → get_or row place 0 < 2 ^ 64 → 0 < get_or row place 0 / 2 ^ b → get_or row place 0 / 2 ^ b < 2 ^ 64
    → (b + trailing_zeros w64 (get_or row place 0 / 2 ^ b) < 64) × (has row (64 * place + (b + trailing_zeros w64 (get_or row place 0 / 2 ^ b))) ≡ true)
    × ((i : ℕ) → i < trailing_zeros w64 (get_or row place 0 / 2 ^ b) → has row (64 * place + (b + i)) ≡ false)
low_from row place b small some within =
    let word = get_or row place 0 in
    let low = bit_at-trailing_zeros w64 (word / 2 ^ b) some within in
    let one : bit_at word (b + trailing_zeros w64 (word / 2 ^ b)) ≡ 1 = sym (shifted word b (trailing_zeros w64 (word / 2 ^ b))) ∙ low.1 in
    let inside = below (b + trailing_zeros w64 (word / 2 ^ b)) word small one in (
      inside,
      has_at row place (b + trailing_zeros w64 (word / 2 ^ b)) inside ∙ rw one refl,
      λ i l. has_at row place (b + i) (omega (arith, inside)) ∙ rw (sym (shifted word b i) ∙ low.2 i l) refl,
    )
  where
    below : (k word : ℕ) → word < 2 ^ 64 → bit_at word k ≡ 1 → k < 64
    below k word l e = by (cases_lt k 64)
      where
        by : (k < 64) ⊎ (64 ≤ k) → k < 64
        by (inl h) = h
        by (inr h) = absurd (omega (arith, e, bit_at_above word 64 k l h))

-- no bit from the b-th on
pub none_from : (row : List ℕ) (place b : ℕ) → get_or row place 0 / 2 ^ b ≡ 0 → (i : ℕ) → b ≤ i → i < 64 → has row (64 * place + i) ≡ false
none_from row place b none i le l =
    let word = get_or row place 0 in
    let e : b + (i - b) ≡ i = omega arith in
    let bit : bit_at word i ≡ 0 = ap (bit_at word) (sym e) ∙ sym (shifted word b (i - b)) ∙ ap (λ (x : ℕ). bit_at x (i - b)) none ∙ bit_at-zero (i - b) in
    has_at row place i l ∙ rw bit refl

pub none_in_word : (row : List ℕ) (place i : ℕ) → get_or row place 0 ≡ 0 → i < 64 → has row (64 * place + i) ≡ false
none_in_word row place i none l = has_at row place i l ∙ rw none (is_set-zero i)

-- ---- from a value on

-- a number by its word and its bit
parts : (v : ℕ) → 64 * (v / 64) + v % 64 ≡ v
parts v = omega arith

-- no member between a value and the lowest bit of its own word
pub none_to_own : (row : List ℕ) (from : ℕ) → get_or row (from / 64) 0 < 2 ^ 64 → 0 < get_or row (from / 64) 0 / 2 ^ (from % 64) → get_or row (from / 64) 0 / 2 ^ (from % 64) < 2 ^ 64
    → (v : ℕ) → from ≤ v → v < from + trailing_zeros w64 (get_or row (from / 64) 0 / 2 ^ (from % 64)) → has row v ≡ false
none_to_own row from small some within v le l =
    let low = low_from row (from / 64) (from % 64) small some within in
    let e : 64 * (from / 64) + (from % 64 + (v - from)) ≡ v = omega arith in
    subst (λ (x : ℕ). has row x ≡ false) e (low.2 (v - from) (omega arith))

pub own_member : (row : List ℕ) (from : ℕ) → get_or row (from / 64) 0 < 2 ^ 64 → 0 < get_or row (from / 64) 0 / 2 ^ (from % 64) → get_or row (from / 64) 0 / 2 ^ (from % 64) < 2 ^ 64
    → has row (from + trailing_zeros w64 (get_or row (from / 64) 0 / 2 ^ (from % 64))) ≡ true
own_member row from small some within =
    let k = trailing_zeros w64 (get_or row (from / 64) 0 / 2 ^ (from % 64)) in
    let low = low_from row (from / 64) (from % 64) small some within in
    let e : 64 * (from / 64) + (from % 64 + k) ≡ from + k = omega arith in
    subst (λ (x : ℕ). has row x ≡ true) e low.1

-- none before a later word, where all words between are 0
pub none_before_word : (row : List ℕ) (from next : ℕ) → get_or row (from / 64) 0 / 2 ^ (from % 64) ≡ 0 → ((k : ℕ) → from / 64 + 1 ≤ k → k < next → get_or row k 0 ≡ 0)
    → (v : ℕ) → from ≤ v → v < 64 * next → has row v ≡ false
none_before_word row from next own zeros v le l = subst (λ (x : ℕ). has row x ≡ false) (parts v) (by (cases_lt (from / 64) (v / 64)))
  where
    by : (from / 64 < v / 64) ⊎ (v / 64 ≤ from / 64) → has row (64 * (v / 64) + v % 64) ≡ false
    by (inl later) = none_in_word row (v / 64) (v % 64) (zeros (v / 64) (omega (arith, later)) (omega arith)) (omega arith)
    by (inr same) =
        let e : v / 64 ≡ from / 64 = omega arith in
        let in_word : from % 64 ≤ v % 64 = omega arith in
        subst (λ (x : ℕ). has row (64 * x + v % 64) ≡ false) (sym e) (none_from row (from / 64) (from % 64) own (v % 64) in_word (omega arith))

-- nor before the lowest bit of that word
pub none_to_word : (row : List ℕ) (from next : ℕ) → get_or row (from / 64) 0 / 2 ^ (from % 64) ≡ 0 → ((k : ℕ) → from / 64 + 1 ≤ k → k < next → get_or row k 0 ≡ 0)
    → 0 < get_or row next 0 → get_or row next 0 < 2 ^ 64 → (v : ℕ) → from ≤ v → v < 64 * next + trailing_zeros w64 (get_or row next 0) → has row v ≡ false
none_to_word row from next own zeros some small v le l = by (cases_lt v (64 * next))
  where
    by : (v < 64 * next) ⊎ (64 * next ≤ v) → has row v ≡ false
    by (inl early) = none_before_word row from next own zeros v le early
    by (inr late) =
        let low = bit_at-trailing_zeros w64 (get_or row next 0) some small in
        let e : 64 * next + (v - 64 * next) ≡ v = omega arith in
        subst (λ (x : ℕ). has row x ≡ false) e (has_at row next (v - 64 * next) (omega (arith, low.0)) ∙ rw (low.2 (v - 64 * next) (omega arith)) refl)

pub word_member : (row : List ℕ) (next : ℕ) → 0 < get_or row next 0 → get_or row next 0 < 2 ^ 64 → has row (64 * next + trailing_zeros w64 (get_or row next 0)) ≡ true
word_member row next some small =
    let low = bit_at-trailing_zeros w64 (get_or row next 0) some small in
    has_at row next (trailing_zeros w64 (get_or row next 0)) low.0 ∙ rw low.1 refl
