-- Marks in rows of words: what a write to one word, or to all words of a row, leaves.

use Rattle.std.proofs.Common.{◌≡◌, ℕ, ◌+◌, ◌*◌, ◌/◌, ◌%◌, ◌^◌, ◌<◌, ◌≤◌, ◌==◌, false, not, ◌&&◌, ◌||◌, List, length, get_or, refl, sym, ◌∙◌, ◌⊎◌, inl, inr, arith, bit_or}
use Rattle.std.proofs.Math.ListN.{set}
use Rattle.std.proofs.Math.Nat.{mul_left_comm}
use native.Mathlib.Nat.{mul-le-mul_right}
use Rattle.std.proofs.lemmas.Bool.{cases_lt, cases_eq, eq-eqb, ne_eqb}
use Rattle.bit_rows.specs.BitRows.{has}
use Rattle.graph_rows.specs.Held.{marked}
use Rattle.bit_rows.proofs.Writing.{has-set}
use Rattle.bit_rows.proofs.Rows.{has_same_at}
use Rattle.bit_rows.proofs.WordBits.{is_set-zero}
use Rattle.graph_rows.proofs.Places.{eqb-places}
use Rattle.fail_account.specs.Rows.{Clears, Refutes}

-- the word of a mark
pub place_of : (width i t : ℕ) → (i * (64 * width) + t) / 64 ≡ i * width + t / 64
place_of width i t = omega (arith, mul_left_comm i 64 width)

-- and its bit there
pub bit_of : (width i t : ℕ) → (i * (64 * width) + t) % 64 ≡ t % 64
bit_of width i t = omega (arith, mul_left_comm i 64 width)

-- a mark in a word of 0 is none
pub marked_zero : (words : List ℕ) (width i t : ℕ) → get_or words (i * width + t / 64) 0 ≡ 0 → marked words width i t ≡ false
marked_zero words width i t zero = rw (place_of width i t, zero) (is_set-zero ((i * (64 * width) + t) % 64))

-- words that agree there have equal marks
pub marked_same : (old new : List ℕ) (width i t : ℕ) → get_or new (i * width + t / 64) 0 ≡ get_or old (i * width + t / 64) 0 → marked new width i t ≡ marked old width i t
marked_same old new width i t same = has_same_at new old (i * (64 * width) + t) (i * (64 * width) + t) (rw (place_of width i t) same) refl

-- a row of a lesser level ends before
row_before : (i n width : ℕ) → i < n → i * width + width ≤ n * width
row_before i n width h = omega (arith, mul-le-mul_right {m = i + 1} {n = n} width (omega arith), next i width)
  where
    next : (i w : ℕ) → (i + 1) * w ≡ i * w + w
    next i w = grind arith

-- the mark that is written, beside the others
pub marked_set : (words : List ℕ) (width level value i t : ℕ) → value < 64 * width → t < 64 * width → level * width + value / 64 < length words
    → marked (set words (level * width + value / 64) (bit_or (get_or words (level * width + value / 64) 0) (1 * 2 ^ (value % 64) % 2 ^ 64))) width i t
    ≡ (marked words width i t || (i == level && t == value))
marked_set words width level value i t value_in t_in inside = by_places
  where
    written : has (set words ((level * (64 * width) + value) / 64) (bit_or (get_or words ((level * (64 * width) + value) / 64) 0) (1 * 2 ^ ((level * (64 * width) + value) % 64) % 2 ^ 64))) (i * (64 * width) + t)
        ≡ (has words (i * (64 * width) + t) || (level * (64 * width) + value) == (i * (64 * width) + t))
    written = has-set words (level * (64 * width) + value) (i * (64 * width) + t) (omega (arith, place_of width level value))

    swapped : (a b c d : ℕ) → (a == b && c == d) ≡ (b == a && d == c)
    swapped a b c d = by (cases_eq a b) (cases_eq c d)
      where
        by : (a ≡ b) ⊎ (a ≡ b → ⊥) → (c ≡ d) ⊎ (c ≡ d → ⊥) → (a == b && c == d) ≡ (b == a && d == c)
        by (inl e) (inl f) = rw (e, f) refl
        by (inl e) (inr nf) = rw (e, ne_eqb c d nf, ne_eqb d c (λ h. nf (sym h))) refl
        by (inr ne) _ = rw (ne_eqb a b ne, ne_eqb b a (λ h. ne (sym h))) refl

    by_places : marked (set words (level * width + value / 64) (bit_or (get_or words (level * width + value / 64) 0) (1 * 2 ^ (value % 64) % 2 ^ 64))) width i t
        ≡ (marked words width i t || (i == level && t == value))
    by_places =
        let place = place_of width level value in
        let bit = bit_of width level value in
        let at : has (set words (level * width + value / 64) (bit_or (get_or words (level * width + value / 64) 0) (1 * 2 ^ (value % 64) % 2 ^ 64))) (i * (64 * width) + t)
        ≡ (has words (i * (64 * width) + t) || (level * (64 * width) + value) == (i * (64 * width) + t)) =
        rw (← place, ← bit) written in
        at ∙ rw (eqb-places (64 * width) level value i t value_in t_in, swapped level i value t) refl

-- emptying the row after a level, and marking a value in its own
pub refutes_of : (old cleared : List ℕ) (width level value : ℕ) → value < 64 * width → (level + 2) * width ≤ length cleared → Clears old cleared ((level + 1) * width) ((level + 2) * width)
    → Refutes width old (set cleared (level * width + value / 64) (bit_or (get_or cleared (level * width + value / 64) 0) (1 * 2 ^ (value % 64) % 2 ^ 64))) level value
refutes_of old cleared width level value value_in inside clears = record { each = λ i t t_in. at i t t_in (cases_eq i (level + 1)) }
  where
    new : List ℕ
    new = set cleared (level * width + value / 64) (bit_or (get_or cleared (level * width + value / 64) 0) (1 * 2 ^ (value % 64) % 2 ^ 64))

    place_in : level * width + value / 64 < length cleared
    place_in = omega (arith, row_before level (level + 2) width (omega arith))

    at : (i t : ℕ) → t < 64 * width → (i ≡ level + 1) ⊎ (i ≡ level + 1 → ⊥)
        → marked new width i t ≡ (not (i == level + 1) && (marked old width i t || (i == level && t == value)))
    at i t t_in (inl e) =
        let low : (level + 1) * width ≤ i * width + t / 64 = rw e (omega arith) in
        let high : i * width + t / 64 < (level + 2) * width = rw e (omega (arith, row_before (level + 1) (level + 2) width (omega arith))) in
        let off : marked cleared width i t ≡ false = marked_zero cleared width i t (clears.inside (i * width + t / 64) low high) in
        marked_set cleared width level value i t value_in t_in place_in
        ∙ rw (off, eq-eqb i (level + 1) e, ne_eqb i level (λ h. omega arith)) refl
    at i t t_in (inr ne) =
        let same : marked cleared width i t ≡ marked old width i t = marked_same old cleared width i t (clears.outside (i * width + t / 64) (apart (cases_lt i (level + 1)))) in
        marked_set cleared width level value i t value_in t_in place_in
        ∙ rw (same, ne_eqb i (level + 1) ne) refl
      where
        apart : (i < level + 1) ⊎ (level + 1 ≤ i) → (i * width + t / 64 < (level + 1) * width) ⊎ ((level + 2) * width ≤ i * width + t / 64)
        apart (inl h) = inl (omega (arith, row_before i (level + 1) width h))
        apart (inr h) = inr (omega (arith, row_before (level + 1) i width (omega (arith, ne)), next level width))
          where
            next : (l w : ℕ) → (l + 2) * w ≡ (l + 1) * w + w
            next l w = grind arith
