-- The walk over the members of one word of a row, which clears the lowest bit of what is left of the word at each step.
use Rattle.std.proofs.Common.{◌≡◌, ℕ, ◌+◌, ◌-◌, ◌*◌, ◌^◌, ◌<◌, ◌≤◌, max, true, false, List, get_or, refl, sym, ap, subst, ◌∙◌, arith, bit_and, w64, inl, inr, ◌⊎◌}
use Rattle.std.specs.Int.{bit_at, trailing_zeros}
use lib.Count.{trailing_of_zero}
use Rattle.std.proofs.lemmas.Nat.Bits.{bit_at-trailing_zeros, bit_at-zero}
use Rattle.std.proofs.lemmas.Bool.{cases_lt}
use Rattle.bit_rows.specs.BitRows.{has}
use Rattle.bit_rows.proofs.Rows.{has_at}
use Rattle.biased_choice.specs.Bias.{total, greatest}
use Rattle.biased_choice.proofs.Members.{total_skip, total_next, greatest_skip, greatest_next}
use Rattle.biased_choice.proofs.LowestBit.{above_lowest, fewer, next_higher}

-- the next member that the walk comes to, or the first value behind the word
abbrev pub next : ℕ → ℕ → ℕ
next place left = 64 * place + trailing_zeros w64 left

-- what is left of the word holds its members from the next one on
pub record Walks (row : List ℕ) (place left : ℕ) : Type 0 where
  pub same : (b : ℕ) → trailing_zeros w64 left ≤ b → bit_at left b ≡ bit_at (get_or row place 0) b

-- what is left has no member before the next one
lower : (left b : ℕ) → left < 2 ^ 64 → b < trailing_zeros w64 left → bit_at left b ≡ 0
lower left b small l = by (cases_lt 0 left)
  where
    by : (0 < left) ⊎ (left ≤ 0) → bit_at left b ≡ 0
    by (inl some) = (bit_at-trailing_zeros w64 left some small).2 b l
    by (inr none) = let e : left ≡ 0 = omega arith in ap (λ x. bit_at x b) e ∙ bit_at-zero b

-- no place of a bit is behind the word
upto_word : (left : ℕ) → left < 2 ^ 64 → trailing_zeros w64 left ≤ 64
upto_word left small = by (cases_lt 0 left)
  where
    by : (0 < left) ⊎ (left ≤ 0) → trailing_zeros w64 left ≤ 64
    by (inl some) = omega (arith, (bit_at-trailing_zeros w64 left some small).0)
    by (inr none) = let e : left ≡ 0 = omega arith in omega (arith, ap (trailing_zeros w64) e, trailing_of_zero 64)

-- at the end the walk is behind the word
pub at_end : (place left : ℕ) → left ≡ 0 → next place left ≡ 64 * (place + 1)
at_end place left none = omega (arith, ap (trailing_zeros w64) none, trailing_of_zero 64)

-- the walk does not leave the word
pub inside : (place left : ℕ) → 0 < left → left < 2 ^ 64 → next place left < 64 * (place + 1)
inside place left some small = omega (arith, (bit_at-trailing_zeros w64 left some small).0)

-- ---- the beginning

pub begins : (row : List ℕ) (place : ℕ) → Walks row place (get_or row place 0)
begins row place = record { same = λ b l. refl }

pub none_before : (row : List ℕ) (place : ℕ) → get_or row place 0 < 2 ^ 64 → (v : ℕ) → 64 * place ≤ v → v < next place (get_or row place 0) → has row v ≡ false
none_before row place small v le l =
    let b : v - 64 * place < 64 = omega (arith, upto_word (get_or row place 0) small) in
    let e : 64 * place + (v - 64 * place) ≡ v = omega arith in
    subst (λ (x : ℕ). has row x ≡ false) e (has_at row place (v - 64 * place) b ∙ rw (lower (get_or row place 0) (v - 64 * place) small (omega arith)) refl)

-- ---- a step

pub is_member : (row : List ℕ) (place left : ℕ) → Walks row place left → 0 < left → left < 2 ^ 64 → has row (next place left) ≡ true
is_member row place left w some small =
    let low = bit_at-trailing_zeros w64 left some small in
    has_at row place (trailing_zeros w64 left) low.0 ∙ rw (sym (w.same (trailing_zeros w64 left) (omega arith)) ∙ low.1) refl

pub higher : (place left : ℕ) → 0 < left → left < 2 ^ 64 → next place left + 1 ≤ next place (bit_and left (left - 1))
higher place left some small = omega (arith, next_higher left some small)

pub goes_on : (row : List ℕ) (place left : ℕ) → Walks row place left → 0 < left → left < 2 ^ 64 → Walks row place (bit_and left (left - 1))
goes_on row place left w some small = record {
  same = λ b l. above_lowest left b some small (omega (arith, next_higher left some small)) ∙ w.same b (omega (arith, next_higher left some small));
}

pub none_between : (row : List ℕ) (place left : ℕ) → Walks row place left → 0 < left → left < 2 ^ 64
    → (v : ℕ) → next place left + 1 ≤ v → v < next place (bit_and left (left - 1)) → has row v ≡ false
none_between row place left w some small v le l =
    let rest = bit_and left (left - 1) in
    let fits : rest < 2 ^ 64 = omega (arith, fewer left some) in
    let b : v - 64 * place < 64 = omega (arith, upto_word rest fits) in
    let e : 64 * place + (v - 64 * place) ≡ v = omega arith in
    let off : bit_at (get_or row place 0) (v - 64 * place) ≡ 0 =
    sym (w.same (v - 64 * place) (omega arith)) ∙ sym (above_lowest left (v - 64 * place) some small (omega arith)) ∙ lower rest (v - 64 * place) fits (omega arith) in
    subst (λ (x : ℕ). has row x ≡ false) e (has_at row place (v - 64 * place) b ∙ rw off refl)

-- ---- what is summed up on the way

pub total_begun : (row : List ℕ) (w : ℕ → ℕ) (place : ℕ) → get_or row place 0 < 2 ^ 64
    → total (has row) w (next place (get_or row place 0)) ≡ total (has row) w (64 * place)
total_begun row w place small = total_skip (has row) w (64 * place) (next place (get_or row place 0)) (omega arith) (none_before row place small)

pub total_step : (row : List ℕ) (w : ℕ → ℕ) (place left : ℕ) → Walks row place left → 0 < left → left < 2 ^ 64
    → total (has row) w (next place (bit_and left (left - 1))) ≡ total (has row) w (next place left) + w (next place left)
total_step row w place left walks some small =
    total_next (has row) w (next place left) (next place (bit_and left (left - 1))) (is_member row place left walks some small) (higher place left some small)
    (none_between row place left walks some small)

pub greatest_begun : (row : List ℕ) (degree : ℕ → ℕ) (place : ℕ) → get_or row place 0 < 2 ^ 64
    → greatest (has row) degree (next place (get_or row place 0)) ≡ greatest (has row) degree (64 * place)
greatest_begun row degree place small = greatest_skip (has row) degree (64 * place) (next place (get_or row place 0)) (omega arith) (none_before row place small)

pub greatest_step : (row : List ℕ) (degree : ℕ → ℕ) (place left : ℕ) → Walks row place left → 0 < left → left < 2 ^ 64
    → greatest (has row) degree (next place (bit_and left (left - 1))) ≡ max (greatest (has row) degree (next place left)) (degree (next place left))
greatest_step row degree place left walks some small =
    greatest_next (has row) degree (next place left) (next place (bit_and left (left - 1))) (is_member row place left walks some small) (higher place left some small)
    (none_between row place left walks some small)
