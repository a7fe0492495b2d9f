-- A number without its lowest bit, as `n & (n - 1)`.
use Rattle.std.proofs.Common.{◌≡◌, ℕ, ◌+◌, ◌-◌, ◌/◌, ◌%◌, ◌^◌, ◌<◌, ◌≤◌, zero, suc, sym, ap, ◌∙◌, arith, bit_and, w64, inl, inr, ◌⊎◌}
use Rattle.std.specs.Int.{bit_at, trailing_zeros}
use lib.Count.{trailing_of_zero}
use Rattle.std.proofs.lemmas.Bool.{cases_lt}
use Rattle.std.proofs.lemmas.Nat.{and_le_r}
use Rattle.std.proofs.lemmas.Nat.Bits.{bit_at_and, bit_at_lowest, bit_at-suc, bit_at-trailing_zeros}

-- taking 1 away turns the lowest bit over
turned : (t n : ℕ) → bit_at n t ≡ 1 → ((i : ℕ) → i < t → bit_at n i ≡ 0) → bit_at (n - 1) t ≡ 0
turned zero n here none = let e : n % 2 ≡ 1 = sym (bit_at_lowest n) ∙ here in bit_at_lowest (n - 1) ∙ omega arith
turned (suc t) n here none =
    let even : n % 2 ≡ 0 = sym (bit_at_lowest n) ∙ none 0 (omega arith) in
    let half : (n - 1) / 2 ≡ n / 2 - 1 = omega arith in
    bit_at-suc (n - 1) t ∙ ap (λ x. bit_at x t) half
    ∙ turned t (n / 2) (sym (bit_at-suc n t) ∙ here) (λ i l. sym (bit_at-suc n i) ∙ none (suc i) (omega arith))

-- and leaves those above as they are
kept : (t n j : ℕ) → bit_at n t ≡ 1 → ((i : ℕ) → i < t → bit_at n i ≡ 0) → t < j → bit_at (n - 1) j ≡ bit_at n j
kept t n zero here none l = absurd (omega arith)
kept zero n (suc j) here none l =
    let odd : n % 2 ≡ 1 = sym (bit_at_lowest n) ∙ here in
    let half : (n - 1) / 2 ≡ n / 2 = omega arith in
    bit_at-suc (n - 1) j ∙ ap (λ x. bit_at x j) half ∙ sym (bit_at-suc n j)
kept (suc t) n (suc j) here none l =
    let even : n % 2 ≡ 0 = sym (bit_at_lowest n) ∙ none 0 (omega arith) in
    let half : (n - 1) / 2 ≡ n / 2 - 1 = omega arith in
    bit_at-suc (n - 1) j ∙ ap (λ x. bit_at x j) half
    ∙ kept t (n / 2) j (sym (bit_at-suc n t) ∙ here) (λ i m. sym (bit_at-suc n i) ∙ none (suc i) (omega arith)) (omega arith)
    ∙ sym (bit_at-suc n j)

-- the bits above the lowest one stay
pub above_lowest : (n j : ℕ) → 0 < n → n < 2 ^ 64 → trailing_zeros w64 n < j → bit_at (bit_and n (n - 1)) j ≡ bit_at n j
above_lowest n j some small l =
    let low = bit_at-trailing_zeros w64 n some small in
    omega (arith, bit_at_and n (n - 1) j, kept (trailing_zeros w64 n) n j low.1 low.2 l)

-- up to the lowest one none is left
pub upto_lowest : (n j : ℕ) → 0 < n → n < 2 ^ 64 → j ≤ trailing_zeros w64 n → bit_at (bit_and n (n - 1)) j ≡ 0
upto_lowest n j some small le = by (cases_lt j (trailing_zeros w64 n))
  where
    low : (trailing_zeros w64 n < 64) × (bit_at n (trailing_zeros w64 n) ≡ 1) × ((i : ℕ) → i < trailing_zeros w64 n → bit_at n i ≡ 0)
    low = bit_at-trailing_zeros w64 n some small

    by : (j < trailing_zeros w64 n) ⊎ (trailing_zeros w64 n ≤ j) → bit_at (bit_and n (n - 1)) j ≡ 0
    by (inl l) = omega (arith, bit_at_and n (n - 1) j, low.2 j l)
    by (inr m) =
        let e : j ≡ trailing_zeros w64 n = omega arith in
        omega (arith, bit_at_and n (n - 1) j, ap (bit_at (n - 1)) e, turned (trailing_zeros w64 n) n low.1 low.2)

pub fewer : (n : ℕ) → 0 < n → bit_and n (n - 1) < n
fewer n some = omega (arith, and_le_r n (n - 1))

-- so the lowest one of what is left stands higher
pub next_higher : (n : ℕ) → 0 < n → n < 2 ^ 64 → trailing_zeros w64 n + 1 ≤ trailing_zeros w64 (bit_and n (n - 1))
next_higher n some small = by (cases_lt (trailing_zeros w64 n) (trailing_zeros w64 rest)) (cases_lt 0 rest)
  where
    rest : ℕ
    rest = bit_and n (n - 1)

    by : (trailing_zeros w64 n < trailing_zeros w64 rest) ⊎ (trailing_zeros w64 rest ≤ trailing_zeros w64 n) → (0 < rest) ⊎ (rest ≤ 0) → trailing_zeros w64 n + 1 ≤ trailing_zeros w64 rest
    by (inl l) r = omega arith
    by (inr le) (inl more) =
        let low = bit_at-trailing_zeros w64 rest more (omega (arith, fewer n some)) in
        absurd (omega (arith, low.1, upto_lowest n (trailing_zeros w64 rest) some small le))
    by (inr le) (inr none) =
        let e : rest ≡ 0 = omega arith in
        omega (arith, ap (trailing_zeros w64) e, trailing_of_zero 64, (bit_at-trailing_zeros w64 n some small).0)
