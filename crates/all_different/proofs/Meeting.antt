-- Values that rows have in common.
use Rattle.std.proofs.Common.{◌≡◌, ℕ, zero, suc, ◌+◌, ◌*◌, ◌/◌, ◌%◌, ◌^◌, ◌<◌, ◌≤◌, true, List, get_or, refl, sym, ap, ◌∙◌, arith, inl, inr, ◌⊎◌, bit_and, w64}
use Rattle.std.specs.Int.{trailing_zeros}
use Rattle.std.proofs.lemmas.Bool.{cases_lt, and_parts, false≢true}
use Rattle.std.proofs.lemmas.Nat.{and_le_l}
use Rattle.bit_rows.specs.BitRows.{is_set, has}
use Rattle.bit_rows.proofs.Rows.{has_at}
use Rattle.bit_rows.proofs.WordBits.{is_set_and, is_set-zero, low_bit, low_is_set}
use Rattle.all_different.specs.Steps.{Shares}

pub shared_word : (row other : List ℕ) (place : ℕ) → get_or row place 0 < 2 ^ 64 → (bit_and (get_or row place 0) (get_or other place 0) ≡ 0 → ⊥) → Shares row other
shared_word row other place small some =
    let word = bit_and (get_or row place 0) (get_or other place 0) in
    let more : 0 < word = omega (arith, some) in
    let fits : word < 2 ^ 64 = omega (arith, and_le_l (get_or row place 0) (get_or other place 0)) in
    let b = trailing_zeros w64 word in
    let parts = and_parts (is_set (get_or row place 0) b) (is_set (get_or other place 0) b) (sym (is_set_and (get_or row place 0) (get_or other place 0) b) ∙ low_is_set word more fits) in
    record {
      value = 64 * place + b;
      here = has_at row place b (low_bit word more fits) ∙ parts.0;
      there = has_at other place b (low_bit word more fits) ∙ parts.1;
    }

pub no_shared_word : (row other : List ℕ) (place : ℕ) → bit_and (get_or row place 0) (get_or other place 0) ≡ 0
    → ((t : ℕ) → t < 64 * place → has row t ≡ true → has other t ≡ true → ⊥) → (t : ℕ) → t < 64 * (place + 1) → has row t ≡ true → has other t ≡ true → ⊥
no_shared_word row other place none before t l a b = by (cases_lt t (64 * place))
  where
    by : (t < 64 * place) ⊎ (64 * place ≤ t) → ⊥
    by (inl h) = before t h a b
    by (inr h) =
        let e : t / 64 ≡ place = omega arith in
        let both : is_set (bit_and (get_or row (t / 64) 0) (get_or other (t / 64) 0)) (t % 64) ≡ true = is_set_and (get_or row (t / 64) 0) (get_or other (t / 64) 0) (t % 64) ∙ rw (a, b) refl in
        let zero-word : bit_and (get_or row (t / 64) 0) (get_or other (t / 64) 0) ≡ 0 = rw e none in
        false≢true (sym (ap (λ w. is_set w (t % 64)) zero-word ∙ is_set-zero (t % 64)) ∙ both)

-- so many words more
pub no_shared_words : (row other : List ℕ) (place more : ℕ) → ((k : ℕ) → place ≤ k → k < place + more → bit_and (get_or row k 0) (get_or other k 0) ≡ 0)
    → ((t : ℕ) → t < 64 * place → has row t ≡ true → has other t ≡ true → ⊥) → (t : ℕ) → t < 64 * (place + more) → has row t ≡ true → has other t ≡ true → ⊥
no_shared_words row other place zero none before t l a b = before t (omega arith) a b
no_shared_words row other place (suc more) none before t l a b =
    no_shared_word row other (place + more) (none (place + more) (omega arith) (omega arith))
    (no_shared_words row other place more (λ k low high. none k low (omega arith)) before) t (omega arith) a b
