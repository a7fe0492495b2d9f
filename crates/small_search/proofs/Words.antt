-- Words as sets: a bit more, and the walk over the bits.

use Rattle.std.proofs.Common.{◌≡◌, ℕ, ◌+◌, ◌*◌, ◌%◌, ◌^◌, ◌<◌, Bool, true, false, ◌&&◌, ◌||◌, not, eqb, List, get_or, refl, sym, ap, ◌∙◌, subst, arith, inl, inr, ◌⊎◌, bit_and, bit_or, w64}
use Rattle.std.specs.Int.{trailing_zeros, bit_not}
use Rattle.std.specs.Int.RustNames.{bit_xor}
use Rattle.std.proofs.lemmas.Bool.{cases_eq}
use Rattle.bit_rows.specs.BitRows.{is_set, has}
use Rattle.bit_rows.proofs.WordBits.{is_set_and, is_set_or, is_set_and_not, is_set_pow, is_set-zero, low_bit, one_shifted, xor_other}
use Rattle.bit_rows.proofs.Rows.{has_at}

-- a set with one number more
pub with_bit : (word k b : ℕ) → k < 64 → is_set (bit_or word (1 * 2 ^ k % 2 ^ 64)) b ≡ (is_set word b || eqb b k)
with_bit word k b l = rw (one_shifted k l) (is_set_or word (2 ^ k) b ∙ ap (λ (t : Bool). is_set word b || t) (is_set_pow k b))

-- where all but what is left is done, and the lowest that is left is done too, all but what is left then is done
pub done_more : (P : ℕ → Type 0) (word rest : ℕ) → 0 < rest → rest < 2 ^ 64 → ((b : ℕ) → is_set word b ≡ true → is_set rest b ≡ false → P b)
    → P (trailing_zeros w64 rest)
    → (b : ℕ) → is_set word b ≡ true → is_set (bit_xor rest (1 * 2 ^ trailing_zeros w64 rest % 2 ^ 64)) b ≡ false → P b
done_more P word rest some small before here b = rw (one_shifted (trailing_zeros w64 rest) (low_bit rest some small)) (by (cases_eq b (trailing_zeros w64 rest)))
  where
    by : (b ≡ trailing_zeros w64 rest) ⊎ (b ≡ trailing_zeros w64 rest → ⊥) → is_set word b ≡ true
        → is_set (bit_xor rest (2 ^ trailing_zeros w64 rest)) b ≡ false → P b
    by (inl e) in_word gone = subst P (sym e) here
    by (inr ne) in_word gone = before b in_word (sym (xor_other rest (trailing_zeros w64 rest) b ne) ∙ gone)

both_of : (a b : Bool) → (a && b) ≡ true → (a ≡ true) × (b ≡ true)
both_of true true h = (refl, refl)
both_of true false h = cc
both_of false b h = cc

to_both : (a b : Bool) → a ≡ true → b ≡ true → (a && b) ≡ true
to_both true true x y = refl
to_both true false x y = cc
to_both false b x y = cc

-- what is in both sets is in each, and the other way round
pub in_first : (a b i : ℕ) → is_set (bit_and a b) i ≡ true → is_set a i ≡ true
in_first a b i h = (both_of (is_set a i) (is_set b i) (sym (is_set_and a b i) ∙ h)).0

pub in_second : (a b i : ℕ) → is_set (bit_and a b) i ≡ true → is_set b i ≡ true
in_second a b i h = (both_of (is_set a i) (is_set b i) (sym (is_set_and a b i) ∙ h)).1

pub in_both : (a b i : ℕ) → is_set a i ≡ true → is_set b i ≡ true → is_set (bit_and a b) i ≡ true
in_both a b i x y = is_set_and a b i ∙ to_both (is_set a i) (is_set b i) x y

false_of : (a b : Bool) → (a && b) ≡ false → a ≡ true → b ≡ false
false_of true b h x = h
false_of false b h x = cc

-- what is in the first but not in both is not in the second
pub not_in_second : (a b i : ℕ) → is_set (bit_and a b) i ≡ false → is_set a i ≡ true → is_set b i ≡ false
not_in_second a b i h x = false_of (is_set a i) (is_set b i) (sym (is_set_and a b i) ∙ h) x

-- a number of a row of one word
pub in_one_word : (row : List ℕ) (v : ℕ) → v < 64 → has row v ≡ is_set (get_or row 0 0) v
in_one_word row v l = ap (has row) (let e : v ≡ 64 * 0 + v = omega arith in e) ∙ has_at row 0 v l

-- what is in the first but not in the second
and_not : (a b : Bool) → (a && not b) ≡ true → (a ≡ true) × (b ≡ false)
and_not true false h = (refl, refl)
and_not true true h = cc
and_not false b h = cc

pub in_first_alone : (a b i : ℕ) → b < 2 ^ 64 → i < 64 → is_set (bit_and a (bit_not w64 b)) i ≡ true → (is_set a i ≡ true) × (is_set b i ≡ false)
in_first_alone a b i small l h = and_not (is_set a i) (is_set b i) (sym (is_set_and_not a b i small l) ∙ h)

-- where nothing of the first is out of the second, each of the first is in it
all_of : (a b : Bool) → (a && not b) ≡ false → a ≡ true → b ≡ true
all_of true true h x = refl
all_of true false h x = cc
all_of false b h x = cc

pub none_alone : (a b i : ℕ) → b < 2 ^ 64 → i < 64 → bit_and a (bit_not w64 b) ≡ 0 → is_set a i ≡ true → is_set b i ≡ true
none_alone a b i small l none x =
    all_of (is_set a i) (is_set b i) (sym (is_set_and_not a b i small l) ∙ ap (λ (w : ℕ). is_set w i) none ∙ is_set-zero i) x
