-- What two rows share, counted word by word.

use Rattle.std.proofs.Common.{◌≡◌, ℕ, ◌+◌, ◌*◌, ◌-◌, ◌/◌, ◌%◌, ◌^◌, ◌<◌, ◌≤◌, Bool, true, false, ◌&&◌, List, get_or, refl, sym, ap, ◌∙◌, arith, bit_and}
use Rattle.std.proofs.lemmas.Bool.{lt-ltb, le-ltb}
use Rattle.std.proofs.lemmas.Nat.{and_le_l}
use lib.Count.{ones}
use Rattle.bit_rows.specs.BitRows.{is_set, has}
use Rattle.bit_rows.proofs.WordBits.{is_set_and, is_set_ones, count_word, count-is_set, one_shifted}
use Rattle.bit_rows.proofs.Rows.{has_at}
use Rattle.bit_rows.proofs.Passing.{count_same, count_add, count_past, count_within}
use Rattle.graph_theory.specs.Neighbours.{count}

-- a value that both rows hold
abbrev pub in_both : List ℕ → List ℕ → ℕ → Bool
in_both xs ys v = has xs v && has ys v

-- the bits of two words' common part
pub both_at : (xs ys : List ℕ) (i b : ℕ) → b < 64 → is_set (bit_and (get_or xs i 0) (get_or ys i 0)) b ≡ in_both xs ys (64 * i + b)
both_at xs ys i b l = rw (has_at xs i b l, has_at ys i b l) (is_set_and (get_or xs i 0) (get_or ys i 0) b)

-- one word more
pub shared_next : (xs ys : List ℕ) (i : ℕ) → get_or xs i 0 < 2 ^ 64
    → count (in_both xs ys) (64 * (i + 1)) ≡ count (in_both xs ys) (64 * i) + ones (bit_and (get_or xs i 0) (get_or ys i 0))
shared_next xs ys i small =
    let e : 64 * (i + 1) ≡ 64 * i + 64 = omega arith in
    let word : bit_and (get_or xs i 0) (get_or ys i 0) < 2 ^ 64 = omega (arith, and_le_l (get_or xs i 0) (get_or ys i 0)) in
    ap (count (in_both xs ys)) e ∙ count_word (in_both xs ys) i (bit_and (get_or xs i 0) (get_or ys i 0)) word (λ b l. both_at xs ys i b l)

pub shared_within : (xs ys : List ℕ) (n : ℕ) → count (in_both xs ys) n ≤ n
shared_within xs ys n = count_within (in_both xs ys) n

-- the first bits of a word, as many as the test passes
pub ones_first : (word rest : ℕ) (f : ℕ → Bool) → word < 2 ^ 64 → rest < 64 → ((b : ℕ) → b < rest → is_set word b ≡ f b)
    → ones (bit_and word (2 ^ rest - 1)) ≡ count f rest
ones_first word rest f small l same =
    let m : ℕ = bit_and word (2 ^ rest - 1) in
    let m_small : m < 2 ^ 64 = omega (arith, and_le_l word (2 ^ rest - 1)) in
    let e : rest + (64 - rest) ≡ 64 = omega arith in
    sym (count-is_set 64 m m_small)
    ∙ ap (count (is_set m)) (sym e)
    ∙ count_past (is_set m) rest (64 - rest) (λ i above. is_set_and word (2 ^ rest - 1) i ∙ rw (is_set_ones rest i, le-ltb i rest above) (and_false (is_set word i)))
    ∙ count_same (is_set m) f rest (λ b below. is_set_and word (2 ^ rest - 1) b ∙ rw (is_set_ones rest b, lt-ltb b rest below) (and_true (is_set word b)) ∙ same b below)
  where
    and_false : (b : Bool) → (b && false) ≡ false
    and_false true = refl
    and_false false = refl

    and_true : (b : Bool) → (b && true) ≡ b
    and_true true = refl
    and_true false = refl

-- what stands in the last word that is not whole
pub shared_last : (xs ys : List ℕ) (n : ℕ) → get_or xs (n / 64) 0 < 2 ^ 64
    → count (in_both xs ys) n ≡ count (in_both xs ys) (64 * (n / 64)) + ones (bit_and (bit_and (get_or xs (n / 64) 0) (get_or ys (n / 64) 0)) (2 ^ (n % 64) - 1))
shared_last xs ys n small =
    let e : n ≡ 64 * (n / 64) + n % 64 = omega arith in
    let word : bit_and (get_or xs (n / 64) 0) (get_or ys (n / 64) 0) < 2 ^ 64 = omega (arith, and_le_l (get_or xs (n / 64) 0) (get_or ys (n / 64) 0)) in
    ap (count (in_both xs ys)) e ∙ count_add (in_both xs ys) (64 * (n / 64)) (n % 64)
    ∙ ap (λ k. count (in_both xs ys) (64 * (n / 64)) + k)
    (sym (ones_first (bit_and (get_or xs (n / 64) 0) (get_or ys (n / 64) 0)) (n % 64) (λ b. in_both xs ys (64 * (n / 64) + b)) word (omega arith)
    (λ b below. both_at xs ys (n / 64) b (omega arith))))

-- the whole words and the last one
pub shared_whole : (xs ys : List ℕ) (n total : ℕ) → get_or xs (n / 64) 0 < 2 ^ 64 → total ≡ count (in_both xs ys) (64 * (n / 64))
    → total + ones (bit_and (bit_and (get_or xs (n / 64) 0) (get_or ys (n / 64) 0)) (1 * 2 ^ (n % 64) % 2 ^ 64 - 1)) ≡ count (in_both xs ys) n
shared_whole xs ys n total small first =
    let less : n % 64 < 64 = omega arith in
    rw (one_shifted (n % 64) less) (omega (arith, first, shared_last xs ys n small))
