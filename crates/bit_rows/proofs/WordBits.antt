-- The bits of words, as sets.
use Rattle.std.proofs.Common.{◌≡◌, ℕ, ◌+◌, ◌*◌, ◌-◌, ◌/◌, ◌%◌, ◌^◌, ◌<◌, ◌≤◌, zero, suc, Bool, true, false, cond, eqb, ltb, ◌&&◌, ◌||◌, not, [], ◌∷◌, ◌++◌, length, map, min, max, refl, sym, ap, subst, ◌∙◌, arith, inl, inr, ◌⊎◌, bit_and, bit_or, w64, add_comm, add-one}
use Rattle.std.specs.Int.{bit_at, bit_not, trailing_zeros}
use Rattle.std.specs.Int.RustNames.{bit_xor}
use Rattle.std.proofs.lemmas.Nat.Bits.{bit_at_and, bit_at_or, bit_at_xor, bit_at_not, bit_at-lt, bit_at-suc, bit_at_lowest, bit_at-pow_same, bit_at-pow_other, bit_at-trailing_zeros, bit_at-zero, bit_at_ones, bit_at_ones_above}
use Rattle.std.proofs.lemmas.Bool.{eqb-true, eq-eqb, ne_eqb, cases_eq, cases_lt, lt-ltb, le-ltb}
use Rattle.std.proofs.lemmas.Bool.Decides.{nat_tests}
use Rattle.std.proofs.lemmas.List.{length-map}
use Rattle.std.proofs.Math.Pow.{pow-lt}
use lib.Count.{ones, ones_step}
use Rattle.graph_theory.specs.Neighbours.{count, members}
use Rattle.bit_rows.specs.BitRows.{is_set, word_values}
use Rattle.bit_rows.proofs.Passing.{count_same, members_same, members_add, members_first, count_add, length-members}

-- a bit is 0 or 1
pub zero_or_one : (x : ℕ) → x < 2 → (x ≡ 0) ⊎ (x ≡ 1)
zero_or_one zero h = inl refl
zero_or_one (suc zero) h = inr refl
zero_or_one (suc (suc n)) h = absurd (omega arith)

both : (x y : ℕ) → x < 2 → y < 2 → eqb (min x y) 1 ≡ (eqb x 1 && eqb y 1)
both x y hx hy = by (zero_or_one x hx) (zero_or_one y hy)
  where
    by : (x ≡ 0) ⊎ (x ≡ 1) → (y ≡ 0) ⊎ (y ≡ 1) → eqb (min x y) 1 ≡ (eqb x 1 && eqb y 1)
    by (inl a) (inl b) = rw (a, b) refl
    by (inl a) (inr b) = rw (a, b) refl
    by (inr a) (inl b) = rw (a, b) refl
    by (inr a) (inr b) = rw (a, b) refl

either-of : (x y : ℕ) → x < 2 → y < 2 → eqb (max x y) 1 ≡ (eqb x 1 || eqb y 1)
either-of x y hx hy = by (zero_or_one x hx) (zero_or_one y hy)
  where
    by : (x ≡ 0) ⊎ (x ≡ 1) → (y ≡ 0) ⊎ (y ≡ 1) → eqb (max x y) 1 ≡ (eqb x 1 || eqb y 1)
    by (inl a) (inl b) = rw (a, b) refl
    by (inl a) (inr b) = rw (a, b) refl
    by (inr a) (inl b) = rw (a, b) refl
    by (inr a) (inr b) = rw (a, b) refl

other-of : (x : ℕ) → x < 2 → eqb (1 - x) 1 ≡ not (eqb x 1)
other-of x hx = by (zero_or_one x hx)
  where
    by : (x ≡ 0) ⊎ (x ≡ 1) → eqb (1 - x) 1 ≡ not (eqb x 1)
    by (inl a) = rw a refl
    by (inr a) = rw a refl

flipped-of : (x y : ℕ) → x < 2 → y ≡ 0 → eqb ((x + y) % 2) 1 ≡ eqb x 1
flipped-of x y hx hy = by (zero_or_one x hx)
  where
    by : (x ≡ 0) ⊎ (x ≡ 1) → eqb ((x + y) % 2) 1 ≡ eqb x 1
    by (inl a) = rw (a, hy) refl
    by (inr a) = rw (a, hy) refl

pub is_set_and : (a b i : ℕ) → is_set (bit_and a b) i ≡ (is_set a i && is_set b i)
is_set_and a b i = rw (bit_at_and a b i) (both (bit_at a i) (bit_at b i) (bit_at-lt a i) (bit_at-lt b i))

pub is_set_or : (a b i : ℕ) → is_set (bit_or a b) i ≡ (is_set a i || is_set b i)
is_set_or a b i = rw (bit_at_or a b i) (either-of (bit_at a i) (bit_at b i) (bit_at-lt a i) (bit_at-lt b i))

pub is_set_not : (a i : ℕ) → a < 2 ^ 64 → i < 64 → is_set (bit_not w64 a) i ≡ not (is_set a i)
is_set_not a i ha hi = rw (bit_at_not w64 a i ha hi) (other-of (bit_at a i) (bit_at-lt a i))

pub is_set_and_not : (a b i : ℕ) → b < 2 ^ 64 → i < 64 → is_set (bit_and a (bit_not w64 b)) i ≡ (is_set a i && not (is_set b i))
is_set_and_not a b i hb hi = is_set_and a (bit_not w64 b) i ∙ rw (is_set_not b i hb hi) refl

-- `1 << k`
pub one_shifted : (k : ℕ) → k < 64 → 1 * 2 ^ k % 2 ^ 64 ≡ 2 ^ k
one_shifted k l = let p : 2 ^ k < 2 ^ 64 = pow-lt l in omega arith

-- a power of two has its own bit alone
pub is_set_pow : (k i : ℕ) → is_set (2 ^ k) i ≡ eqb i k
is_set_pow k i = by (cases_eq i k)
  where
    by : (i ≡ k) ⊎ (i ≡ k → ⊥) → is_set (2 ^ k) i ≡ eqb i k
    by (inl e) = rw (e, bit_at-pow_same k) (grind (arith, nat_tests))
    by (inr ne) = rw (bit_at-pow_other k i ne, ne_eqb i k ne) refl

pub is_set-zero : (i : ℕ) → is_set 0 i ≡ false
is_set-zero i = rw (bit_at-zero i) refl

lowest : (w : ℕ) → cond (is_set w 0) 1 0 + 0 ≡ w % 2
lowest w = rw (bit_at_lowest w) (by (zero_or_one (w % 2) (omega arith)))
  where
    by : (w % 2 ≡ 0) ⊎ (w % 2 ≡ 1) → cond (eqb (w % 2) 1) 1 0 + 0 ≡ w % 2
    by (inl a) = rw a refl
    by (inr a) = rw a refl

-- all bits of a word, counted, are the word's count of ones
pub count-is_set : (k w : ℕ) → w < 2 ^ k → count (is_set w) k ≡ ones w
unfolding ones
count-is_set zero w h = let e : w ≡ 0 = omega arith in rw e refl
count-is_set (suc k) w h =
    let half : w / 2 < 2 ^ k = omega arith in
    let e : 1 + k ≡ suc k = omega arith in
    let rest = count_same (λ i. is_set w (1 + i)) (is_set (w / 2)) k (λ i l. rw (add_comm 1 i, add-one i, bit_at-suc w i) refl) in
    ap (count (is_set w)) (sym e) ∙ count_add (is_set w) 1 k ∙ rw (lowest w, rest, count-is_set k (w / 2) half) (sym (ones_step w))

-- where a word's bits are those of a test from 64 w on, the word's values are the numbers from there on that pass
pub members_word : (f : ℕ → Bool) (place word : ℕ) → ((b : ℕ) → b < 64 → is_set word b ≡ f (64 * place + b))
    → members f (64 * place + 64) ≡ members f (64 * place) ++ word_values place word
unfolding word_values
members_word f place word same =
    members_add f (64 * place) 64 ∙ rw (members_same (is_set word) (λ b. f (64 * place + b)) 64 same) refl

pub count_word : (f : ℕ → Bool) (place word : ℕ) → word < 2 ^ 64 → ((b : ℕ) → b < 64 → is_set word b ≡ f (64 * place + b))
    → count f (64 * place + 64) ≡ count f (64 * place) + ones word
count_word f place word small same =
    count_add f (64 * place) 64 ∙ ap (λ n. count f (64 * place) + n) (sym (count_same (is_set word) (λ b. f (64 * place + b)) 64 same) ∙ count-is_set 64 word small)

pub length-word_values : (place word : ℕ) → word < 2 ^ 64 → length (word_values place word) ≡ ones word
unfolding word_values
length-word_values place word small =
    length-map (members (is_set word) 64) (λ b. 64 * place + b) ∙ length-members (is_set word) 64 ∙ count-is_set 64 word small

first-below : (n base word rest b : ℕ) → b < n → is_set word b ≡ true → ((i : ℕ) → i < b → is_set word i ≡ false)
    → is_set rest b ≡ false → ((i : ℕ) → (i ≡ b → ⊥) → is_set rest i ≡ is_set word i)
    → map (λ i. base + i) (members (is_set word) n) ≡ (base + b) ∷ map (λ i. base + i) (members (is_set rest) n)
first-below n base word rest b l here none gone same =
    let e : suc b + (n - suc b) ≡ n = omega arith in
    let listed = members_first (is_set word) (is_set rest) b (n - suc b) here gone none
    (λ i below. same i (omega arith) ∙ none i below) (λ i above. sym (same i (omega arith))) in
    let P : ℕ → Type 0 = λ m. map (λ i. base + i) (members (is_set word) m) ≡ (base + b) ∷ map (λ i. base + i) (members (is_set rest) m) in
    subst P e (ap (map (λ i. base + i)) listed)

-- where a word and the rest differ in the lowest bit of the word alone, that bit's value stands in front of the rest's
pub word_values-front : (place word rest b : ℕ) → b < 64 → is_set word b ≡ true → ((i : ℕ) → i < b → is_set word i ≡ false)
    → is_set rest b ≡ false → ((i : ℕ) → (i ≡ b → ⊥) → is_set rest i ≡ is_set word i)
    → word_values place word ≡ (64 * place + b) ∷ word_values place rest
unfolding word_values
word_values-front place word rest b l here none gone same = first-below 64 (64 * place) word rest b l here none gone same

pub low_bit : (word : ℕ) → 0 < word → word < 2 ^ 64 → trailing_zeros w64 word < 64
low_bit word some small = (bit_at-trailing_zeros w64 word some small).0

-- a word's lowest value stands in front of the others
pub word_values-first : (place word : ℕ) → 0 < word → word < 2 ^ 64
    → word_values place word ≡ (64 * place + trailing_zeros w64 word) ∷ word_values place (bit_xor word (2 ^ trailing_zeros w64 word))
word_values-first place word some small =
    let low = bit_at-trailing_zeros w64 word some small in
    let k = trailing_zeros w64 word in
    word_values-front place word (bit_xor word (2 ^ k)) k low.0 (rw low.1 refl) (λ i l. rw (low.2 i l) refl)
    (rw (bit_at_xor word (2 ^ k) k, low.1, bit_at-pow_same k) refl)
    (λ i ne. rw (bit_at_xor word (2 ^ k) i) (flipped-of (bit_at word i) (bit_at (2 ^ k) i) (bit_at-lt word i) (bit_at-pow_other k i ne)))

-- a word with no bit stands for nothing
pub word_values-zero : (place : ℕ) → word_values place 0 ≡ []
unfolding word_values
word_values-zero place = refl

-- a power of two stands for one value
pub word_values-pow : (place b : ℕ) → b < 64 → word_values place (2 ^ b) ≡ (64 * place + b) ∷ []
word_values-pow place b l =
    word_values-front place (2 ^ b) 0 b l (is_set_pow b b ∙ eq-eqb b b refl) (λ i h. is_set_pow b i ∙ ne_eqb i b (λ e. omega arith))
    (is_set-zero b) (λ i ne. is_set-zero i ∙ sym (is_set_pow b i ∙ ne_eqb i b ne))
    ∙ ap (λ us. (64 * place + b) ∷ us) (word_values-zero place)

-- a bit turned over, and the others
pub xor_same : (word k : ℕ) → is_set word k ≡ true → is_set (bit_xor word (2 ^ k)) k ≡ false
xor_same word k e = let one = eqb-true (bit_at word k) 1 e in rw (bit_at_xor word (2 ^ k) k, one, bit_at-pow_same k) refl

pub xor_other : (word k i : ℕ) → (i ≡ k → ⊥) → is_set (bit_xor word (2 ^ k)) i ≡ is_set word i
xor_other word k i ne = rw (bit_at_xor word (2 ^ k) i) (flipped-of (bit_at word i) (bit_at (2 ^ k) i) (bit_at-lt word i) (bit_at-pow_other k i ne))

pub low_is_set : (word : ℕ) → 0 < word → word < 2 ^ 64 → is_set word (trailing_zeros w64 word) ≡ true
low_is_set word some small = rw (bit_at-trailing_zeros w64 word some small).1 refl

-- the first k bits
pub is_set_ones : (k b : ℕ) → is_set (2 ^ k - 1) b ≡ ltb b k
is_set_ones k b = by (cases_lt b k)
  where
    by : (b < k) ⊎ (k ≤ b) → is_set (2 ^ k - 1) b ≡ ltb b k
    by (inl l) = rw (bit_at_ones k b l, lt-ltb b k l) refl
    by (inr l) = rw (bit_at_ones_above k b l, le-ltb b k l) refl
