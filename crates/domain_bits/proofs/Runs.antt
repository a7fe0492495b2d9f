-- Runs of pairs of one vertex and one word, taken from the end of a trail.
use Rattle.std.proofs.Common.{◌≡◌, ℕ, ◌+◌, ◌*◌, ◌/◌, ◌%◌, ◌^◌, ◌<◌, Bool, true, false, ◌||◌, List, [], ◌∷◌, ◌++◌, length, take, get_or, refl, sym, ap, ◌∙◌, subst, arith, bit_and, bit_or, w64, append_assoc}
use Rattle.std.specs.Int.{bit_at, bit_not, trailing_zeros}
use Rattle.std.specs.Int.RustNames.{bit_xor}
use Rattle.std.proofs.lemmas.List.{take_more, take_all}
use Rattle.std.proofs.lemmas.Bool.{ne_eqb, eq-eqb}
use Rattle.std.proofs.lemmas.Nat.Bits.{bit_at_and, bit_at_not, bit_at-lt, bit_at-zero, same_from_bits_below}
use Rattle.std.proofs.lemmas.Nat.{and_le_l}
use Rattle.bit_rows.specs.BitRows.{is_set, word_values}
use Rattle.domain_bits.specs.Removals.{at_vertex}
use Rattle.bit_rows.proofs.WordBits.{one_shifted, is_set_or, is_set_pow, word_values-front, word_values-pow, word_values-first}

-- where nothing is gone all is kept
pub nothing_gone : (word keep : ℕ) → word < 2 ^ 64 → keep < 2 ^ 64 → bit_and word (bit_not w64 keep) ≡ 0 → bit_and word keep ≡ word
nothing_gone word keep small small' none =
    same_from_bits_below 64 (bit_and word keep) word (omega (arith, and_le_l word keep)) small (λ i l. bit i l)
  where
    bit : (i : ℕ) → i < 64 → bit_at (bit_and word keep) i ≡ bit_at word i
    bit i l =
        let a = bit_at_and word keep i in
        let b = bit_at_and word (bit_not w64 keep) i in
        let n = bit_at_not w64 keep i small' l in
        let z = ap (λ x. bit_at x i) none ∙ bit_at-zero i in
        omega (arith, a, b, n, z, bit_at-lt word i, bit_at-lt keep i)

pub run_start : (pairs : List (ℕ × ℕ)) (n : ℕ) → n + 1 ≡ length pairs
    → pairs ≡ take n pairs ++ at_vertex (get_or pairs n (0, 0)).0 (word_values ((get_or pairs n (0, 0)).1 / 64) (2 ^ ((get_or pairs n (0, 0)).1 % 64)))
run_start pairs n e =
    let x = get_or pairs n (0, 0) in
    let value : 64 * (x.1 / 64) + x.1 % 64 ≡ x.1 = omega arith in
    let listed : word_values (x.1 / 64) (2 ^ (x.1 % 64)) ≡ x.1 ∷ [] = word_values-pow (x.1 / 64) (x.1 % 64) (omega arith) ∙ ap (λ t. t ∷ []) value in
    let h : n < length pairs = omega arith in
    sym (take_all (n + 1) pairs (omega arith)) ∙ take_more pairs n (0, 0) h ∙ ap (λ us. take n pairs ++ at_vertex x.0 us) (sym listed)

pair_is : (x : ℕ × ℕ) (a b : ℕ) → x.0 ≡ a → b ≡ x.1 → x ≡ (a, b)
pair_is x a b e f = rw (f, ← e) refl

pub run_more : (pairs : List (ℕ × ℕ)) (n v place word low : ℕ) → n < length pairs → low < 64
    → pairs ≡ take (n + 1) pairs ++ at_vertex v (word_values place word) → (get_or pairs n (0, 0)).0 ≡ v → (get_or pairs n (0, 0)).1 / 64 ≡ place
    → (get_or pairs n (0, 0)).1 % 64 < low → ((i : ℕ) → i < low → is_set word i ≡ false)
    → pairs ≡ take n pairs ++ at_vertex v (word_values place (bit_or word (2 ^ ((get_or pairs n (0, 0)).1 % 64))))
run_more pairs n v place word low h few last same-vertex same-place below clear =
    let x = get_or pairs n (0, 0) in
    let b = x.1 % 64 in
    let value : 64 * place + b ≡ x.1 = omega (arith, same-place) in
    let front = word_values-front place (bit_or word (2 ^ b)) word b (omega arith)
    (is_set_or word (2 ^ b) b ∙ rw (clear b below, is_set_pow b b, eq-eqb b b refl) refl)
    (λ i l. is_set_or word (2 ^ b) i ∙ rw (clear i (omega arith), is_set_pow b i, ne_eqb i b (λ e. omega arith)) refl)
    (clear b below)
    (λ i ne. sym (is_set_or word (2 ^ b) i ∙ rw (is_set_pow b i, ne_eqb i b ne) (or-false (is_set word i)))) in
    last ∙ ap (λ ys. ys ++ at_vertex v (word_values place word)) (take_more pairs n (0, 0) h)
    ∙ append_assoc (take n pairs) (x ∷ []) (at_vertex v (word_values place word))
    ∙ ap (λ ys. take n pairs ++ ys) (head same-vertex value ∙ sym (ap (at_vertex v) front))
  where
    or-false : (a : Bool) → (a || false) ≡ a
    or-false true = refl
    or-false false = refl

    head : (get_or pairs n (0, 0)).0 ≡ v → 64 * place + (get_or pairs n (0, 0)).1 % 64 ≡ (get_or pairs n (0, 0)).1
        → get_or pairs n (0, 0) ∷ at_vertex v (word_values place word) ≡ (v, 64 * place + (get_or pairs n (0, 0)).1 % 64) ∷ at_vertex v (word_values place word)
    head a b = ap (λ y. y ∷ at_vertex v (word_values place word)) (pair_is (get_or pairs n (0, 0)) v (64 * place + (get_or pairs n (0, 0)).1 % 64) a b)

pub clear_more : (word low b : ℕ) → b < low → ((i : ℕ) → i < low → is_set word i ≡ false) → (i : ℕ) → i < b → is_set (bit_or word (2 ^ b)) i ≡ false
clear_more word low b l clear i h = is_set_or word (2 ^ b) i ∙ rw (clear i (omega arith), is_set_pow b i, ne_eqb i b (λ e. omega arith)) refl

pub pow_clear : (b i : ℕ) → i < b → is_set (2 ^ b) i ≡ false
pow_clear b i h = is_set_pow b i ∙ ne_eqb i b (λ e. omega arith)

-- one step of writing a word's values
pub listed_more : (before all : List (ℕ × ℕ)) (p place word : ℕ) → 0 < word → word < 2 ^ 64
    → before ++ at_vertex p (word_values place word) ≡ all
    → (before ++ (p, 64 * place + trailing_zeros w64 word) ∷ []) ++ at_vertex p (word_values place (bit_xor word (2 ^ trailing_zeros w64 word))) ≡ all
listed_more before all p place word some small h =
    append_assoc before _ _ ∙ ap (λ us. before ++ at_vertex p us) (sym (word_values-first place word some small)) ∙ h

-- the same in the words of the code, which shifts
pub run_begin : (pairs : List (ℕ × ℕ)) (n : ℕ) → n + 1 ≡ length pairs
    → pairs ≡ take n pairs ++ at_vertex (get_or pairs n (0, 0)).0 (word_values ((get_or pairs n (0, 0)).1 / 64) (1 * 2 ^ ((get_or pairs n (0, 0)).1 % 64) % 2 ^ 64))
run_begin pairs n e =
    let b = (get_or pairs n (0, 0)).1 % 64 in
    let P : ℕ → Type 0 = λ w. pairs ≡ take n pairs ++ at_vertex (get_or pairs n (0, 0)).0 (word_values ((get_or pairs n (0, 0)).1 / 64) w) in
    subst P (sym (one_shifted b (omega arith))) (run_start pairs n e)

pub run_on : (pairs : List (ℕ × ℕ)) (n v place word low : ℕ) → n < length pairs → low < 64
    → pairs ≡ take (n + 1) pairs ++ at_vertex v (word_values place word) → (get_or pairs n (0, 0)).0 ≡ v → (get_or pairs n (0, 0)).1 / 64 ≡ place
    → (get_or pairs n (0, 0)).1 % 64 < low → ((i : ℕ) → i < low → is_set word i ≡ false)
    → pairs ≡ take n pairs ++ at_vertex v (word_values place (bit_or word (1 * 2 ^ ((get_or pairs n (0, 0)).1 % 64) % 2 ^ 64)))
run_on pairs n v place word low h few last a b below clear =
    let bit = (get_or pairs n (0, 0)).1 % 64 in
    let P : ℕ → Type 0 = λ w. pairs ≡ take n pairs ++ at_vertex v (word_values place (bit_or word w)) in
    subst P (sym (one_shifted bit (omega arith))) (run_more pairs n v place word low h few last a b below clear)

pub clear_on : (word low b : ℕ) → b < low → low < 64 → ((i : ℕ) → i < low → is_set word i ≡ false) → (i : ℕ) → i < b → is_set (bit_or word (1 * 2 ^ b % 2 ^ 64)) i ≡ false
clear_on word low b l few clear i h = rw (one_shifted b (omega arith)) (clear_more word low b l clear i h)

pub clear_begin : (b i : ℕ) → b < 64 → i < b → is_set (1 * 2 ^ b % 2 ^ 64) i ≡ false
clear_begin b i few h = rw (one_shifted b few) (pow_clear b i h)
