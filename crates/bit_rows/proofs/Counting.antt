-- Counts of values, one more for each member of a row, and the values that are counted often enough.

use Rattle.std.proofs.Common.{◌≡◌, ℕ, ◌*◌, ◌+◌, ◌-◌, ◌/◌, ◌%◌, ◌^◌, ◌<◌, ◌≤◌, Bool, true, false, not, eqb, leb, nat_lt, ◌==◌, ◌&&◌, ◌||◌, List, length, take, drop, get_or, refl, sym, ap, ◌∙◌, arith, inl, inr, ◌⊎◌, bit_and, bit_or, w64}
use Rattle.std.specs.Int.{from_bool, trailing_zeros}
use Rattle.std.specs.Int.RustNames.{bit_xor}
use Rattle.std.proofs.Math.ListN.{set}
use Rattle.std.proofs.lemmas.Bool.{cases_eq, cases_lt, eq-eqb, ne_eqb, lt-ltb, le-ltb, le-leb, lt-leb, false≢true}
use Rattle.std.proofs.lemmas.List.{get_or-set_same, get_or-set_other, get_or-take, get_or-drop}
use Rattle.bit_rows.specs.BitRows.{is_set, has, word_values}
use Rattle.bit_rows.proofs.WordBits.{is_set_and, is_set_or, is_set_pow, is_set-zero, low_bit, low_is_set, word_values-first, xor_same, xor_other, one_shifted}
use Rattle.bit_rows.proofs.Rows.{has_past}
use Rattle.bit_rows.proofs.WordsAt.{has_written, has_elsewhere}

-- a value of one word of a row
abbrev pub in_word : ℕ → ℕ → ℕ → Bool
in_word place word v = (v / 64 == place) && is_set word (v % 64)

one_more : (n m : ℕ) (t : Bool) → n + from_bool true ≡ m → t ≡ false → (n + 1) + from_bool t ≡ m
one_more n m t e f = rw f (omega (arith, e))

-- the lowest value of the rest of a word is counted, and leaves the rest
pub counted_one : (counts first : List ℕ) (place word rest i : ℕ) → 0 < rest → rest < 2 ^ 64 → i ≡ 64 * place + trailing_zeros w64 rest → i < length counts
    → ((v : ℕ) → get_or counts v 0 + from_bool (in_word place rest v) ≡ get_or first v 0 + from_bool (in_word place word v))
    → (v : ℕ) → get_or (set counts i (get_or counts i 0 + 1)) v 0 + from_bool (in_word place (bit_xor rest (1 * 2 ^ trailing_zeros w64 rest % 2 ^ 64)) v)
    ≡ get_or first v 0 + from_bool (in_word place word v)
counted_one counts first place word rest i some small i_is inside before v =
    rw (one_shifted (trailing_zeros w64 rest) (low_bit rest some small)) (by (cases_eq v i))
  where
    k_in : trailing_zeros w64 rest < 64
    k_in = low_bit rest some small

    by : (v ≡ i) ⊎ (v ≡ i → ⊥) → get_or (set counts i (get_or counts i 0 + 1)) v 0 + from_bool (in_word place (bit_xor rest (2 ^ trailing_zeros w64 rest)) v)
        ≡ get_or first v 0 + from_bool (in_word place word v)
    by (inl e) =
        let here : v / 64 ≡ place = omega (arith, k_in) in
        let bit : v % 64 ≡ trailing_zeros w64 rest = omega (arith, k_in) in
        let was : in_word place rest v ≡ true = rw (eq-eqb (v / 64) place here, bit) (low_is_set rest some small) in
        let is : in_word place (bit_xor rest (2 ^ trailing_zeros w64 rest)) v ≡ false =
        rw (eq-eqb (v / 64) place here, bit) (xor_same rest (trailing_zeros w64 rest) (low_is_set rest some small)) in
        let at : get_or (set counts i (get_or counts i 0 + 1)) v 0 ≡ get_or counts v 0 + 1 =
        ap (λ (j : ℕ). get_or (set counts i (get_or counts i 0 + 1)) j 0) e ∙ get_or-set_same counts i (get_or counts i 0 + 1) 0 inside ∙ ap (λ (j : ℕ). get_or counts j 0 + 1) (sym e) in
        rw at (one_more (get_or counts v 0) (get_or first v 0 + from_bool (in_word place word v)) (in_word place (bit_xor rest (2 ^ trailing_zeros w64 rest)) v)
        (ap (λ (t : Bool). get_or counts v 0 + from_bool t) (sym was) ∙ before v) is)
    by (inr ne) =
        let same : in_word place (bit_xor rest (2 ^ trailing_zeros w64 rest)) v ≡ in_word place rest v = others (cases_eq (v / 64) place) in
        rw (get_or-set_other counts i v (get_or counts i 0 + 1) 0 ne, same) (before v)
      where
        others : (v / 64 ≡ place) ⊎ (v / 64 ≡ place → ⊥) → in_word place (bit_xor rest (2 ^ trailing_zeros w64 rest)) v ≡ in_word place rest v
        others (inl here) = ap (λ (t : Bool). (v / 64 == place) && t) (xor_other rest (trailing_zeros w64 rest) (v % 64) (λ bit. ne (omega arith)))
        others (inr there) = rw (ne_eqb (v / 64) place there) refl

-- a bit that is left is one of the word
pub left_in_word : (word rest : ℕ) → ((b : ℕ) → is_set rest b ≡ true → is_set word b ≡ true) → 0 < rest → rest < 2 ^ 64
    → (b : ℕ) → is_set (bit_xor rest (1 * 2 ^ trailing_zeros w64 rest % 2 ^ 64)) b ≡ true → is_set word b ≡ true
left_in_word word rest part some small b = rw (one_shifted (trailing_zeros w64 rest) (low_bit rest some small)) (by (cases_eq b (trailing_zeros w64 rest)))
  where
    by : (b ≡ trailing_zeros w64 rest) ⊎ (b ≡ trailing_zeros w64 rest → ⊥) → is_set (bit_xor rest (2 ^ trailing_zeros w64 rest)) b ≡ true → is_set word b ≡ true
    by (inl e) h = absurd (false≢true (sym (ap (is_set (bit_xor rest (2 ^ trailing_zeros w64 rest))) e ∙ xor_same rest (trailing_zeros w64 rest) (low_is_set rest some small)) ∙ h))
    by (inr ne) h = part b (sym (xor_other rest (trailing_zeros w64 rest) b ne) ∙ h)

-- one value fewer is left
pub fewer : (place word : ℕ) → 0 < word → word < 2 ^ 64
    → length (word_values place word) ≡ length (word_values place (bit_xor word (1 * 2 ^ trailing_zeros w64 word % 2 ^ 64))) + 1
fewer place word some small = rw (one_shifted (trailing_zeros w64 word) (low_bit word some small)) (omega (arith, ap length (word_values-first place word some small)))

-- the lowest value that is left is one of the word
pub in_range : (place word rest n : ℕ) → ((v : ℕ) → v / 64 ≡ place → is_set word (v % 64) ≡ true → v < n) → ((b : ℕ) → is_set rest b ≡ true → is_set word b ≡ true)
    → 0 < rest → rest < 2 ^ 64 → 64 * place + trailing_zeros w64 rest < n
in_range place word rest n within part some small =
    let k_in = low_bit rest some small in
    let here : (64 * place + trailing_zeros w64 rest) / 64 ≡ place = omega arith in
    let bit : trailing_zeros w64 rest ≡ (64 * place + trailing_zeros w64 rest) % 64 = omega arith in
    within (64 * place + trailing_zeros w64 rest) here (part ((64 * place + trailing_zeros w64 rest) % 64) (ap (is_set rest) (sym bit) ∙ low_is_set rest some small))

-- where nothing is left all has been counted
pub counted_word : (counts first : List ℕ) (place word rest : ℕ) → rest ≡ 0
    → ((v : ℕ) → get_or counts v 0 + from_bool (in_word place rest v) ≡ get_or first v 0 + from_bool (in_word place word v))
    → (v : ℕ) → get_or counts v 0 ≡ get_or first v 0 + from_bool (in_word place word v)
counted_word counts first place word rest none all v =
    let off : in_word place rest v ≡ false = rw (none, is_set-zero (v % 64)) (never (v / 64 == place)) in
    let e : get_or counts v 0 + from_bool false ≡ get_or first v 0 + from_bool (in_word place word v) = ap (λ (t : Bool). get_or counts v 0 + from_bool t) (sym off) ∙ all v in
    omega (arith, e)
  where
    never : (t : Bool) → (t && false) ≡ false
    never true = refl
    never false = refl

-- the values of the first words of a row
abbrev pub in_first : List ℕ → ℕ → ℕ → Bool
in_first row place v = nat_lt (v / 64) place && has row v

-- one word more
pub counted_next : (row old now new : List ℕ) (place : ℕ) → ((v : ℕ) → get_or now v 0 ≡ get_or old v 0 + from_bool (in_first row place v))
    → ((v : ℕ) → get_or new v 0 ≡ get_or now v 0 + from_bool (in_word place (get_or row place 0) v))
    → (v : ℕ) → get_or new v 0 ≡ get_or old v 0 + from_bool (in_first row (place + 1) v)
counted_next row old now new place before more v = by (cases_eq (v / 64) place)
  where
    by : (v / 64 ≡ place) ⊎ (v / 64 ≡ place → ⊥) → get_or new v 0 ≡ get_or old v 0 + from_bool (in_first row (place + 1) v)
    by (inl here) =
        let was : in_first row place v ≡ false = rw (le-ltb (v / 64) place (omega arith)) refl in
        let word : in_word place (get_or row place 0) v ≡ has row v = rw (← here, eq-eqb (v / 64) (v / 64) refl) refl in
        let is : in_first row (place + 1) v ≡ has row v = rw (lt-ltb (v / 64) (place + 1) (omega arith)) refl in
        let first : get_or now v 0 ≡ get_or old v 0 + from_bool false = before v ∙ ap (λ (t : Bool). get_or old v 0 + from_bool t) was in
        let second : get_or new v 0 ≡ get_or now v 0 + from_bool (has row v) = more v ∙ ap (λ (t : Bool). get_or now v 0 + from_bool t) word in
        let third : get_or old v 0 + from_bool (in_first row (place + 1) v) ≡ get_or old v 0 + from_bool (has row v) = ap (λ (t : Bool). get_or old v 0 + from_bool t) is in
        omega (arith, first, second, third)
    by (inr there) =
        let word : in_word place (get_or row place 0) v ≡ false = rw (ne_eqb (v / 64) place there) refl in
        let is : in_first row (place + 1) v ≡ in_first row place v = ap (λ (t : Bool). t && has row v) (same (cases_lt (v / 64) place)) in
        let second : get_or new v 0 ≡ get_or now v 0 + from_bool false = more v ∙ ap (λ (t : Bool). get_or now v 0 + from_bool t) word in
        let third : get_or old v 0 + from_bool (in_first row (place + 1) v) ≡ get_or old v 0 + from_bool (in_first row place v) = ap (λ (t : Bool). get_or old v 0 + from_bool t) is in
        omega (arith, before v, second, third)
      where
        same : (v / 64 < place) ⊎ (place ≤ v / 64) → nat_lt (v / 64) (place + 1) ≡ nat_lt (v / 64) place
        same (inl less) = lt-ltb (v / 64) (place + 1) (omega arith) ∙ sym (lt-ltb (v / 64) place less)
        same (inr more) = le-ltb (v / 64) (place + 1) (omega arith) ∙ sym (le-ltb (v / 64) place more)

-- all words
pub counted_all : (row old new : List ℕ) (place : ℕ) → length row ≤ place → ((v : ℕ) → get_or new v 0 ≡ get_or old v 0 + from_bool (in_first row place v))
    → (v : ℕ) → get_or new v 0 ≡ get_or old v 0 + from_bool (has row v)
counted_all row old new place all each v = each v ∙ ap (λ (t : Bool). get_or old v 0 + from_bool t) (by (cases_lt (v / 64) place))
  where
    by : (v / 64 < place) ⊎ (place ≤ v / 64) → in_first row place v ≡ has row v
    by (inl inside) = rw (lt-ltb (v / 64) place inside) refl
    by (inr past) = rw (has_past row v (omega arith), le-ltb (v / 64) place past) refl

-- ---- values that are counted often enough

abbrev pub enough : List ℕ → ℕ → ℕ → Bool
enough counts least v = not (nat_lt (get_or counts v 0) least)

pub enough_where : (counts : List ℕ) (least v : ℕ) → leb least (get_or counts v 0) ≡ enough counts least v
enough_where counts least v = by (cases_lt (get_or counts v 0) least)
  where
    by : (get_or counts v 0 < least) ⊎ (least ≤ get_or counts v 0) → leb least (get_or counts v 0) ≡ enough counts least v
    by (inl less) = rw (lt-leb least (get_or counts v 0) less, lt-ltb (get_or counts v 0) least less) refl
    by (inr more) = rw (le-leb least (get_or counts v 0) more, le-ltb (get_or counts v 0) least more) refl

-- one bit more
pub bit_more : (test : ℕ → Bool) (word b n : ℕ) (t : Bool) → b < 64 → n ≡ from_bool t → t ≡ test b
    → ((v : ℕ) → v < b → is_set word v ≡ test v) → ((v : ℕ) → b ≤ v → is_set word v ≡ false)
    → ((v : ℕ) → v < b + 1 → is_set (bit_or word (n * 2 ^ b % 2 ^ 64)) v ≡ test v)
    × ((v : ℕ) → b + 1 ≤ v → is_set (bit_or word (n * 2 ^ b % 2 ^ 64)) v ≡ false)
bit_more test word b n t b_in n_is t_is done todo = rw n_is (
  λ v v_in. is_set_or word (from_bool t * 2 ^ b % 2 ^ 64) v ∙ low v v_in (cases_eq v b),
  λ v past. is_set_or word (from_bool t * 2 ^ b % 2 ^ 64) v ∙ rw (todo v (omega arith), flag t v, ne_eqb v b (λ e. omega arith)) (never t),
)
  where
    never : (x : Bool) → (false || (x && false)) ≡ false
    never true = refl
    never false = refl

    flag : (x : Bool) (v : ℕ) → is_set (from_bool x * 2 ^ b % 2 ^ 64) v ≡ (x && eqb v b)
    flag true v = ap (λ (n : ℕ). is_set n v) (one_shifted b b_in) ∙ is_set_pow b v
    flag false v = let none : 0 * 2 ^ b % 2 ^ 64 ≡ 0 = omega arith in ap (λ (n : ℕ). is_set n v) none ∙ is_set-zero v

    low : (v : ℕ) → v < b + 1 → (v ≡ b) ⊎ (v ≡ b → ⊥) → (is_set word v || is_set (from_bool t * 2 ^ b % 2 ^ 64) v) ≡ test v
    low v v_in (inl e) = rw (todo v (omega arith), flag t v, eq-eqb v b e) (yes t) ∙ t_is ∙ ap test (sym e)
      where
        yes : (x : Bool) → (false || (x && true)) ≡ x
        yes true = refl
        yes false = refl
    low v v_in (inr ne) = rw (done v (omega arith), flag t v, ne_eqb v b ne) (no (test v) t)
      where
        no : (y x : Bool) → (y || (x && false)) ≡ y
        no true x = refl
        no false true = refl
        no false false = refl

-- the bits of the part of the counts that belongs to a word
pub part_counted : (counts part : List ℕ) (place to least v result : ℕ) → part ≡ take (to - 64 * place) (drop (64 * place) counts)
    → ((b : ℕ) → b < length part → is_set result b ≡ enough part least b) → length part ≡ to - 64 * place
    → v / 64 ≡ place → v < to → is_set result (v % 64) ≡ enough counts least v
part_counted counts part place to least v result is bits long here v_in =
    let place_is : 64 * place + v % 64 ≡ v = omega arith in
    let within : v % 64 < to - 64 * place = omega arith in
    let at : get_or part (v % 64) 0 ≡ get_or counts v 0 =
    ap (λ (xs : List ℕ). get_or xs (v % 64) 0) is ∙ get_or-take (to - 64 * place) (drop (64 * place) counts) (v % 64) 0 within
    ∙ get_or-drop (64 * place) counts (v % 64) 0 ∙ ap (λ (k : ℕ). get_or counts k 0) place_is in
    bits (v % 64) (omega arith) ∙ ap (λ (n : ℕ). not (nat_lt n least)) at

-- the values of a word that have been looked at stand in the other where they are counted often enough, and those that have not do not
pub record CountedOf (test : ℕ → Bool) (place word rest kept : ℕ) : Type 0 where
  pub part : (b : ℕ) → is_set rest b ≡ true → is_set word b ≡ true
  pub done : (b : ℕ) → is_set word b ≡ true → is_set rest b ≡ false → is_set kept b ≡ test (64 * place + b)
  pub todo : (b : ℕ) → is_set rest b ≡ true → is_set kept b ≡ false

-- none has been
pub counted_none : (test : ℕ → Bool) (place word : ℕ) → CountedOf test place word word 0
counted_none test place word = record {
  part = λ b h. h;
  done = λ b h none. absurd (false≢true (sym none ∙ h));
  todo = λ b h. is_set-zero b;
}

-- the lowest value that is left is looked at
pub counted_of : (test : ℕ → Bool) (place word rest kept n : ℕ) (t : Bool) → 0 < rest → rest < 2 ^ 64 → n ≡ from_bool t → t ≡ test (64 * place + trailing_zeros w64 rest)
    → CountedOf test place word rest kept
    → CountedOf test place word (bit_xor rest (1 * 2 ^ trailing_zeros w64 rest % 2 ^ 64)) (bit_or kept (n * 2 ^ trailing_zeros w64 rest % 2 ^ 64))
counted_of test place word rest kept n t some small n_is t_is before = rw n_is (record {
  part = left_in_word word rest before.part some small;
  done = λ b h gone. is_set_or kept (from_bool t * 2 ^ low % 2 ^ 64) b ∙ looked b h (sym (left b) ∙ gone) (cases_eq b low);
  todo = λ b h. is_set_or kept (from_bool t * 2 ^ low % 2 ^ 64) b ∙ waits b (sym (left b) ∙ h) (cases_eq b low);
})
  where
    low : ℕ
    low = trailing_zeros w64 rest

    low_in : trailing_zeros w64 rest < 64
    low_in = low_bit rest some small

    left : (b : ℕ) → is_set (bit_xor rest (1 * 2 ^ trailing_zeros w64 rest % 2 ^ 64)) b ≡ is_set (bit_xor rest (2 ^ trailing_zeros w64 rest)) b
    left b = ap (λ (x : ℕ). is_set (bit_xor rest x) b) (one_shifted (trailing_zeros w64 rest) low_in)

    flag : (x : Bool) (v : ℕ) → is_set (from_bool x * 2 ^ low % 2 ^ 64) v ≡ (x && eqb v low)
    flag true v = ap (λ (m : ℕ). is_set m v) (one_shifted low low_in) ∙ is_set_pow low v
    flag false v = let none : 0 * 2 ^ low % 2 ^ 64 ≡ 0 = omega arith in ap (λ (m : ℕ). is_set m v) none ∙ is_set-zero v

    yes : (x : Bool) → (false || (x && true)) ≡ x
    yes true = refl
    yes false = refl

    no : (y x : Bool) → (y || (x && false)) ≡ y
    no true x = refl
    no false true = refl
    no false false = refl

    looked : (b : ℕ) → is_set word b ≡ true → is_set (bit_xor rest (2 ^ low)) b ≡ false → (b ≡ low) ⊎ (b ≡ low → ⊥)
        → (is_set kept b || is_set (from_bool t * 2 ^ low % 2 ^ 64) b) ≡ test (64 * place + b)
    looked b h gone (inl e) =
        rw (before.todo b (ap (is_set rest) e ∙ low_is_set rest some small), flag t b, eq-eqb b low e) (yes t) ∙ t_is ∙ ap (λ (k : ℕ). test (64 * place + k)) (sym e)
    looked b h gone (inr ne) =
        rw (flag t b, ne_eqb b low ne) (no (is_set kept b) t) ∙ before.done b h (sym (xor_other rest low b ne) ∙ gone)

    waits : (b : ℕ) → is_set (bit_xor rest (2 ^ low)) b ≡ true → (b ≡ low) ⊎ (b ≡ low → ⊥) → (is_set kept b || is_set (from_bool t * 2 ^ low % 2 ^ 64) b) ≡ false
    waits b h (inl e) = absurd (false≢true (sym (ap (is_set (bit_xor rest (2 ^ low))) e ∙ xor_same rest low (low_is_set rest some small)) ∙ h))
    waits b h (inr ne) = rw (flag t b, ne_eqb b low ne) (no (is_set kept b) t) ∙ before.todo b (sym (xor_other rest low b ne) ∙ h)

-- where nothing is left all values of the word have been looked at
pub counted_last : (test : ℕ → Bool) (place word rest kept : ℕ) → rest ≡ 0 → CountedOf test place word rest kept
    → (v : ℕ) → v / 64 ≡ place → is_set word (v % 64) ≡ true → is_set kept (v % 64) ≡ test v
counted_last test place word rest kept none all v here h =
    let at : 64 * place + v % 64 ≡ v = omega arith in
    all.done (v % 64) h (ap (λ (x : ℕ). is_set x (v % 64)) none ∙ is_set-zero (v % 64)) ∙ ap test at

-- what a word still has is a member of the row as it was
pub here_within : (old row : List ℕ) (place n : ℕ) → ((v : ℕ) → has old v ≡ true → v < n) → ((v : ℕ) → place ≤ v / 64 → has row v ≡ has old v) → (v : ℕ) → v / 64 ≡ place
    → is_set (get_or row place 0) (v % 64) ≡ true → v < n
here_within old row place n within todo v here h = within v (sym (todo v (omega arith)) ∙ ap (λ (k : ℕ). is_set (get_or row k 0) (v % 64)) here ∙ h)

-- one word more
pub kept_next : (test : ℕ → Bool) (old row : List ℕ) (place word : ℕ) → place < length row
    → ((v : ℕ) → v / 64 ≡ place → is_set (get_or row place 0) (v % 64) ≡ true → is_set word (v % 64) ≡ test v)
    → ((v : ℕ) → v / 64 < place → has row v ≡ (has old v && test v)) → ((v : ℕ) → place ≤ v / 64 → has row v ≡ has old v)
    → ((v : ℕ) → v / 64 < place + 1 → has (set row place (bit_and (get_or row place 0) word)) v ≡ (has old v && test v))
    × ((v : ℕ) → place + 1 ≤ v / 64 → has (set row place (bit_and (get_or row place 0) word)) v ≡ has old v)
kept_next test old row place word inside bits done todo = (
  λ v v_in. by v v_in (cases_eq (v / 64) place),
  λ v past. has_elsewhere row place (bit_and (get_or row place 0) word) v (λ e. omega arith) ∙ todo v (omega arith),
)
  where
    kept : (v : ℕ) → v / 64 ≡ place → (t : Bool) → has old v ≡ t → (t && is_set word (v % 64)) ≡ (t && test v)
    kept v here true h = bits v here (ap (λ (k : ℕ). is_set (get_or row k 0) (v % 64)) (sym here) ∙ todo v (omega arith) ∙ h)
    kept v here false h = refl

    by : (v : ℕ) → v / 64 < place + 1 → (v / 64 ≡ place) ⊎ (v / 64 ≡ place → ⊥)
        → has (set row place (bit_and (get_or row place 0) word)) v ≡ (has old v && test v)
    by v v_in (inl here) =
        has_written row place (bit_and (get_or row place 0) word) v inside here ∙ is_set_and (get_or row place 0) word (v % 64)
        ∙ ap (λ (k : ℕ). is_set (get_or row k 0) (v % 64) && is_set word (v % 64)) (sym here)
        ∙ ap (λ (t : Bool). t && is_set word (v % 64)) (todo v (omega arith)) ∙ kept v here (has old v) refl
    by v v_in (inr there) = has_elsewhere row place (bit_and (get_or row place 0) word) v there ∙ done v (omega arith)

-- all words
pub kept_whole : (test : ℕ → Bool) (old row : List ℕ) (place : ℕ) → length old ≤ place → length row ≡ length old
    → ((v : ℕ) → v / 64 < place → has row v ≡ (has old v && test v)) → (v : ℕ) → has row v ≡ (has old v && test v)
kept_whole test old row place all long done v = by (cases_lt (v / 64) place)
  where
    by : (v / 64 < place) ⊎ (place ≤ v / 64) → has row v ≡ (has old v && test v)
    by (inl inside) = done v inside
    by (inr past) = rw (has_past row v (omega arith), has_past old v (omega arith)) refl

-- every count is at least 0
pub kept_all : (old counts : List ℕ) (least v : ℕ) → least ≡ 0 → has old v ≡ (has old v && enough counts least v)
kept_all old counts least v none = rw (none, le-ltb (get_or counts v 0) 0 (omega arith)) (yes (has old v))
  where
    yes : (t : Bool) → t ≡ (t && true)
    yes true = refl
    yes false = refl

-- a member is within the row's words
pub has_within : (row : List ℕ) (v : ℕ) → has row v ≡ true → v < 64 * length row
has_within row v h = by (cases_lt v (64 * length row))
  where
    by : (v < 64 * length row) ⊎ (64 * length row ≤ v) → v < 64 * length row
    by (inl inside) = inside
    by (inr past) = absurd (false≢true (sym (has_past row v past) ∙ h))
