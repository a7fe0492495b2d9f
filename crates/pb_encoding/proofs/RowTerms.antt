-- Terms of the members of a row, gathered word by word.

use Rattle.std.proofs.Common.{◌≡◌, ℕ, zero, suc, ◌+◌, ◌*◌, ◌^◌, ◌%◌, ◌<◌, ◌≤◌, Bool, true, false, if◌then◌else◌, List, [], ◌∷◌, ◌++◌, length, map, get_or, ℤ, pos, refl, sym, ap, ◌∙◌, arith, w64}
use Rattle.std.specs.Int.{trailing_zeros}
use Rattle.std.specs.Int.RustNames.{bit_xor}
use Rattle.std.proofs.lemmas.List.{append-nil, append_assoc, map-append}
use Rattle.graph_theory.specs.Graph.{size}
use Rattle.graph_theory.specs.Embedding.{Problem}
use Rattle.graph_theory.specs.Neighbours.{members}
use Rattle.bit_rows.specs.BitRows.{has, word_values}
use Rattle.bit_rows.proofs.Rows.{has_at}
use Rattle.bit_rows.proofs.WordBits.{one_shifted, low_bit, members_word, word_values-first, word_values-zero}
use Rattle.encoding_theory.specs.Variables.{variable, when}
use Rattle.encoding_theory.specs.Pairs.{is_compatible}
use Rattle.encoding_theory.specs.Encoding.{terms_where}
use Rattle.encoding_theory.proofs.ReversedForms.{terms_same}
use Rattle.pb_encoding.proofs.Beside.{skipped}

-- The term of a value, where first is the variable of value 0.
abbrev pub term : ℕ → ℕ → ℕ × ℤ
term first u = (first + u, pos 1)

-- ---- the members of a word

-- Before and after one step: the terms so far, with those of the values that are left, are those of the word.
pub pushed_one : (first place word rest x : ℕ) (before old new : List (ℕ × ℤ)) → 0 < rest → rest < 2 ^ 64 → old ++ map (term first) (word_values place rest) ≡ before ++ map (term first) (word_values place word)
    → x ≡ first + (64 * place + trailing_zeros w64 rest) → new ≡ old ++ (x, pos 1) ∷ []
    → new ++ map (term first) (word_values place (bit_xor rest (1 * 2 ^ trailing_zeros w64 rest % 2 ^ 64))) ≡ before ++ map (term first) (word_values place word)
pushed_one first place word rest x before old new some small is x_is pushed =
    let left = word_values place (bit_xor rest (2 ^ trailing_zeros w64 rest)) in
    rw (one_shifted (trailing_zeros w64 rest) (low_bit rest some small), pushed, x_is)
    (append_assoc old (term first (64 * place + trailing_zeros w64 rest) ∷ []) (map (term first) left)
    ∙ ap (λ (vs : List ℕ). old ++ map (term first) vs) (sym (word_values-first place rest some small)) ∙ is)

pub fewer_left : (place word : ℕ) → 0 < word → word < 2 ^ 64
    → length (word_values place word) ≡ length (word_values place (bit_xor word (1 * 2 ^ trailing_zeros w64 word % 2 ^ 64))) + 1
fewer_left place word some small = rw (one_shifted (trailing_zeros w64 word) (low_bit word some small)) (omega (arith, ap length (word_values-first place word some small)))

-- In the end none is left.
pub pushed_word : (first place word rest : ℕ) (before new : List (ℕ × ℤ)) → rest ≡ 0 → new ++ map (term first) (word_values place rest) ≡ before ++ map (term first) (word_values place word)
    → new ≡ before ++ map (term first) (word_values place word)
pushed_word first place word rest before new none is =
    sym (append-nil new) ∙ ap (λ (vs : List ℕ). new ++ map (term first) vs) (sym (word_values-zero place)) ∙ ap (λ (w : ℕ). new ++ map (term first) (word_values place w)) (sym none) ∙ is

-- ---- the members of a row

terms_of-members : (f : ℕ → Bool) (number : ℕ → ℕ) (n : ℕ) → terms_where (pos 1) f number n ≡ map (λ i. (number i, pos 1)) (members f n)
terms_of-members f number zero = refl
terms_of-members f number (suc n) = by (f n) (terms_of-members f number n)
  where
    by : (b : Bool) → terms_where (pos 1) f number n ≡ map (λ i. (number i, pos 1)) (members f n)
        → (terms_where (pos 1) f number n ++ when b ((number n, pos 1) ∷ [])) ≡ map (λ i. (number i, pos 1)) (members f n ++ (if b then n ∷ [] else []))
    by true before = ap (λ (ts : List (ℕ × ℤ)). ts ++ (number n, pos 1) ∷ []) before ∙ sym (map-append (λ i. (number i, pos 1)) (members f n) (n ∷ []))
    by false before = append-nil (terms_where (pos 1) f number n) ∙ before ∙ ap (map (λ i. (number i, pos 1))) (sym (append-nil (members f n)))

-- The terms of the members of the first words of a row.
abbrev pub row_terms : List ℕ → ℕ → ℕ → List (ℕ × ℤ)
row_terms row first n = map (term first) (members (has row) n)

pub row_none : (row : List ℕ) (first : ℕ) (old : List (ℕ × ℤ)) → old ≡ old ++ row_terms row first (64 * 0)
row_none row first old = sym (append-nil old)

pub row_next : (row : List ℕ) (first place : ℕ) (before old new : List (ℕ × ℤ)) → old ≡ before ++ row_terms row first (64 * place) → new ≡ old ++ map (term first) (word_values place (get_or row place 0))
    → new ≡ before ++ row_terms row first (64 * (place + 1))
row_next row first place before old new is pushed =
    let e : 64 * (place + 1) ≡ 64 * place + 64 = omega arith in
    pushed ∙ ap (λ (ts : List (ℕ × ℤ)). ts ++ map (term first) (word_values place (get_or row place 0))) is
    ∙ append_assoc before (row_terms row first (64 * place)) (map (term first) (word_values place (get_or row place 0)))
    ∙ ap (λ (ts : List (ℕ × ℤ)). before ++ ts) (sym (map-append (term first) (members (has row) (64 * place)) (word_values place (get_or row place 0))))
    ∙ ap (λ (vs : List ℕ). before ++ map (term first) vs) (sym (members_word (has row) place (get_or row place 0) (λ b l. sym (has_at row place b l))))
    ∙ ap (λ (n : ℕ). before ++ row_terms row first n) (sym e)

-- In the end they are those of all its members.
pub row_all : (q : Problem) (row : List ℕ) (r first n : ℕ) (before new : List (ℕ × ℤ)) → ((u : ℕ) → has row u ≡ true → u < size q.target) → size q.target ≤ n → first ≡ variable q r 0
    → new ≡ before ++ row_terms row first n → new ≡ before ++ terms_where (pos 1) (has row) (variable q r) (size q.target)
row_all q row r first n before new within past first_is is =
    is ∙ ap (λ (ts : List (ℕ × ℤ)). before ++ ts)
    (sym (terms_of-members (has row) (λ u. first + u) n) ∙ numbered n
    ∙ skipped (pos 1) (has row) (variable q r) (size q.target) n past (λ v l h. outside v l (has row v) refl))
  where
    numbered : (m : ℕ) → terms_where (pos 1) (has row) (λ u. first + u) m ≡ terms_where (pos 1) (has row) (variable q r) m
    numbered zero = refl
    numbered (suc m) =
        let x : first + m ≡ variable q r m = omega (arith, first_is) in
        ap (λ (ts : List (ℕ × ℤ)). ts ++ when (has row m) ((first + m, pos 1) ∷ [])) (numbered m)
        ∙ ap (λ (v : ℕ). terms_where (pos 1) (has row) (variable q r) m ++ when (has row m) ((v, pos 1) ∷ [])) x

    outside : (v : ℕ) → size q.target ≤ v → (x : Bool) → has row v ≡ x → has row v ≡ false
    outside v l true h = let w = within v h in absurd (omega (arith, l, w))
    outside v l false h = h

-- Where the members are the values that are right, these are the terms of the line.
pub row_right : (q : Problem) (row : List ℕ) (p t r : ℕ) (before new : List (ℕ × ℤ)) → ((u : ℕ) → u < size q.target → has row u ≡ is_compatible q p t r u)
    → new ≡ before ++ terms_where (pos 1) (has row) (variable q r) (size q.target) → new ≡ before ++ terms_where (pos 1) (is_compatible q p t r) (variable q r) (size q.target)
row_right q row p t r before new right is =
    is ∙ ap (λ (ts : List (ℕ × ℤ)). before ++ ts) (terms_same (pos 1) (has row) (is_compatible q p t r) (variable q r) (size q.target) right)
