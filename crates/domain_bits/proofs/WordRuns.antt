-- Runs at the end of a trail of words, taken whole or without their greatest value.
use Rattle.std.proofs.Common.{◌≡◌, ℕ, ◌+◌, ◌*◌, ◌-◌, ◌/◌, ◌%◌, ◌^◌, ◌<◌, ◌≤◌, zero, suc, true, false, List, [], ◌∷◌, ◌++◌, All, length, map, refl, sym, ap, ◌∙◌, subst, arith, Some, append_assoc, length-append}
use Rattle.std.specs.Int.{bit_at}
use Rattle.std.specs.Int.RustNames.{bit_xor}
use Rattle.std.proofs.lemmas.List.{append-nil, map-append}
use Rattle.std.proofs.lemmas.List.Elements.{All-head, All-tail, All-pop, All-push}
use Rattle.std.proofs.lemmas.Nat.Bits.{bit_at_above}
use Rattle.std.proofs.lemmas.Nat.{leading_top, div_below, le-div, pow_pos, xor_lt, zero_from_ones}
use Rattle.std.proofs.Math.Pow.{pow-lt}
use lib.Count.{ones, count_leading_zeros}
use Rattle.domain_bits.specs.declared.trail.Run.{Run}
use Rattle.graph_theory.specs.Neighbours.{members}
use Rattle.bit_rows.specs.BitRows.{is_set, word_values}
use Rattle.domain_bits.specs.Removals.{at_vertex}
use Rattle.domain_bits.specs.Runs.{pairs_of, IsRun, AreRuns}
use Rattle.bit_rows.proofs.Passing.{members_same, members_past}
use Rattle.domain_bits.proofs.Removed.{length-at_vertex}
use Rattle.bit_rows.proofs.WordBits.{one_shifted, xor_same, xor_other, word_values-pow, length-word_values}

pub pairs_of-last : (rs : List Run) (r : Run) → pairs_of (rs ++ r ∷ []) ≡ pairs_of rs ++ at_vertex r.vertex (word_values r.place r.word)
pairs_of-last [] r = append-nil (at_vertex r.vertex (word_values r.place r.word))
pairs_of-last (s ∷ rs) r =
    ap (λ xs. at_vertex s.vertex (word_values s.place s.word) ++ xs) (pairs_of-last rs r)
    ∙ sym (append_assoc (at_vertex s.vertex (word_values s.place s.word)) (pairs_of rs) (at_vertex r.vertex (word_values r.place r.word)))

pub length-run : (v place word : ℕ) → word < 2 ^ 64 → length (at_vertex v (word_values place word)) ≡ ones word
length-run v place word small = length-at_vertex v (word_values place word) ∙ length-word_values place word small

pub length-pairs_of-last : (rs : List Run) (r : Run) → r.word < 2 ^ 64 → length (pairs_of (rs ++ r ∷ [])) ≡ length (pairs_of rs) + ones r.word
length-pairs_of-last rs r small =
    ap length (pairs_of-last rs r) ∙ length-append (pairs_of rs) (at_vertex r.vertex (word_values r.place r.word))
    ∙ ap (λ n. length (pairs_of rs) + n) (length-run r.vertex r.place r.word small)

-- the greatest bit of a word, and the others
bit_top : (word j : ℕ) → 2 ^ j ≤ word → word < 2 ^ suc j → bit_at word j ≡ 1
bit_top word j l h =
    let d : word / 2 ^ j < 2 = div_below word (2 ^ j) 2 (pow_pos j) (omega (arith, h)) in
    let e : 1 ≤ word / 2 ^ j = le-div 1 word (2 ^ j) (pow_pos j) (omega (arith, l)) in
    let one : word / 2 ^ j ≡ 1 = omega (arith, d, e) in
    rw one refl

last-below : (k n word rest : ℕ) → is_set word k ≡ true → is_set rest k ≡ false → ((i : ℕ) → k < i → is_set word i ≡ false)
    → ((i : ℕ) → (i ≡ k → ⊥) → is_set rest i ≡ is_set word i) → members (is_set word) (suc k + n) ≡ members (is_set rest) (suc k + n) ++ k ∷ []
last-below k n word rest here gone none same =
    let whole : members (is_set word) (suc k + n) ≡ members (is_set word) k ++ k ∷ [] =
    members_past (is_set word) (suc k) n (λ i l. none i (omega arith)) ∙ rw here refl in
    let left : members (is_set rest) (suc k + n) ≡ members (is_set rest) k =
    members_past (is_set rest) (suc k) n (λ i l. same i (omega arith) ∙ none i (omega arith)) ∙ rw gone (append-nil (members (is_set rest) k)) in
    whole ∙ ap (λ xs. xs ++ k ∷ []) (members_same (is_set word) (is_set rest) k (λ i l. sym (same i (omega arith))) ∙ sym left)

pub word_values-top : (place word j : ℕ) → j < 64 → 2 ^ j ≤ word → word < 2 ^ suc j
    → word_values place word ≡ word_values place (bit_xor word (2 ^ j)) ++ word_values place (2 ^ j)
unfolding word_values
word_values-top place word j few l h =
    let here : is_set word j ≡ true = rw (bit_top word j l h) refl in
    let e : suc j + (63 - j) ≡ 64 = omega arith in
    let P : ℕ → Type 0 = λ m. members (is_set word) m ≡ members (is_set (bit_xor word (2 ^ j))) m ++ j ∷ [] in
    let listed = subst P e (last-below j (63 - j) word (bit_xor word (2 ^ j)) here (xor_same word j here) (λ i k. rw (bit_at_above word (suc j) i h (omega arith)) refl) (λ i ne. xor_other word j i ne)) in
    ap (map (λ b. 64 * place + b)) listed ∙ map-append (λ b. 64 * place + b) (members (is_set (bit_xor word (2 ^ j))) 64) (j ∷ [])
    ∙ ap (λ xs. map (λ b. 64 * place + b) (members (is_set (bit_xor word (2 ^ j))) 64) ++ xs) (sym (word_values-pow place j few))

-- the word that `1 << (63 - leading zeros)` is
pub record IsTop (word top : ℕ) : Type 0 where
  pub last : (place : ℕ) → word_values place word ≡ word_values place (bit_xor word top) ++ word_values place top
  pub one : ones top ≡ 1
  pub others : ones (bit_xor word top) + 1 ≡ ones word

pub top_is : (word : ℕ) → 0 < word → word < 2 ^ 64 → IsTop word (1 * 2 ^ (63 - count_leading_zeros 64 word) % 2 ^ 64)
top_is word some small = by (leading_top 64 word some small)
  where
    by : (j : ℕ) × (count_leading_zeros 64 word + suc j ≡ 64) × (2 ^ j ≤ word) × (word < 2 ^ suc j) → IsTop word (1 * 2 ^ (63 - count_leading_zeros 64 word) % 2 ^ 64)
    by (j, e, l, h) =
        let few : j < 64 = omega arith in
        let at : 63 - count_leading_zeros 64 word ≡ j = omega arith in
        let fits : 2 ^ j < 2 ^ 64 = pow-lt few in
        let values : (place : ℕ) → word_values place word ≡ word_values place (bit_xor word (2 ^ j)) ++ word_values place (2 ^ j) = λ place. word_values-top place word j few l h in
        let one : ones (2 ^ j) ≡ 1 = sym (length-word_values 0 (2 ^ j) fits) ∙ ap length (word_values-pow 0 j few) in
        let lengths = ap length (values 0) ∙ length-append (word_values 0 (bit_xor word (2 ^ j))) (word_values 0 (2 ^ j)) in
        let others : ones (bit_xor word (2 ^ j)) + 1 ≡ ones word =
        omega (arith, lengths, one, length-word_values 0 word small, length-word_values 0 (2 ^ j) fits, length-word_values 0 (bit_xor word (2 ^ j)) (xor_lt 64 word (2 ^ j) small fits)) in
        let P : ℕ → Type 0 = IsTop word in
        subst P (sym (ap (λ k. 1 * 2 ^ k % 2 ^ 64) at ∙ one_shifted j few)) (record { last = values; one = one; others = others })

-- the last run taken off
pub record Taken (rs : List Run) (pairs : ℕ) (r : Run) : Type 0 where
  pub kept : AreRuns rs (pairs - ones r.word)
  pub size : ones r.word ≤ pairs
  pub count : pairs ≡ length (pairs_of rs) + ones r.word
  pub run : IsRun r

pub taken : (all rs : List Run) (pairs : ℕ) (r : Run) → all ≡ rs ++ r ∷ [] → AreRuns all pairs → Taken rs pairs r
taken all rs pairs r e runs =
    let both = All-pop IsRun all rs (Some r) e runs.each in
    let n : pairs ≡ length (pairs_of rs) + ones r.word = runs.counted ∙ ap (λ xs. length (pairs_of xs)) e ∙ length-pairs_of-last rs r both.1.small in
    record {
      kept = record { each = both.0; counted = omega (arith, n) };
      size = omega (arith, n);
      count = n;
      run = both.1;
    }

pub ones_some : (word : ℕ) → 0 < word → 0 < ones word
ones_some word some = by (ones word) refl
  where
    by : (n : ℕ) → n ≡ ones word → 0 < n
    by zero e = let z : word ≡ 0 = zero_from_ones word (sym e) in absurd (omega arith)
    by (suc n) e = omega arith

-- a run put back without its greatest value
pub shortened : (rs : List Run) (pairs : ℕ) (r : Run) (top : ℕ) → Taken rs pairs r → IsTop r.word top → top < 2 ^ 64 → 1 < ones r.word
    → AreRuns (rs ++ record { vertex = r.vertex; place = r.place; word = bit_xor r.word top } ∷ []) (pairs - 1)
unfolding ones
shortened rs pairs r top t is fits more =
    let s : Run = record { vertex = r.vertex; place = r.place; word = bit_xor r.word top } in
    let small : bit_xor r.word top < 2 ^ 64 = xor_lt 64 r.word top t.run.small fits in
    let some : 0 < bit_xor r.word top = by (bit_xor r.word top) refl in
    record {
      each = All-push IsRun rs s t.kept.each (record { some = some; small = small });
      counted = omega (arith, length-pairs_of-last rs s small, t.count, is.others);
    }
  where
    by : (x : ℕ) → x ≡ bit_xor r.word top → 0 < x
    by zero e = let z : ones (bit_xor r.word top) ≡ 0 = ap ones (sym e) in absurd (omega (arith, z, is.others))
    by (suc n) e = omega arith

pub shortened_pairs : (rs : List Run) (r : Run) (top : ℕ) → IsTop r.word top
    → pairs_of (rs ++ r ∷ []) ≡ pairs_of (rs ++ record { vertex = r.vertex; place = r.place; word = bit_xor r.word top } ∷ []) ++ at_vertex r.vertex (word_values r.place top)
shortened_pairs rs r top is =
    let s : Run = record { vertex = r.vertex; place = r.place; word = bit_xor r.word top } in
    pairs_of-last rs r
    ∙ ap (λ us. pairs_of rs ++ at_vertex r.vertex us) (is.last r.place)
    ∙ ap (λ us. pairs_of rs ++ us) (map-append (λ u. (r.vertex, u)) (word_values r.place (bit_xor r.word top)) (word_values r.place top))
    ∙ sym (append_assoc (pairs_of rs) (at_vertex r.vertex (word_values r.place (bit_xor r.word top))) (at_vertex r.vertex (word_values r.place top)))
    ∙ ap (λ us. us ++ at_vertex r.vertex (word_values r.place top)) (sym (pairs_of-last rs s))

-- a run has a value at least, so there are no more runs than pairs
pub runs_within : (rs : List Run) → All IsRun rs → length rs ≤ length (pairs_of rs)
runs_within [] each = omega arith
runs_within (r ∷ rs) each =
    let run = All-head IsRun r rs each in
    let n = length-append (at_vertex r.vertex (word_values r.place r.word)) (pairs_of rs) in
    omega (arith, n, length-run r.vertex r.place r.word run.small, ones_some r.word run.some, runs_within rs (All-tail IsRun r rs each))

-- one more run at the end
pub added : (rs : List Run) (pairs : ℕ) (r : Run) → AreRuns rs pairs → IsRun r → AreRuns (rs ++ r ∷ []) (pairs + ones r.word)
added rs pairs r runs is =
    record {
      each = All-push IsRun rs r runs.each is;
      counted = omega (arith, runs.counted, length-pairs_of-last rs r is.small);
    }
