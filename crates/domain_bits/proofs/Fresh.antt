-- Full domains.
use Rattle.std.proofs.Common.{◌≡◌, ℕ, ◌+◌, ◌*◌, ◌/◌, ◌<◌, ◌≤◌, zero, suc, Bool, true, false, ltb, ◌&&◌, ◌⊎◌, inl, inr, List, [], ◌++◌, length, drop, get_or, replicate, sum, refl, sym, ap, ◌∙◌, arith}
use Rattle.std.proofs.lemmas.List.{get_or-replicate, length-replicate, get_or-drop, get_or_append_left, get_or-append_right}
use Rattle.std.proofs.lemmas.List.Sums.{sum_by-cons}
use Rattle.std.proofs.lemmas.Bool.{lt-ltb, cases_lt}
use native.Mathlib.Nat.{suc-mul, mul-le-mul_right}
use Rattle.graph_theory.specs.Neighbours.{count}
use Rattle.bit_rows.specs.BitRows.{has, words_for}
use Rattle.domain_bits.specs.Removals.{in_domain, size_of}
use Rattle.domain_bits.specs.Inside.{Kept}
use Rattle.domain_bits.proofs.Keeping.{state}
use Rattle.bit_rows.proofs.Rows.{has_same}

sum-replicate : (v n : ℕ) → sum (replicate v n) ≡ v * n
sum-replicate zero n = omega arith
sum-replicate (suc v) n = omega (arith, sum_by-cons (λ x. x) n (replicate v n), sum-replicate v n, suc-mul v n)

count_all : (f : ℕ → Bool) (n : ℕ) → ((i : ℕ) → i < n → f i ≡ true) → count f n ≡ n
count_all f zero all = refl
count_all f (suc n) all = rw (all n (omega arith)) (omega (arith, count_all f n (λ i l. all i (omega arith))))

-- a full domain has all values
pub full_size : (v n p : ℕ) → size_of (state v n []) p ≡ n
full_size v n p = count_all (in_domain (state v n []) p) n (λ i l. rw (lt-ltb i n l) refl)

whole : (b : Bool) → b ≡ (b && true)
whole true = refl
whole false = refl

kept_full : (v n words : ℕ) (rows : List ℕ) (cap : ℕ) → words ≡ words_for n → words ≤ 1024 → length rows ≡ v * words
    → ((p t : ℕ) → p < v → t < 64 * words → has (drop (p * words) rows) t ≡ ltb t n) → v * n ≤ cap → Kept (state v n []) words rows (replicate v n) cap
kept_full v n words rows cap words-are short long bits room = record {
  words_are = words-are;
  short = short;
  long = long;
  sized = length-replicate v n;
  bits = λ p t hp ht. bits p t hp ht ∙ whole (ltb t n);
  counts = λ p hp. get_or-replicate v p n 0 hp ∙ sym (full_size v n p);
  once = λ p t. omega arith;
  range = λ k d l. absurd (omega arith);
  all = omega (arith, sum-replicate v n);
  room = room;
}

-- the rows of full domains, by whatever names
pub fresh_kept : (v n words : ℕ) (removed : List (ℕ × ℕ)) (rows sizes : List ℕ) (cap : ℕ) → removed ≡ [] → words ≡ words_for n → words ≤ 1024 → length rows ≡ v * words
    → ((p t : ℕ) → p < v → t < 64 * words → has (drop (p * words) rows) t ≡ ltb t n) → sizes ≡ replicate v n → v * n ≤ cap → Kept (state v n removed) words rows sizes cap
fresh_kept v n words removed rows sizes cap none words-are short long bits same room = rw (none, same) (kept_full v n words rows cap words-are short long bits room)

-- one row more
pub rows_more : (rows row later : List ℕ) (i n words : ℕ) → length rows ≡ i * words → length row ≡ words → later ≡ rows ++ row
    → ((p t : ℕ) → p < i → t < 64 * words → has (drop (p * words) rows) t ≡ ltb t n) → ((t : ℕ) → t < 64 * words → has row t ≡ ltb t n)
    → (p t : ℕ) → p < i + 1 → t < 64 * words → has (drop (p * words) later) t ≡ ltb t n
rows_more rows row later i n words long wide later-is before own p t hp ht = by (cases_lt p i)
  where
    by : (p < i) ⊎ (i ≤ p) → has (drop (p * words) later) t ≡ ltb t n
    by (inl l) =
        let inside : p * words + t / 64 < length rows = let word : t / 64 < words = omega arith in omega (arith, mul-le-mul_right {m = suc p} {n = i} words l, suc-mul p words, long) in
        has_same (drop (p * words) later) (drop (p * words) rows) t
        (get_or-drop (p * words) later (t / 64) 0 ∙ ap (λ xs. get_or xs (p * words + t / 64) 0) later-is
        ∙ get_or_append_left rows row 0 (p * words + t / 64) inside ∙ sym (get_or-drop (p * words) rows (t / 64) 0)) ∙ before p t l ht
    by (inr l) =
        let last : p ≡ i = omega arith in
        rw last (has_same (drop (i * words) later) row t
        (get_or-drop (i * words) later (t / 64) 0 ∙ ap (λ xs. get_or xs (i * words + t / 64) 0) later-is
        ∙ get_or-append_right rows row (i * words) (i * words + t / 64) 0 long (omega arith) ∙ ap (λ k. get_or row k 0) (omega arith)) ∙ own t ht)
