-- Rows that are parted word by word, and what is lost of them.

use Rattle.std.proofs.Common.{◌≡◌, ◌∙◌, ℕ, ◌+◌, ◌*◌, ◌/◌, ◌%◌, ◌^◌, ◌<◌, ◌≤◌, ◌&&◌, ◌||◌, not, nat_lt, Bool, true, false, List, length, get_or, refl, sym, ap, arith, inl, inr, ◌⊎◌, bit_and, bit_or, w64}
use Rattle.std.specs.Int.{bit_not}
use Rattle.std.proofs.Math.ListN.{set}
use Rattle.std.proofs.lemmas.Bool.{true≢false, cases_eq, cases_lt}
use Rattle.bit_rows.specs.BitRows.{is_set, has}
use Rattle.bit_rows.proofs.WordBits.{is_set_and, is_set_and_not, is_set_or, is_set-zero}
use Rattle.bit_rows.proofs.Rows.{has_past}
use Rattle.bit_rows.proofs.Counting.{has_within}
use Rattle.bit_rows.proofs.WordsAt.{has_written, has_elsewhere}
use Rattle.needed_values.specs.Consistent.{agree}

-- Of the first words of a row, what another one lacks is among these bits.
abbrev pub Lost : List ℕ → List ℕ → ℕ → ℕ → Type 0
Lost xs ys n lost = (v : ℕ) → v / 64 < n → has xs v ≡ true → has ys v ≡ false → is_set lost (v % 64) ≡ true

or_left : (a b : Bool) → a ≡ true → (a || b) ≡ true
or_left true b h = refl
or_left false b h = absurd cc

or_right : (a b : Bool) → b ≡ true → (a || b) ≡ true
or_right true b h = refl
or_right false b h = h

lacked : (a b : Bool) → a ≡ true → b ≡ false → (a && not b) ≡ true
lacked true false g h = refl
lacked true true g h = absurd cc
lacked false b g h = absurd cc

-- One word more.
pub lost_next : (xs ys : List ℕ) (place lost : ℕ) → get_or ys place 0 < 2 ^ 64 → Lost xs ys place lost → Lost xs ys (place + 1) (bit_or lost (bit_and (get_or xs place 0) (bit_not w64 (get_or ys place 0))))
lost_next xs ys place lost small before v v_in x y = is_set_or lost (bit_and (get_or xs place 0) (bit_not w64 (get_or ys place 0))) (v % 64) ∙ by (cases_eq (v / 64) place)
  where
    by : (v / 64 ≡ place) ⊎ (v / 64 ≡ place → ⊥) → (is_set lost (v % 64) || is_set (bit_and (get_or xs place 0) (bit_not w64 (get_or ys place 0))) (v % 64)) ≡ true
    by (inl here) =
        or_right (is_set lost (v % 64)) (is_set (bit_and (get_or xs place 0) (bit_not w64 (get_or ys place 0))) (v % 64))
        (is_set_and_not (get_or xs place 0) (get_or ys place 0) (v % 64) small (omega arith)
        ∙ lacked (is_set (get_or xs place 0) (v % 64)) (is_set (get_or ys place 0) (v % 64)) (ap (λ (k : ℕ). is_set (get_or xs k 0) (v % 64)) (sym here) ∙ x) (ap (λ (k : ℕ). is_set (get_or ys k 0) (v % 64)) (sym here) ∙ y))
    by (inr there) = or_left (is_set lost (v % 64)) (is_set (bit_and (get_or xs place 0) (bit_not w64 (get_or ys place 0))) (v % 64)) (before v (omega (arith, v_in, there)) x y)

-- Where none is lost, the other row has all.
pub within_all : (xs ys : List ℕ) (n lost : ℕ) → length xs ≤ n → lost ≡ 0 → Lost xs ys n lost → (v : ℕ) → has xs v ≡ true → has ys v ≡ true
within_all xs ys n lost all none each v x = by (has ys v) refl
  where
    by : (b : Bool) → has ys v ≡ b → has ys v ≡ true
    by true h = h
    by false h = absurd (true≢false (sym (each v (let inside = has_within xs v x in omega (arith, inside, all)) x h) ∙ ap (λ (w : ℕ). is_set w (v % 64)) none ∙ is_set-zero (v % 64)))

-- ---- a row that is parted

module _ (row near other left : List ℕ) (place low kept lost below : ℕ) (joined induced : Bool) (in_other : place < length other) (in_left : place < length left) (small : kept < 2 ^ 64)
    (low_is : (b : ℕ) → b < 64 → is_set low b ≡ nat_lt (64 * place + b) below)
    (kept_is : (b : ℕ) → b < 64 → is_set kept b ≡ (is_set (bit_and (get_or row place 0) low) b && agree joined induced (is_set (get_or near place 0) b))) where
  pub bits_next : ((v : ℕ) → v / 64 < place → has other v ≡ (has row v && nat_lt v below)) → (v : ℕ) → v / 64 < place + 1 → has (set other place (bit_and (get_or row place 0) low)) v ≡ (has row v && nat_lt v below)
  bits_next before v v_in = by (cases_eq (v / 64) place)
    where
      by : (v / 64 ≡ place) ⊎ (v / 64 ≡ place → ⊥) → has (set other place (bit_and (get_or row place 0) low)) v ≡ (has row v && nat_lt v below)
      by (inl here) =
          let e : 64 * place + v % 64 ≡ v = omega (arith, here) in
          has_written other place (bit_and (get_or row place 0) low) v in_other here ∙ is_set_and (get_or row place 0) low (v % 64)
          ∙ ap (λ (k : ℕ). is_set (get_or row k 0) (v % 64) && is_set low (v % 64)) (sym here)
          ∙ ap (λ (b : Bool). has row v && b) (low_is (v % 64) (omega arith) ∙ ap (λ (n : ℕ). nat_lt n below) e)
      by (inr there) = has_elsewhere other place (bit_and (get_or row place 0) low) v there ∙ before v (omega (arith, v_in, there))

  pub left_next : ((v : ℕ) → v / 64 < place → has left v ≡ (has other v && agree joined induced (has near v)))
      → (v : ℕ) → v / 64 < place + 1 → has (set left place kept) v ≡ (has (set other place (bit_and (get_or row place 0) low)) v && agree joined induced (has near v))
  left_next before v v_in = by (cases_eq (v / 64) place)
    where
      by : (v / 64 ≡ place) ⊎ (v / 64 ≡ place → ⊥) → has (set left place kept) v ≡ (has (set other place (bit_and (get_or row place 0) low)) v && agree joined induced (has near v))
      by (inl here) =
          has_written left place kept v in_left here ∙ kept_is (v % 64) (omega arith)
          ∙ ap (λ (b : Bool). b && agree joined induced (is_set (get_or near place 0) (v % 64))) (sym (has_written other place (bit_and (get_or row place 0) low) v in_other here))
          ∙ ap (λ (k : ℕ). has (set other place (bit_and (get_or row place 0) low)) v && agree joined induced (is_set (get_or near k 0) (v % 64))) (sym here)
      by (inr there) =
          has_elsewhere left place kept v there ∙ before v (omega (arith, v_in, there))
          ∙ ap (λ (b : Bool). b && agree joined induced (has near v)) (sym (has_elsewhere other place (bit_and (get_or row place 0) low) v there))

  pub parts_next : Lost other left place lost → Lost (set other place (bit_and (get_or row place 0) low)) (set left place kept) (place + 1) (bit_or lost (bit_and (bit_and (get_or row place 0) low) (bit_not w64 kept)))
  parts_next before v v_in x y = is_set_or lost (bit_and (bit_and (get_or row place 0) low) (bit_not w64 kept)) (v % 64) ∙ by (cases_eq (v / 64) place)
    where
      by : (v / 64 ≡ place) ⊎ (v / 64 ≡ place → ⊥) → (is_set lost (v % 64) || is_set (bit_and (bit_and (get_or row place 0) low) (bit_not w64 kept)) (v % 64)) ≡ true
      by (inl here) =
          or_right (is_set lost (v % 64)) (is_set (bit_and (bit_and (get_or row place 0) low) (bit_not w64 kept)) (v % 64))
          (is_set_and_not (bit_and (get_or row place 0) low) kept (v % 64) small (omega arith)
          ∙ lacked (is_set (bit_and (get_or row place 0) low) (v % 64)) (is_set kept (v % 64)) (sym (has_written other place (bit_and (get_or row place 0) low) v in_other here) ∙ x) (sym (has_written left place kept v in_left here) ∙ y))
      by (inr there) =
          or_left (is_set lost (v % 64)) (is_set (bit_and (bit_and (get_or row place 0) low) (bit_not w64 kept)) (v % 64))
          (before v (omega (arith, v_in, there)) (sym (has_elsewhere other place (bit_and (get_or row place 0) low) v there) ∙ x) (sym (has_elsewhere left place kept v there) ∙ y))

-- All words.
pub bits_all : (row other : List ℕ) (place below : ℕ) → length row ≤ place → length other ≡ length row → ((v : ℕ) → v / 64 < place → has other v ≡ (has row v && nat_lt v below)) → (v : ℕ) → has other v ≡ (has row v && nat_lt v below)
bits_all row other place below all long each v = by (cases_lt (v / 64) place)
  where
    by : (v / 64 < place) ⊎ (place ≤ v / 64) → has other v ≡ (has row v && nat_lt v below)
    by (inl inside) = each v inside
    by (inr past) = rw (has_past other v (omega (arith, past, all, long)), has_past row v (omega (arith, past, all))) refl

pub left_all : (near other left : List ℕ) (place : ℕ) (joined induced : Bool) → length other ≤ place → length left ≡ length other → ((v : ℕ) → v / 64 < place → has left v ≡ (has other v && agree joined induced (has near v)))
    → (v : ℕ) → has left v ≡ (has other v && agree joined induced (has near v))
left_all near other left place joined induced all long each v = by (cases_lt (v / 64) place)
  where
    by : (v / 64 < place) ⊎ (place ≤ v / 64) → has left v ≡ (has other v && agree joined induced (has near v))
    by (inl inside) = each v inside
    by (inr past) = rw (has_past left v (omega (arith, past, all, long)), has_past other v (omega (arith, past, all))) refl
