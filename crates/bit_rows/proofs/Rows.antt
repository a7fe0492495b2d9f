-- Rows of words, read bit by bit.
use Rattle.std.proofs.Common.{◌≡◌, ℕ, ◌+◌, ◌*◌, ◌-◌, ◌/◌, ◌%◌, ◌<◌, ◌≤◌, false, List, ◌++◌, length, take, drop, get_or, refl, sym, ap, ◌∙◌, arith, length-append, length-drop, inl, inr, ◌⊎◌, suc}
use Rattle.std.proofs.lemmas.Bool.{cases_order}
use native.Mathlib.Nat.{mul-le-mul_right, suc-mul}
use Rattle.std.proofs.lemmas.List.{get_or-take, get_or-drop, get_or_past, get_or_append_left, get_or-append_right, length-take-le}
use borrow.Rule.Slice.PartMut.{put_mid}
use Rattle.bit_rows.specs.BitRows.{is_set, has}
use Rattle.bit_rows.proofs.WordBits.{is_set-zero}

-- bit b of word w is value 64 w + b
pub has_at : (row : List ℕ) (w b : ℕ) → b < 64 → has row (64 * w + b) ≡ is_set (get_or row w 0) b
has_at row w b l =
    let place : (64 * w + b) / 64 ≡ w = omega arith in
    let bit : (64 * w + b) % 64 ≡ b = omega arith in
    rw (place, bit) refl

-- rows whose words agree hold the same values
pub has_same : (xs ys : List ℕ) (t : ℕ) → get_or xs (t / 64) 0 ≡ get_or ys (t / 64) 0 → has xs t ≡ has ys t
has_same xs ys t e = rw e refl

-- and so do words that agree, at two places with the same bit
pub has_same_at : (xs ys : List ℕ) (v u : ℕ) → get_or xs (v / 64) 0 ≡ get_or ys (u / 64) 0 → v % 64 ≡ u % 64 → has xs v ≡ has ys u
has_same_at xs ys v u e f = rw (e, f) refl

pub has-take : (n : ℕ) (row : List ℕ) (t : ℕ) → t < 64 * n → has (take n row) t ≡ has row t
has-take n row t l = has_same (take n row) row t (let within : t / 64 < n = omega arith in get_or-take n row (t / 64) 0 within)

-- no value stands past the last word
pub has_past : (row : List ℕ) (t : ℕ) → 64 * length row ≤ t → has row t ≡ false
has_past row t l = rw (get_or_past row (t / 64) 0 (omega arith)) (is_set-zero (t % 64))

-- a part of the rows written anew: inside and outside
pub has-put_inside : (a k : ℕ) (xs ys : List ℕ) (t : ℕ) → a ≤ length xs → length ys ≡ k → t < 64 * k → has (drop a (put_mid a k xs ys)) t ≡ has ys t
has-put_inside a k xs ys t inside long l =
    let e : a + t / 64 - a ≡ t / 64 = omega arith in
    let within : t / 64 < length ys = omega arith in
    has_same (drop a (put_mid a k xs ys)) ys t
    (get_or-drop a (put_mid a k xs ys) (t / 64) 0
    ∙ get_or-append_right (take a xs) (ys ++ drop k (drop a xs)) a (a + t / 64) 0 (length-take-le a xs inside) (omega arith)
    ∙ ap (λ i. get_or (ys ++ drop k (drop a xs)) i 0) e
    ∙ get_or_append_left ys (drop k (drop a xs)) 0 (t / 64) within)

-- a place outside the part
pub get_or-put_outside : (a k : ℕ) (xs ys : List ℕ) (i d : ℕ) → a ≤ length xs → length ys ≡ k → (i < a) ⊎ (a + k ≤ i) → get_or (put_mid a k xs ys) i d ≡ get_or xs i d
get_or-put_outside a k xs ys i d inside long (inl l) =
    let within : i < length (take a xs) = omega (arith, length-take-le a xs inside) in
    get_or_append_left (take a xs) (ys ++ drop k (drop a xs)) d i within ∙ get_or-take a xs i d l
get_or-put_outside a k xs ys i d inside long (inr l) =
    let e : a + (k + (i - a - k)) ≡ i = omega arith in
    get_or-append_right (take a xs) (ys ++ drop k (drop a xs)) a i d (length-take-le a xs inside) (omega arith)
    ∙ get_or-append_right ys (drop k (drop a xs)) k (i - a) d long (omega arith)
    ∙ get_or-drop k (drop a xs) (i - a - k) d ∙ get_or-drop a xs (k + (i - a - k)) d ∙ ap (λ j. get_or xs j d) e

-- the row of another vertex is as it was
pub has-put_outside : (p q n : ℕ) (xs ys : List ℕ) (t : ℕ) → (q ≡ p → ⊥) → p * n ≤ length xs → length ys ≡ n → t < 64 * n
    → has (drop (q * n) (put_mid (p * n) n xs ys)) t ≡ has (drop (q * n) xs) t
has-put_outside p q n xs ys t ne inside long l =
    let word : t / 64 < n = omega arith in
    has_same (drop (q * n) (put_mid (p * n) n xs ys)) (drop (q * n) xs) t
    (get_or-drop (q * n) (put_mid (p * n) n xs ys) (t / 64) 0
    ∙ get_or-put_outside (p * n) n xs ys (q * n + t / 64) 0 inside long (apart (cases_order q p))
    ∙ sym (get_or-drop (q * n) xs (t / 64) 0))
  where
    apart : (q ≡ p) ⊎ ((q < p) ⊎ (p < q)) → (q * n + t / 64 < p * n) ⊎ (p * n + n ≤ q * n + t / 64)
    apart (inl e) = absurd (ne e)
    apart (inr (inl less)) = inl (let word : t / 64 < n = omega arith in let m = mul-le-mul_right {m = suc q} {n = p} n less in omega (arith, m, suc-mul q n))
    apart (inr (inr more)) = inr (let m = mul-le-mul_right {m = suc p} {n = q} n more in omega (arith, m, suc-mul p n))

pub length-put_mid : (a k : ℕ) (xs ys : List ℕ) → a + k ≤ length xs → length ys ≡ k → length (put_mid a k xs ys) ≡ length xs
length-put_mid a k xs ys inside long =
    omega (
      arith,
      length-append (take a xs) (ys ++ drop k (drop a xs)),
      length-append ys (drop k (drop a xs)),
      length-take-le a xs (omega arith),
      length-drop k (drop a xs),
      length-drop a xs,
      long,
    )
