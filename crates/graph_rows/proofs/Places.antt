-- Places of marks: row a and value b by one number, and back.

use Rattle.std.proofs.Common.{◌≡◌, ℕ, ◌+◌, ◌*◌, ◌/◌, ◌%◌, ◌<◌, ◌≤◌, suc, eqb, ◌&&◌, List, get_or, take, drop, refl, sym, ap, ◌∙◌, arith, inl, inr, ◌⊎◌}
use Rattle.std.proofs.Math.Nat.{mul_left_comm}
use Rattle.std.proofs.lemmas.Bool.{cases_eq, cases_order, eq-eqb, ne_eqb}
use Rattle.std.proofs.lemmas.List.{get_or-take, get_or-drop}
use native.Mathlib.Nat.{mul-le-mul, mul-le-mul_right, suc-mul}
use mir.Syntax.{w64}
use mir.Val.{Fits}
use Rattle.bit_rows.specs.BitRows.{has, words_for}
use Rattle.graph_rows.specs.Held.{marked}
use Rattle.bit_rows.proofs.Rows.{has_same_at}

-- two places within rows of one length are one place exactly where row and value are the same
pub eqb-places : (s a b x y : ℕ) → b < s → y < s → eqb (a * s + b) (x * s + y) ≡ (eqb a x && eqb b y)
eqb-places s a b x y b_in y_in = by (cases_order a x) (cases_eq b y)
  where
    by : (a ≡ x) ⊎ ((a < x) ⊎ (x < a)) → (b ≡ y) ⊎ (b ≡ y → ⊥) → eqb (a * s + b) (x * s + y) ≡ (eqb a x && eqb b y)
    by (inl e) (inl f) =
        let both : a * s + b ≡ x * s + y = rw (e, f) refl in
        rw (eq-eqb (a * s + b) (x * s + y) both, eq-eqb a x e, eq-eqb b y f) refl
    by (inl e) (inr ne) =
        let rows : a * s ≡ x * s = rw e refl in
        rw (ne_eqb (a * s + b) (x * s + y) (λ h. ne (omega arith)), eq-eqb a x e, ne_eqb b y ne) refl
    by (inr (inl less)) f =
        let m = mul-le-mul_right {m = suc a} {n = x} s less in
        rw (ne_eqb (a * s + b) (x * s + y) (λ h. omega (arith, m, suc-mul a s)), ne_eqb a x (λ h. omega arith)) refl
    by (inr (inr more)) f =
        let m = mul-le-mul_right {m = suc x} {n = a} s more in
        rw (ne_eqb (a * s + b) (x * s + y) (λ h. omega (arith, m, suc-mul x s)), ne_eqb a x (λ h. omega arith)) refl

-- a place within n rows
pub place_within : (n s a b : ℕ) → a < n → b < s → a * s + b < n * s
place_within n s a b a_in b_in = let m = mul-le-mul_right {m = suc a} {n = n} s a_in in omega (arith, m, suc-mul a s)

-- and within their words
pub place_in_words : (n width a b len : ℕ) → len ≡ n * width → a < n → b < 64 * width → a * (64 * width) + b < 64 * len
place_in_words n width a b len long a_in b_in =
    let m : a * (64 * width) + b < n * (64 * width) = place_within n (64 * width) a b a_in b_in in
    rw long (omega (arith, mul_left_comm n 64 width))

-- the part of the words that is row a has its marks
pub has-row : (words : List ℕ) (width a b from : ℕ) → from ≡ a * width → b < 64 * width → has (take width (drop from words)) b ≡ marked words width a b
has-row words width a b from is b_in =
    let place : (a * (64 * width) + b) / 64 ≡ from + b / 64 = omega (arith, mul_left_comm a 64 width) in
    let bit : b % 64 ≡ (a * (64 * width) + b) % 64 = omega (arith, mul_left_comm a 64 width) in
    let word : b / 64 < width = omega arith in
    has_same_at (take width (drop from words)) words b (a * (64 * width) + b)
    (get_or-take width (drop from words) (b / 64) 0 word ∙ get_or-drop from words (b / 64) 0 ∙ ap (λ i. get_or words i 0) (sym place)) bit

-- the first place of a row is small
pub fits_place : (a width : ℕ) → a < 8192 → width ≤ 128 → a * (64 * width) ≤ 8192 * 8192
fits_place a width a_in narrow = mul-le-mul {n₁ = a} {m₁ = 64 * width} {n₂ = 8192} {m₂ = 8192} (omega arith) (omega arith)

-- the words of a row are few
pub row_narrow : (n width : ℕ) → n ≤ 8192 → width ≡ words_for n → width ≤ 128
row_narrow n width few is = omega (arith, is)

-- so are those of all rows
pub rows_fit : (n width : ℕ) → n ≤ 8192 → width ≡ words_for n → Fits w64 (n * width)
rows_fit n width few is =
    let m = mul-le-mul {n₁ = n} {m₁ = width} {n₂ = 8192} {m₂ = 128} few (row_narrow n width few is) in
    omega (arith, m)

-- there is a bit for each vertex in a row
pub vertex_in_row : (n width a len : ℕ) → width ≡ words_for n → len ≡ width → a < n → a < 64 * len
vertex_in_row n width a len is long a_in = omega (arith, is)

-- and for each two in the words of all rows
pub vertices_in_words : (n width a b len : ℕ) → width ≡ words_for n → len ≡ n * width → a < n → b < n → a * (64 * width) + b < 64 * len
vertices_in_words n width a b len is long a_in b_in = place_in_words n width a b len long a_in (vertex_in_row n width b width is refl b_in)
