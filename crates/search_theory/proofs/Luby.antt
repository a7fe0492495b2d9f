-- The Luby sequence: its own recursion, and the sums of the cutoffs.

use Rattle.std.proofs.Common.{◌≡◌, ℕ, zero, suc, ◌+◌, ◌-◌, ◌*◌, ◌^◌, ◌<◌, ◌≤◌, [], ◌∷◌, ◌++◌, length, get_or, refl, sym, ap, ◌∙◌, subst, ◌⊎◌, inl, inr, arith, length-append}
use Rattle.std.proofs.lemmas.List.{get_or_append_left}
use Rattle.std.proofs.lemmas.Bool.{cases_lt}
use Rattle.std.proofs.lemmas.Nat.{pow_pos}
use Rattle.std.proofs.Math.Nat.{pow-suc, pow-le-pow_right}
use Rattle.std.proofs.Math.Seq.{get_or-append_seam, get_or-append_right}
use Rattle.search_theory.specs.Bounds.{luby_list, luby, cutoff, earlier, fails_to}

-- a list of the sequence is one shorter than its power of two
pub length-luby_list : (k : ℕ) → length (luby_list k) + 1 ≡ 2 ^ k
length-luby_list zero = refl
length-luby_list (suc k) =
    let l = luby_list k in
    omega (arith, length-append (l ++ l) (2 ^ k ∷ []), length-append l l, length-luby_list k, pow-suc 2 k)

-- a number is below its power of two
pub below_power : (n : ℕ) → n < 2 ^ n
below_power zero = omega arith
below_power (suc n) = omega (arith, below_power n, pow-suc 2 n)

-- a power of two is not below a lesser one
power_mono : (k n : ℕ) → k ≤ n → 2 ^ k ≤ 2 ^ n
power_mono k n h = pow-le-pow_right (omega arith) h

-- a longer list has the terms of a shorter one
pub luby_list_more : (n k j : ℕ) → k ≤ n → j < length (luby_list k) → get_or (luby_list n) j 0 ≡ get_or (luby_list k) j 0
luby_list_more zero k j within inside = let e : 0 ≡ k = omega arith in ap (λ (x : ℕ). get_or (luby_list x) j 0) e
luby_list_more (suc n) k j within inside = by_case (cases_lt n k) (λ h. luby_list_more n k j h inside)
  where
    by_case : (n < k) ⊎ (k ≤ n) → (k ≤ n → get_or (luby_list n) j 0 ≡ get_or (luby_list k) j 0) → get_or (luby_list (suc n)) j 0 ≡ get_or (luby_list k) j 0
    by_case (inl h) _ = let e : suc n ≡ k = omega arith in ap (λ (x : ℕ). get_or (luby_list x) j 0) e
    by_case (inr h) more =
        let l = luby_list n in
        let shorter : length (luby_list k) ≤ length l = omega (arith, length-luby_list k, length-luby_list n, power_mono k n h) in
        let one : j < length l = omega arith in
        let two : j < length (l ++ l) = omega (arith, length-append l l) in
        get_or_append_left (l ++ l) (2 ^ n ∷ []) 0 j two ∙ get_or_append_left l l 0 j one ∙ more h

-- term i stands at place i - 1 of each list that is long enough
pub luby_at : (k i : ℕ) → 1 ≤ i → i < 2 ^ k → luby i ≡ get_or (luby_list k) (i - 1) 0
luby_at k i low high = by_case (cases_lt k i)
  where
    in_own : i - 1 < length (luby_list i)
    in_own = omega (arith, length-luby_list i, below_power i)

    in_list : i - 1 < length (luby_list k)
    in_list = omega (arith, length-luby_list k)

    by_case : (k < i) ⊎ (i ≤ k) → luby i ≡ get_or (luby_list k) (i - 1) 0
    by_case (inl h) = luby_list_more i k (i - 1) (omega arith) in_list
    by_case (inr h) = sym (luby_list_more k i (i - 1) h in_own)

-- the last term of a list is its power of two
pub luby_power : (k : ℕ) → luby (2 ^ suc k - 1) ≡ 2 ^ k
luby_power k =
    let l = luby_list k in
    let at : length (l ++ l) ≡ 2 ^ suc k - 1 - 1 = omega (arith, length-append l l, length-luby_list k, pow-suc 2 k) in
    luby_at (suc k) (2 ^ suc k - 1) (omega (arith, pow-suc 2 k, pow_pos k)) (omega (arith, pow_pos (suc k)))
    ∙ ap (λ (j : ℕ). get_or (luby_list (suc k)) j 0) (sym at)
    ∙ get_or-append_seam (l ++ l) (2 ^ k) [] 0

-- from a power of two on the sequence begins again
pub luby_repeat : (k i : ℕ) → 2 ^ k ≤ i → i < 2 ^ suc k - 1 → luby i ≡ luby (i - 2 ^ k + 1)
luby_repeat k i low high =
    let l = luby_list k in
    let inside : i - 1 < length (l ++ l) = omega (arith, length-append l l, length-luby_list k, pow-suc 2 k) in
    let past : length l ≤ i - 1 = omega (arith, length-luby_list k) in
    let place : i - 1 - length l ≡ i - 2 ^ k + 1 - 1 = omega (arith, length-luby_list k) in
    luby_at (suc k) i (omega (arith, pow_pos k)) (omega arith)
    ∙ get_or_append_left (l ++ l) (2 ^ k ∷ []) 0 (i - 1) inside
    ∙ get_or-append_right l l (i - 1) 0 past
    ∙ ap (λ (j : ℕ). get_or l j 0) place
    ∙ sym (luby_at k (i - 2 ^ k + 1) (omega arith) (omega (arith, pow-suc 2 k)))

-- each term of a list is positive
terms_pos : (k j : ℕ) → j < length (luby_list k) → 1 ≤ get_or (luby_list k) j 0
terms_pos zero j inside = absurd (omega arith)
terms_pos (suc k) j inside = by_case (cases_lt j (length (luby_list k ++ luby_list k))) (λ i i_in. terms_pos k i i_in)
  where
    by_half : (j < length (luby_list k)) ⊎ (length (luby_list k) ≤ j) → j < length (luby_list k ++ luby_list k)
        → ((i : ℕ) → i < length (luby_list k) → 1 ≤ get_or (luby_list k) i 0) → 1 ≤ get_or (luby_list k ++ luby_list k) j 0
    by_half (inl h) _ each = subst (λ (x : ℕ). 1 ≤ x) (sym (get_or_append_left (luby_list k) (luby_list k) 0 j h)) (each j h)
    by_half (inr h) in_both each =
        subst (λ (x : ℕ). 1 ≤ x) (sym (get_or-append_right (luby_list k) (luby_list k) j 0 h))
        (each (j - length (luby_list k)) (omega (arith, length-append (luby_list k) (luby_list k))))

    by_case : (j < length (luby_list k ++ luby_list k)) ⊎ (length (luby_list k ++ luby_list k) ≤ j)
        → ((i : ℕ) → i < length (luby_list k) → 1 ≤ get_or (luby_list k) i 0) → 1 ≤ get_or ((luby_list k ++ luby_list k) ++ 2 ^ k ∷ []) j 0
    by_case (inl h) each =
        subst (λ (x : ℕ). 1 ≤ x) (sym (get_or_append_left (luby_list k ++ luby_list k) (2 ^ k ∷ []) 0 j h)) (by_half (cases_lt j (length (luby_list k))) h each)
    by_case (inr h) each =
        let l2 = luby_list k ++ luby_list k in
        let e : length l2 ≡ j = omega (arith, length-append l2 (2 ^ k ∷ [])) in
        subst (λ (x : ℕ). 1 ≤ x) (sym (get_or-append_seam l2 (2 ^ k) [] 0) ∙ ap (λ (x : ℕ). get_or (l2 ++ 2 ^ k ∷ []) x 0) e) (omega (arith, pow_pos k))

-- no term is zero
pub luby_pos : (i : ℕ) → 1 ≤ i → 1 ≤ luby i
luby_pos i low = terms_pos i (i - 1) (omega (arith, length-luby_list i, below_power i))

-- each term of a list is at most its place from 1
terms_le : (k j : ℕ) → j < length (luby_list k) → get_or (luby_list k) j 0 ≤ j + 1
terms_le zero j inside = absurd (omega arith)
terms_le (suc k) j inside = by_case (cases_lt j (length (luby_list k ++ luby_list k))) (λ i i_in. terms_le k i i_in)
  where
    by_half : (j < length (luby_list k)) ⊎ (length (luby_list k) ≤ j) → j < length (luby_list k ++ luby_list k)
        → ((i : ℕ) → i < length (luby_list k) → get_or (luby_list k) i 0 ≤ i + 1) → get_or (luby_list k ++ luby_list k) j 0 ≤ j + 1
    by_half (inl h) _ each = subst (λ (x : ℕ). x ≤ j + 1) (sym (get_or_append_left (luby_list k) (luby_list k) 0 j h)) (each j h)
    by_half (inr h) in_both each =
        let here : get_or (luby_list k) (j - length (luby_list k)) 0 ≤ j - length (luby_list k) + 1 = each (j - length (luby_list k)) (omega (arith, length-append (luby_list k) (luby_list k))) in
        let le : get_or (luby_list k) (j - length (luby_list k)) 0 ≤ j + 1 = omega arith in
        subst (λ (x : ℕ). x ≤ j + 1) (sym (get_or-append_right (luby_list k) (luby_list k) j 0 h)) le

    by_case : (j < length (luby_list k ++ luby_list k)) ⊎ (length (luby_list k ++ luby_list k) ≤ j)
        → ((i : ℕ) → i < length (luby_list k) → get_or (luby_list k) i 0 ≤ i + 1) → get_or ((luby_list k ++ luby_list k) ++ 2 ^ k ∷ []) j 0 ≤ j + 1
    by_case (inl h) each =
        subst (λ (x : ℕ). x ≤ j + 1) (sym (get_or_append_left (luby_list k ++ luby_list k) (2 ^ k ∷ []) 0 j h)) (by_half (cases_lt j (length (luby_list k))) h each)
    by_case (inr h) each =
        let l2 = luby_list k ++ luby_list k in
        let e : length l2 ≡ j = omega (arith, length-append l2 (2 ^ k ∷ [])) in
        let le : 2 ^ k ≤ j + 1 = omega (arith, length-append (luby_list k) (luby_list k), length-luby_list k, pow_pos k) in
        subst (λ (x : ℕ). x ≤ j + 1) (sym (get_or-append_seam l2 (2 ^ k) [] 0) ∙ ap (λ (x : ℕ). get_or (l2 ++ 2 ^ k ∷ []) x 0) e) le

-- no term is above its place
pub luby_le : (i : ℕ) → 1 ≤ i → luby i ≤ i
luby_le i low =
    let h : luby i ≤ i - 1 + 1 = terms_le i (i - 1) (omega (arith, length-luby_list i, below_power i)) in
    omega arith

-- ---- sums of cutoffs

-- later runs have had more
pub earlier_mono : (n m : ℕ) → n ≤ m → earlier n ≤ earlier m
earlier_mono n zero h = let e : n ≡ 0 = omega arith in subst (λ (x : ℕ). earlier x ≤ earlier 0) (sym e) (omega arith)
earlier_mono n (suc m) h = by_case (cases_lt m n) (λ g. earlier_mono n m g)
  where
    by_case : (m < n) ⊎ (n ≤ m) → (n ≤ m → earlier n ≤ earlier m) → earlier n ≤ earlier (suc m)
    by_case (inl g) _ = let e : n ≡ suc m = omega arith in subst (λ (x : ℕ). earlier x ≤ earlier (suc m)) (sym e) (omega arith)
    by_case (inr g) mono = omega (arith, mono g)

-- and each has had some
pub earlier_least : (n : ℕ) → 128 * n ≤ earlier (suc n)
earlier_least zero = omega arith
earlier_least (suc n) = omega (arith, earlier_least n, luby_pos (suc n) (omega arith))

-- the runs from a power of two on have the cutoffs of the first ones
earlier_block : (k n : ℕ) → n + 1 ≤ 2 ^ k → earlier (2 ^ k + n) ≡ earlier (2 ^ k) + earlier (suc n)
earlier_block k zero h =
    let e : 2 ^ k + 0 ≡ 2 ^ k = omega arith in
    ap earlier e ∙ omega arith
earlier_block k (suc n) h =
    let e : 2 ^ k + suc n ≡ suc (2 ^ k + n) = omega arith in
    let same : luby (2 ^ k + n) ≡ luby (2 ^ k + n - 2 ^ k + 1) = luby_repeat k (2 ^ k + n) (omega arith) (omega (arith, pow-suc 2 k)) in
    let place : 2 ^ k + n - 2 ^ k + 1 ≡ suc n = omega arith in
    let cut : cutoff (2 ^ k + n) ≡ cutoff (suc n) = ap (λ (x : ℕ). 128 * x) (same ∙ ap luby place) in
    let before : earlier (2 ^ k + n) ≡ earlier (2 ^ k) + earlier (suc n) = earlier_block k n (omega arith) in
    ap earlier e ∙ omega arith

-- twice the runs, and the next power of two
earlier_double : (k : ℕ) → earlier (2 ^ suc k) ≡ 2 * earlier (2 ^ k) + 128 * 2 ^ k
earlier_double k =
    let pos : 1 ≤ 2 ^ k = pow_pos k in
    let e : 2 ^ suc k ≡ suc (2 ^ k + (2 ^ k - 1)) = omega (arith, pow-suc 2 k) in
    let s : suc (2 ^ k - 1) ≡ 2 ^ k = omega arith in
    let last : 2 ^ k + (2 ^ k - 1) ≡ 2 ^ suc k - 1 = omega (arith, pow-suc 2 k) in
    let cut : cutoff (2 ^ k + (2 ^ k - 1)) ≡ 128 * 2 ^ k = ap (λ (x : ℕ). 128 * x) (ap luby last ∙ luby_power k) in
    let block : earlier (2 ^ k + (2 ^ k - 1)) ≡ earlier (2 ^ k) + earlier (suc (2 ^ k - 1)) = earlier_block k (2 ^ k - 1) (omega arith) in
    let twice : earlier (suc (2 ^ k - 1)) ≡ earlier (2 ^ k) = ap earlier s in
    ap earlier e ∙ omega arith

-- the cutoffs up to a power of two, together
pub sums : (k : ℕ) → earlier (2 ^ suc k) ≡ fails_to k
sums zero = refl
sums (suc k) = earlier_double (suc k) ∙ step k (2 ^ k) (2 ^ suc k) (earlier (2 ^ suc k)) (pow-suc 2 k) (sums k)
  where
    step : (k w v e : ℕ) → v ≡ w * 2 → e ≡ 128 * ((k + 1) * w) → 2 * e + 128 * v ≡ 128 * ((suc k + 1) * v)
    step k w v e v_is e_is = rw (v_is, e_is) (grind arith)
