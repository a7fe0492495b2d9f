-- Sums of weights.
use Rattle.std.proofs.Common.{◌≡◌, ℕ, ◌+◌, ◌-◌, ◌*◌, ◌^◌, ◌<◌, ◌≤◌, zero, suc, Bool, true, false, cond, List, length, get_or, refl, ap, arith, inl, inr, ◌⊎◌}
use Rattle.std.proofs.lemmas.Bool.{cases_order}
use Rattle.std.proofs.lemmas.Nat.{pow_pos}
use native.Mathlib.Nat.{pow-le-pow_right}
use Rattle.graph_theory.specs.Neighbours.{count}
use Rattle.bit_rows.specs.BitRows.{has}
use Rattle.biased_choice.specs.Bias.{total, weight, weight_of, total_weight, top_degree, Bias}

pub weight_small : (top degree : ℕ) → weight top degree ≤ 2 ^ 40
weight_small top degree = let l : 40 - (top - degree) ≤ 40 = omega arith in pow-le-pow_right {n = 2} (omega arith) l

pub weight_some : (top degree : ℕ) → 0 < weight top degree
weight_some top degree = pow_pos (40 - (top - degree))

term : (b : Bool) (x most : ℕ) → x ≤ most → cond b x 0 ≤ most
term true x most l = l
term false x most l = omega arith

pub total_small : (f : ℕ → Bool) (w : ℕ → ℕ) (n : ℕ) → ((v : ℕ) → w v ≤ 2 ^ 40) → total f w n ≤ 2 ^ 40 * n
total_small f w zero small = omega arith
total_small f w (suc n) small = omega (arith, total_small f w n small, term (f n) (w n) (2 ^ 40) (small n))

pub total_le : (f : ℕ → Bool) (w : ℕ → ℕ) (a n : ℕ) → total f w a ≤ total f w (a + n)
total_le f w a zero = let e : a + 0 ≡ a = omega arith in omega (arith, ap (total f w) e)
total_le f w a (suc n) = let e : a + suc n ≡ suc (a + n) = omega arith in omega (arith, ap (total f w) e, total_le f w a n)

-- a member's weight comes before the sum below any greater one
pub total_past : (f : ℕ → Bool) (w : ℕ → ℕ) (v u : ℕ) → v < u → f v ≡ true → total f w v + w v ≤ total f w u
total_past f w v u l e =
    let s : suc v + (u - suc v) ≡ u = omega arith in
    let own : total f w (suc v) ≡ total f w v + w v = rw e refl in
    omega (arith, own, total_le f w (suc v) (u - suc v), ap (total f w) s)

-- where one number passes there is some weight
pub total_some : (f : ℕ → Bool) (w : ℕ → ℕ) (n : ℕ) → ((v : ℕ) → 0 < w v) → 0 < count f n → 0 < total f w n
total_some f w zero some h = absurd (omega arith)
total_some f w (suc n) some h = by (f n) refl (total_some f w n some)
  where
    by : (b : Bool) → f n ≡ b → (0 < count f n → 0 < total f w n) → 0 < total f w n + cond (f n) (w n) 0
    by true e more = rw e (omega (arith, some n))
    by false e more = let h' = rw e at h in rw e (omega (arith, more (omega arith)))

pub one_bias : (row degrees : List ℕ) (word v u : ℕ) → Bias row degrees word v → Bias row degrees word u → v ≡ u
one_bias row degrees word v u a b = by (cases_order v u)
  where
    by : (v ≡ u) ⊎ ((v < u) ⊎ (u < v)) → v ≡ u
    by (inl e) = e
    by (inr (inl l)) = absurd (omega (arith, total_past (has row) (weight_of row degrees) v u l a.member, a.upto, b.from))
    by (inr (inr l)) = absurd (omega (arith, total_past (has row) (weight_of row degrees) u v l b.member, b.upto, a.from))

pub small_total : (row degrees : List ℕ) → 64 * length row ≤ 8192 → total_weight row degrees ≤ 2 ^ 53
small_total row degrees l = omega (arith, total_small (has row) (weight_of row degrees) (64 * length row) (λ v. weight_small (top_degree row degrees) (get_or degrees v 0)))
