-- Counts: one more where one number more passes.

use Rattle.std.proofs.Common.{◌≡◌, ℕ, ◌+◌, ◌<◌, zero, suc, Bool, true, false, if◌then◌else◌, sym, arith, inl, inr, ◌⊎◌}
use Rattle.std.proofs.lemmas.Bool.{cases_eq}
use Rattle.graph_theory.specs.Neighbours.{count}
use Rattle.graph_theory.proofs.Counts.{count-same}

-- a test that passes b besides counts one more
pub count_more : (f g : ℕ → Bool) (n b : ℕ) → b < n → f b ≡ false → g b ≡ true → ((k : ℕ) → k < n → (k ≡ b → ⊥) → g k ≡ f k) → count g n ≡ count f n + 1
count_more f g zero b b_in off on same = absurd (omega arith)
count_more f g (suc n) b b_in off on same =
    by (λ b_below. count_more f g n b b_below off on (λ k k_in apart. same k (omega arith) apart)) (cases_eq b n)
  where
    by : (b < n → count g n ≡ count f n + 1) → (b ≡ n) ⊎ (b ≡ n → ⊥) → (if g n then 1 else 0) + count g n ≡ (if f n then 1 else 0) + count f n + 1
    by rest_more (inl e) =
        let off_n : f n ≡ false = rw (← e) off in
        let on_n : g n ≡ true = rw (← e) on in
        let rest : count g n ≡ count f n = count-same g f n (λ k k_in. same k (omega arith) (λ h. omega arith)) in
        rw (off_n, on_n, rest) (omega arith)
    by rest_more (inr ne) =
        let e : g n ≡ f n = same n (omega arith) (λ h. ne (sym h)) in
        let rest : count g n ≡ count f n + 1 = rest_more (omega arith) in
        rw (e, rest) (omega arith)
