-- Counting the numbers below a bound that pass a test.

use Rattle.std.proofs.Common.{◌≡◌, ℕ, zero, suc, ◌+◌, ◌<◌, ◌≤◌, ◌==◌, nat_lt, Bool, true, false, ◌&&◌, not, if◌then◌else◌, refl, ap, ◌∙◌, subst, zero-add, arith}
use Rattle.std.proofs.lemmas.Grind.{common_steps}
use Rattle.graph_theory.specs.Neighbours.{count}

-- the test that leaves j out
abbrev pub without : (ℕ → Bool) → ℕ → ℕ → Bool
without f j v = f v && not (v == j)

-- the count up to one more, where it passes and where not
pub count-pass : (f : ℕ → Bool) (n : ℕ) → f n ≡ true → count f (suc n) ≡ 1 + count f n
count-pass f n is = rw is refl

pub count-fail : (f : ℕ → Bool) (n : ℕ) → f n ≡ false → count f (suc n) ≡ 0 + count f n
count-fail f n is = rw is refl

-- tests that agree below n count alike
pub count-same : (f g : ℕ → Bool) (n : ℕ) → ((v : ℕ) → v < n → f v ≡ g v) → count f n ≡ count g n
count-same f g zero same = refl
count-same f g (suc n) same =
    rw (same n (omega arith)) (ap (λ (c : ℕ). (if g n then 1 else 0) + c) (count-same f g n (λ v v_in. same v (omega arith))))

-- a test that passes no more counts no more
pub count-less : (f g : ℕ → Bool) (n : ℕ) → ((v : ℕ) → v < n → f v ≡ true → g v ≡ true) → count f n ≤ count g n
count-less f g zero less = omega arith
count-less f g (suc n) less = by_cases (f n) (g n) (less n (omega arith)) (count-less f g n (λ v v_in. less v (omega arith)))
  where
    by_cases : (a b : Bool) {x y : ℕ} → (a ≡ true → b ≡ true) → x ≤ y → (if a then 1 else 0) + x ≤ (if b then 1 else 0) + y
    by_cases true true h le = omega arith
    by_cases false b h le = omega arith
    by_cases true false h le = absurd (cc (h refl))

-- a number past the bound leaves the count as it is
count-without_past : (f : ℕ → Bool) (j n : ℕ) → n ≤ j → count (without f j) n ≡ count f n
count-without_past f j n past = count-same (without f j) f n (λ v v_in. grind (arith, common_steps))

-- without one that passes there is one fewer
pub count-without : (f : ℕ → Bool) (j n : ℕ) → j < n → f j ≡ true → count f n ≡ 1 + count (without f j) n
count-without f j zero j_in here = absurd (omega arith)
count-without f j (suc n) j_in here = by_place (λ apart. count-without f j n apart here) (j == n) refl
  where
    by_last : (b : Bool) → f n ≡ b → without f j n ≡ f n → count f n ≡ 1 + count (without f j) n → count f (suc n) ≡ 1 + count (without f j) (suc n)
    by_last true is same rest = omega (arith, count-pass f n is, count-pass (without f j) n (same ∙ is))
    by_last false is same rest = omega (arith, count-fail f n is, count-fail (without f j) n (same ∙ is))

    by_place : (j < n → count f n ≡ 1 + count (without f j) n) → (b : Bool) → (j == n) ≡ b → count f (suc n) ≡ 1 + count (without f j) (suc n)
    by_place below true is =
        let e : j ≡ n = grind (arith, common_steps) in
        let here_n : f n ≡ true = subst (λ (v : ℕ). f v ≡ true) e here in
        let gone : without f j n ≡ false = grind (arith, common_steps) in
        omega (arith, count-pass f n here_n, count-fail (without f j) n gone, count-without_past f j n (omega arith))
    by_place below false is =
        let apart : j < n = grind (arith, common_steps) in
        let same : without f j n ≡ f n = grind (arith, common_steps) in
        by_last (f n) refl same (below apart)

-- another number than the one left out still passes
kept : (g : ℕ → Bool) (i j : ℕ) → g i ≡ true → (i ≡ j → ⊥) → without g j i ≡ true
kept g i j passes other = by_place (i == j) refl
  where
    by_place : (b : Bool) → (i == j) ≡ b → without g j i ≡ true
    by_place true is = absurd (other (grind (arith, common_steps)))
    by_place false is = grind (arith, common_steps)

-- where one passes the count is above 0
pub count_some : (f : ℕ → Bool) (j n : ℕ) → j < n → f j ≡ true → nat_lt 0 (count f n) ≡ true
count_some f j n j_in here =
    let one = count-without f j n j_in here in
    grind (arith, common_steps)

-- where two pass it is above 1
pub count_two : (f : ℕ → Bool) (i j n : ℕ) → i < n → j < n → (i ≡ j → ⊥) → f i ≡ true → f j ≡ true → nat_lt 1 (count f n) ≡ true
count_two f i j n i_in j_in other first second =
    let one = count-without f j n j_in second in
    let more = count-without (without f j) i n i_in (kept f i j first other) in
    grind (arith, common_steps)

-- one that passes, and its place
pub record Passes (f : ℕ → Bool) (n : ℕ) : Type 0 where
  pub at : ℕ
  pub at_in : at < n
  pub passes : f at ≡ true

-- where the count is above 0 one passes
pub some_passes : (f : ℕ → Bool) (n : ℕ) → nat_lt 0 (count f n) ≡ true → Passes f n
some_passes f zero h = absurd (cc h)
some_passes f (suc n) h = by_last (some_passes f n) (f n) refl
  where
    by_last : (nat_lt 0 (count f n) ≡ true → Passes f n) → (b : Bool) → f n ≡ b → Passes f (suc n)
    by_last below true is = record { at = n; at_in = omega arith; passes = is }
    by_last below false is =
        let w = below (subst (λ (k : ℕ). nat_lt 0 k ≡ true) (count-fail f n is ∙ zero-add (count f n)) h) in
        record { at = w.at; at_in = omega (arith, w.at_in); passes = w.passes }

-- where each number that passes has another that passes, and two have two, there are at least as many of these
pub count-injects : (f g : ℕ → Bool) (h : ℕ → ℕ) (n k : ℕ)
    → ((i : ℕ) → i < n → f i ≡ true → (h i < k) × (g (h i) ≡ true))
    → ((i j : ℕ) → i < n → j < n → f i ≡ true → f j ≡ true → h i ≡ h j → i ≡ j) → count f n ≤ count g k
count-injects f g h zero k inside apart = omega arith
count-injects f g h (suc n) k inside apart =
    by_first (λ e more. count-injects f e h n k more (λ i j i_in j_in. apart i j (omega arith) (omega arith))) (f n) refl
  where
    by_first : ((e : ℕ → Bool) → ((i : ℕ) → i < n → f i ≡ true → (h i < k) × (e (h i) ≡ true)) → count f n ≤ count e k)
        → (b : Bool) → f n ≡ b → count f (suc n) ≤ count g k
    by_first fewer false is = omega (arith, count-fail f n is, fewer g (λ i i_in. inside i (omega arith)))
    by_first fewer true is =
        let last = inside n (omega arith) is in
        let rest : count f n ≤ count (without g (h n)) k = fewer (without g (h n)) (λ i i_in passes.
        let there = inside i (omega arith) passes in
        (there.0, kept g (h i) (h n) there.1 (λ e. omega (arith, apart i n (omega arith) (omega arith) passes is e)))) in
        omega (arith, count-pass f n is, count-without g (h n) k last.0 last.1)
