-- Totals over the numbers that pass a test, and counts of two tests together.
use Rattle.std.proofs.Common.{◌≡◌, ℕ, zero, suc, ◌+◌, ◌*◌, ◌≤◌, ◌<◌, Bool, true, false, not, ◌&&◌, if◌then◌else◌, refl, sym, ap, subst, ◌∙◌, arith, inl, inr, ◌⊎◌}
use Rattle.std.proofs.lemmas.Bool.{cases_eq}
use native.Mathlib.Nat.{suc-mul, zero-mul}
use Rattle.graph_theory.specs.Neighbours.{count}
use Rattle.encoding_theory.specs.Encoding.{every}
use Rattle.encoding_theory.proofs.Counting.{count_some}

-- One where the test passes.
abbrev pub one_if : Bool → ℕ
one_if b = if b then 1 else 0

-- A number where the test passes.
abbrev pub number_if : Bool → ℕ → ℕ
number_if b x = if b then x else 0

-- The total of a measure over the numbers below n that pass.
abbrev pub total_where : (ℕ → Bool) → (ℕ → ℕ) → ℕ → ℕ
total_where test f zero = 0
total_where test f (suc n) = number_if (test n) (f n) + total_where test f n

number_le : (b : Bool) (x y : ℕ) → (b ≡ true → x ≤ y) → number_if b x ≤ number_if b y
number_le true x y h = h refl
number_le false x y h = omega arith

pub total_le : (test : ℕ → Bool) (f g : ℕ → ℕ) (n : ℕ) → ((i : ℕ) → i < n → test i ≡ true → f i ≤ g i) → total_where test f n ≤ total_where test g n
total_le test f g zero h = omega arith
total_le test f g (suc n) h =
    let here = number_le (test n) (f n) (g n) (λ e. h n (omega arith) e) in
    let later = total_le test f g n (λ i low e. h i (omega (arith, low)) e) in
    omega (arith, here, later)

number_same : (b : Bool) (x y : ℕ) → (b ≡ true → x ≡ y) → number_if b x ≡ number_if b y
number_same true x y h = h refl
number_same false x y h = refl

pub total_same : (test : ℕ → Bool) (f g : ℕ → ℕ) (n : ℕ) → ((i : ℕ) → i < n → test i ≡ true → f i ≡ g i) → total_where test f n ≡ total_where test g n
total_same test f g zero h = refl
total_same test f g (suc n) h =
    let here = number_same (test n) (f n) (g n) (λ e. h n (omega arith) e) in
    let later = total_same test f g n (λ i low e. h i (omega (arith, low)) e) in
    omega (arith, here, later)

number_add : (b : Bool) (x y : ℕ) → number_if b (x + y) ≡ number_if b x + number_if b y
number_add true x y = refl
number_add false x y = refl

pub total_add : (test : ℕ → Bool) (f g : ℕ → ℕ) (n : ℕ) → total_where test (λ i. f i + g i) n ≡ total_where test f n + total_where test g n
total_add test f g zero = refl
total_add test f g (suc n) =
    let here = number_add (test n) (f n) (g n) in
    let later = total_add test f g n in
    omega (arith, here, later)

-- The same number for each that passes.
pub total_constant : (test : ℕ → Bool) (x n : ℕ) → total_where test (λ i. x) n ≡ count test n * x
total_constant test x zero = sym (zero-mul x)
total_constant test x (suc n) = by (test n) (total_constant test x n)
  where
    by : (b : Bool) → total_where test (λ i. x) n ≡ count test n * x → number_if b x + total_where test (λ i. x) n ≡ (one_if b + count test n) * x
    by true h = let e = suc-mul (count test n) x in let k : (1 + count test n) * x ≡ suc (count test n) * x = ap (λ (m : ℕ). m * x) (let z : 1 + count test n ≡ suc (count test n) = omega arith in z) in omega (arith, e, h, k)
    by false h = let k : (0 + count test n) * x ≡ count test n * x = ap (λ (m : ℕ). m * x) (let z : 0 + count test n ≡ count test n = omega arith in z) in omega (arith, h, k)

both_if : (b c : Bool) → number_if b (one_if c) ≡ one_if (b && c)
both_if true c = refl
both_if false c = refl

-- The count of two tests together.
pub total_one : (test also : ℕ → Bool) (n : ℕ) → total_where test (λ i. one_if (also i)) n ≡ count (λ i. test i && also i) n
total_one test also zero = refl
total_one test also (suc n) =
    let here = both_if (test n) (also n) in
    let later = total_one test also n in
    omega (arith, here, later)

pub total_zero : (test : ℕ → Bool) (n : ℕ) → total_where test (λ i. 0) n ≡ 0
total_zero test zero = refl
total_zero test (suc n) = let here : number_if (test n) 0 ≡ 0 = elim (test n) as (λ b. number_if b 0 ≡ 0) [ true ↦ refl | false ↦ refl ] in let later = total_zero test n in omega (arith, here, later)

-- Rows first, or columns first.
pub total_swap : (f g : ℕ → Bool) (x : ℕ → ℕ → Bool) (m n : ℕ) → total_where f (λ i. count (λ j. g j && x i j) n) m ≡ total_where g (λ j. count (λ i. f i && x i j) m) n
total_swap f g x zero n = sym (total_zero g n)
total_swap f g x (suc m) n =
    let later = total_swap f g x m n in
    let apart = total_add g (λ j. one_if (f m && x m j)) (λ j. count (λ i. f i && x i j) m) n in
    let here = row (f m) in
    omega (arith, later, apart, here)
  where
    row : (b : Bool) → number_if b (count (λ j. g j && x m j) n) ≡ total_where g (λ j. one_if (b && x m j)) n
    row true = sym (total_one g (x m) n)
    row false = sym (total_zero g n)

-- ---- counts

pub count_same : (f g : ℕ → Bool) (n : ℕ) → ((i : ℕ) → f i ≡ g i) → count f n ≡ count g n
count_same f g zero same = refl
count_same f g (suc n) same = let here = ap one_if (same n) in let later = count_same f g n same in omega (arith, here, later)

pub count_le : (f g : ℕ → Bool) (n : ℕ) → ((i : ℕ) → i < n → f i ≡ true → g i ≡ true) → count f n ≤ count g n
count_le f g zero h = omega arith
count_le f g (suc n) h =
    let here = by (f n) (g n) (h n (omega arith)) in
    let later = count_le f g n (λ i low e. h i (omega (arith, low)) e) in
    omega (arith, here, later)
  where
    by : (b c : Bool) → (b ≡ true → c ≡ true) → one_if b ≤ one_if c
    by true c e = let one : one_if c ≡ 1 = ap one_if (e refl) in omega (arith, one)
    by false c e = omega arith

pub count_none : (f : ℕ → Bool) (n : ℕ) → ((i : ℕ) → i < n → f i ≡ false) → count f n ≡ 0
count_none f zero none = refl
count_none f (suc n) none = let here : one_if (f n) ≡ 0 = ap one_if (none n (omega arith)) in let later = count_none f n (λ i low. none i (omega (arith, low))) in omega (arith, here, later)

-- Where the second test passes at one number alone, the first decides there.
pub count_at : (test also : ℕ → Bool) (n u : ℕ) → u < n → also u ≡ true → ((i : ℕ) → i < n → also i ≡ true → i ≡ u) → count (λ i. test i && also i) n ≡ one_if (test u)
count_at test also zero u low is only = absurd (omega (arith, low))
count_at test also (suc n) u low is only = by (λ lower. count_at test also n u lower is (λ i i_in e. only i (omega (arith, i_in)) e)) (cases_eq u n)
  where
    passed : (b c : Bool) → c ≡ true → one_if (b && c) ≡ one_if b
    passed true true e = refl
    passed false true e = refl
    passed b false e = absurd cc

    failed : (b c : Bool) → c ≡ false → (b && c) ≡ false
    failed true c e = e
    failed false c e = refl

    not_here : (i : ℕ) → i < suc n → (i ≡ u → ⊥) → also i ≡ false
    not_here i i_in other = at (also i) refl
      where
        at : (b : Bool) → also i ≡ b → also i ≡ false
        at true e = absurd (other (only i i_in e))
        at false e = e

    by : (u < n → count (λ i. test i && also i) n ≡ one_if (test u)) → (u ≡ n) ⊎ (u ≡ n → ⊥) → count (λ i. test i && also i) (suc n) ≡ one_if (test u)
    by later (inl same) =
        let here = passed (test n) (also n) (ap also (sym same) ∙ is) in
        let rest = count_none (λ i. test i && also i) n (λ i i_in. failed (test i) (also i) (not_here i (omega (arith, i_in)) (λ (e : i ≡ u). omega (arith, e, same, i_in)))) in
        let e : one_if (test n) ≡ one_if (test u) = ap (λ (v : ℕ). one_if (test v)) (sym same) in
        omega (arith, here, rest, e)
    by later (inr other) =
        let here : one_if (test n && also n) ≡ 0 = ap one_if (failed (test n) (also n) (not_here n (omega arith) (λ (e : n ≡ u). other (sym e)))) in
        let rest = later (omega (arith, low, other)) in
        omega (arith, here, rest)

-- A test splits a count.
pub count_split : (test also : ℕ → Bool) (n : ℕ) → count (λ i. every i && also i) n ≡ count (λ i. test i && also i) n + total_where (λ i. not (test i)) (λ i. one_if (also i)) n
count_split test also zero = refl
count_split test also (suc n) = let here = by (test n) (also n) in let later = count_split test also n in omega (arith, here, later)
  where
    by : (b c : Bool) → one_if c ≡ one_if (b && c) + number_if (not b) (one_if c)
    by true c = omega arith
    by false c = omega arith

both_le : (b c : Bool) → one_if (b && c) ≤ one_if c
both_le true c = omega arith
both_le false true = omega arith
both_le false false = omega arith

pub count_both_le : (test also : ℕ → Bool) (n : ℕ) → count (λ i. test i && also i) n ≤ count (λ i. every i && also i) n
count_both_le test also zero = omega arith
count_both_le test also (suc n) = let here = both_le (test n) (also n) in let later = count_both_le test also n in omega (arith, here, later)

-- Where one number is counted, another test leaves it out or passes there.
pub count_but_one : (test also : ℕ → Bool) (n u : ℕ) → u < n → also u ≡ true → count (λ i. test i && also i) n + 1 ≤ one_if (test u) + count (λ i. every i && also i) n
count_but_one test also zero u low is = absurd (omega arith)
count_but_one test also (suc n) u low is = by (λ lower. count_but_one test also n u lower is) (cases_eq u n)
  where
    by : (u < n → count (λ i. test i && also i) n + 1 ≤ one_if (test u) + count (λ i. every i && also i) n) → (u ≡ n) ⊎ (u ≡ n → ⊥)
        → count (λ i. test i && also i) (suc n) + 1 ≤ one_if (test u) + count (λ i. every i && also i) (suc n)
    by later (inl same) =
        let here : one_if (also n) ≡ 1 = ap one_if (ap also (sym same) ∙ is) in
        let both : one_if (test n && also n) ≤ one_if (test u) = subst (λ (v : ℕ). one_if (test n && also n) ≤ one_if (test v)) (sym same) (left (test n) (also n)) in
        let rest = count_both_le test also n in
        omega (arith, here, both, rest)
      where
        left : (b c : Bool) → one_if (b && c) ≤ one_if b
        left true true = omega arith
        left true false = omega arith
        left false c = omega arith
    by later (inr other) =
        let rest = later (omega (arith, low, other)) in
        let here = both_le (test n) (also n) in
        omega (arith, rest, here)

-- Where one number alone passes, it is what is counted.
pub only_one : (test also : ℕ → Bool) (n m : ℕ) → m < n → test m ≡ true → count test n ≡ 1 → count (λ i. test i && also i) n ≡ one_if (also m)
only_one test also zero m low passes one = absurd (omega arith)
only_one test also (suc n) m low passes one = by (λ lower left. only_one test also n m lower passes left) (cases_eq m n)
  where
    first : (b : Bool) → b ≡ true → (c : Bool) → one_if (b && c) ≡ one_if c
    first true e c = refl
    first false e c = absurd cc

    none : (k : ℕ) → count test k ≡ 0 → count (λ i. test i && also i) k ≡ 0
    none zero z = refl
    none (suc k) z =
        let later = none k (omega (arith, z)) in
        let here : one_if (test k && also k) ≤ one_if (test k) = left (test k) (also k) in
        omega (arith, z, later, here)
      where
        left : (b c : Bool) → one_if (b && c) ≤ one_if b
        left true true = omega arith
        left true false = omega arith
        left false c = omega arith

    by : (m < n → count test n ≡ 1 → count (λ i. test i && also i) n ≡ one_if (also m)) → (m ≡ n) ⊎ (m ≡ n → ⊥) → count (λ i. test i && also i) (suc n) ≡ one_if (also m)
    by later (inl same) =
        let is : test n ≡ true = ap test (sym same) ∙ passes in
        let here : one_if (test n) ≡ 1 = ap one_if is in
        let both = first (test n) is (also n) in
        let rest = none n (omega (arith, one, here)) in
        let e : one_if (also n) ≡ one_if (also m) = ap (λ (v : ℕ). one_if (also v)) (sym same) in
        omega (arith, both, rest, e)
    by later (inr other) =
        let lower : m < n = omega (arith, low, other) in
        let some = count_some test n m lower passes in
        let none_here : one_if (test n) ≡ 0 = omega (arith, one, some) in
        let here = both_first (test n) (also n) none_here in
        let rest = later lower (omega (arith, one, none_here)) in
        omega (arith, here, rest)
      where
        both_first : (b c : Bool) → one_if b ≡ 0 → one_if (b && c) ≡ 0
        both_first true c e = absurd (omega (arith, e))
        both_first false c e = refl

-- ---- where two numbers pass

some_two : (test : ℕ → Bool) (n k m : ℕ) → k < m → m < n → test k ≡ true → test m ≡ true → 2 ≤ count test n
some_two test zero k m order low first second = absurd (omega (arith, low))
some_two test (suc n) k m order low first second = by (λ lower. some_two test n k m order lower first second) (cases_eq m n)
  where
    by : (m < n → 2 ≤ count test n) → (m ≡ n) ⊎ (m ≡ n → ⊥) → 2 ≤ count test (suc n)
    by later (inl same) =
        let here : one_if (test n) ≡ 1 = ap one_if (ap test (sym same) ∙ second) in
        let some = count_some test n k (omega (arith, order, same)) first in
        omega (arith, here, some)
    by later (inr other) = let h = later (omega (arith, low, other)) in omega (arith, h)

both_is : (b : Bool) → one_if b ≡ 1 → (c : Bool) → one_if (b && c) ≡ one_if c
both_is true e c = refl
both_is false e c = absurd (omega (arith, e))

both_none : (b : Bool) → one_if b ≡ 0 → (c : Bool) → one_if (b && c) ≡ 0
both_none true e c = absurd (omega (arith, e))
both_none false e c = refl

-- Where two numbers alone pass, these are what is counted.
pub only_two : (test also : ℕ → Bool) (n k m : ℕ) → k < m → m < n → test k ≡ true → test m ≡ true → count test n ≡ 2 → count (λ i. test i && also i) n ≡ one_if (also k) + one_if (also m)
only_two test also zero k m order low first second two = absurd (omega (arith, low))
only_two test also (suc n) k m order low first second two = by (λ lower left. only_two test also n k m order lower first second left) (cases_eq m n)
  where
    by : (m < n → count test n ≡ 2 → count (λ i. test i && also i) n ≡ one_if (also k) + one_if (also m)) → (m ≡ n) ⊎ (m ≡ n → ⊥)
        → count (λ i. test i && also i) (suc n) ≡ one_if (also k) + one_if (also m)
    by later (inl same) =
        let here : one_if (test n) ≡ 1 = ap one_if (ap test (sym same) ∙ second) in
        let both = both_is (test n) here (also n) in
        let rest = only_one test also n k (omega (arith, order, same)) first (omega (arith, two, here)) in
        let e : one_if (also n) ≡ one_if (also m) = ap (λ (v : ℕ). one_if (also v)) (sym same) in
        omega (arith, both, rest, e)
    by later (inr other) =
        let lower : m < n = omega (arith, low, other) in
        let some = some_two test n k m order lower first second in
        let none : one_if (test n) ≡ 0 = omega (arith, two, some) in
        let here = both_none (test n) none (also n) in
        let rest = later lower (omega (arith, two, none)) in
        omega (arith, here, rest)
