-- Counting and listing the numbers that pass a test.
use Rattle.std.proofs.Common.{◌≡◌, ℕ, ◌+◌, ◌-◌, ◌<◌, ◌≤◌, zero, suc, Bool, true, false, cond, ◌&&◌, not, [], ◌∷◌, ◌++◌, length, map, refl, sym, ap, ◌∙◌, arith, length-append, append_assoc, add-zero, add-suc}
use Rattle.std.proofs.lemmas.List.{map-append, append-nil}
use Rattle.graph_theory.specs.Neighbours.{count, members}

-- tests that agree below n count the same
pub count_same : (f g : ℕ → Bool) (n : ℕ) → ((i : ℕ) → i < n → f i ≡ g i) → count f n ≡ count g n
count_same f g zero same = refl
count_same f g (suc n) same =
    rw (same n (omega arith), count_same f g n (λ i l. same i (omega arith))) refl

-- and list the same
pub members_same : (f g : ℕ → Bool) (n : ℕ) → ((i : ℕ) → i < n → f i ≡ g i) → members f n ≡ members g n
members_same f g zero same = refl
members_same f g (suc n) same =
    rw (same n (omega arith), members_same f g n (λ i l. same i (omega arith))) refl

-- each passes the second test or fails it
split-by : (a b : Bool) → cond a 1 0 ≡ cond (a && b) 1 0 + cond (a && not b) 1 0
split-by true true = refl
split-by true false = refl
split-by false b = refl

pub count_split : (f g : ℕ → Bool) (n : ℕ) → count f n ≡ count (λ i. f i && g i) n + count (λ i. f i && not (g i)) n
count_split f g zero = refl
count_split f g (suc n) = omega (arith, count_split f g n, split-by (f n) (g n))

-- no number passes
pub count_none : (f : ℕ → Bool) (n : ℕ) → ((i : ℕ) → i < n → f i ≡ false) → count f n ≡ 0
count_none f zero none = refl
count_none f (suc n) none = rw (none n (omega arith)) (omega (arith, count_none f n (λ i l. none i (omega arith))))

pub members_none : (f : ℕ → Bool) (n : ℕ) → ((i : ℕ) → i < n → f i ≡ false) → members f n ≡ []
members_none f zero none = refl
members_none f (suc n) none =
    rw (none n (omega arith)) (append-nil _ ∙ members_none f n (λ i l. none i (omega arith)))

length-cond : (b : Bool) (n : ℕ) → length (cond b (n ∷ []) []) ≡ cond b 1 0
length-cond true n = refl
length-cond false n = refl

-- as many are listed as are counted
pub length-members : (f : ℕ → Bool) (n : ℕ) → length (members f n) ≡ count f n
length-members f zero = refl
length-members f (suc n) =
    omega (arith, length-append (members f n) (cond (f n) (n ∷ []) []), length-cond (f n) n, length-members f n)

pub count_within : (f : ℕ → Bool) (n : ℕ) → count f n ≤ n
count_within f zero = omega arith
count_within f (suc n) = by (f n) (count_within f n)
  where
    by : (b : Bool) → count f n ≤ n → cond b 1 0 + count f n ≤ suc n
    by true h = omega arith
    by false h = omega arith

-- the numbers below a + n are those below a and then n more
pub count_add : (f : ℕ → Bool) (a n : ℕ) → count f (a + n) ≡ count f a + count (λ i. f (a + i)) n
count_add f a zero = ap (count f) (add-zero a) ∙ sym (add-zero (count f a))
count_add f a (suc n) = rw (add-suc a n) (omega (arith, count_add f a n))

map-cond : (a n : ℕ) (b : Bool) → cond b ((a + n) ∷ []) [] ≡ map (λ i. a + i) (cond b (n ∷ []) [])
map-cond a n true = refl
map-cond a n false = refl

pub members_add : (f : ℕ → Bool) (a n : ℕ) → members f (a + n) ≡ members f a ++ map (λ i. a + i) (members (λ i. f (a + i)) n)
members_add f a zero = rw add-zero (sym (append-nil (members f a)))
members_add f a (suc n) =
    rw (add-suc a n, members_add f a n, map-append, append_assoc, map-cond a n (f (a + n))) refl

-- nothing passes from a on
pub count_past : (f : ℕ → Bool) (a n : ℕ) → ((i : ℕ) → a ≤ i → f i ≡ false) → count f (a + n) ≡ count f a
count_past f a n none =
    omega (arith, count_add f a n, count_none (λ i. f (a + i)) n (λ i l. none (a + i) (omega arith)))

pub members_past : (f : ℕ → Bool) (a n : ℕ) → ((i : ℕ) → a ≤ i → f i ≡ false) → members f (a + n) ≡ members f a
members_past f a n none =
    members_add f a n ∙ rw (members_none (λ i. f (a + i)) n (λ i l. none (a + i) (omega arith))) (append-nil (members f a))

-- the first number that passes stands in front of the others
pub members_first : (f g : ℕ → Bool) (b n : ℕ) → f b ≡ true → g b ≡ false → ((i : ℕ) → i < b → f i ≡ false)
    → ((i : ℕ) → i < b → g i ≡ false) → ((i : ℕ) → b < i → f i ≡ g i) → members f (suc b + n) ≡ b ∷ members g (suc b + n)
members_first f g b n here gone none none' same =
    let after = map (λ i. suc b + i) (members (λ i. g (suc b + i)) n) in
    let listed : members g (suc b + n) ≡ after = members_add g (suc b) n ∙ rw (gone, members_none g b none') refl in
    rw listed (members_add f (suc b) n
    ∙ rw (here, members_none f b none, members_same (λ i. f (suc b + i)) (λ i. g (suc b + i)) n (λ i l. same (suc b + i) (omega arith))) refl)

-- a stronger test over fewer numbers counts no more
pub count_le : (f g : ℕ → Bool) (n m : ℕ) → n ≤ m → ((i : ℕ) → f i ≡ true → g i ≡ true) → count f n ≤ count g m
count_le f g n m l implies =
    let e : n + (m - n) ≡ m = omega arith in
    let more = ap (count g) (sym e) ∙ count_add g n (m - n) in
    omega (arith, more, below n)
  where
    at-most : (a b : Bool) → (a ≡ true → b ≡ true) → cond a 1 0 ≤ cond b 1 0
    at-most true b h = rw (h refl) (omega arith)
    at-most false b h = omega arith

    below : (k : ℕ) → count f k ≤ count g k
    below zero = omega arith
    below (suc k) = omega (arith, below k, at-most (f k) (g k) (implies k))
