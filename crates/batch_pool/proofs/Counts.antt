-- How often numbers stand in lists, and sums over passes.
use Rattle.std.proofs.Common.{◌≡◌, ◌≢◌, ℕ, zero, suc, ◌+◌, ◌<◌, ◌≤◌, ◌==◌, cond, not, List, [], ◌∷◌, ◌++◌, length, set, refl, sym, ap, arith}
use mathlib.Core.Option.{some, some-injective, some-ne-none}
use lib.ListN.{get_elem?}
use Rattle.std.specs.List.{filter, sum_by}
use Rattle.std.proofs.lemmas.Bool.Decides.{nat_tests}
use Rattle.std.proofs.lemmas.List.Sums.{sum_by-cons, sum_by-append, sum_by_push}
use Rattle.batch_pool.specs.Rule.{times, once_below}

-- one where the numbers are the same, and else none
abbrev pub one_if : ℕ → ℕ → ℕ
one_if y x = cond (y == x) 1 0

pub times-cons : (x y : ℕ) (ys : List ℕ) → times x (y ∷ ys) ≡ one_if y x + times x ys
times-cons x y ys = sum_by-cons (λ z. one_if z x) y ys

pub times-append : (x : ℕ) (xs ys : List ℕ) → times x (xs ++ ys) ≡ times x xs + times x ys
times-append x xs ys = sum_by-append (λ z. one_if z x) xs ys

pub times_push : (x : ℕ) (xs : List ℕ) (y : ℕ) → times x (xs ++ y ∷ []) ≡ times x xs + one_if y x
times_push x xs y = sum_by_push (λ z. one_if z x) xs y

pub one_if_same : (y x : ℕ) → y ≡ x → one_if y x ≡ 1
one_if_same y x e = grind (arith, nat_tests)

pub one_if_else : (y x : ℕ) → y ≢ x → one_if y x ≡ 0
one_if_else y x n = grind (arith, nat_tests)

pub once_more : (n x : ℕ) → once_below (n + 1) x ≡ once_below n x + one_if n x
once_more n x = grind (arith, nat_tests)

pub once_in : (n x : ℕ) → x < n → once_below n x ≡ 1
once_in n x h = grind (arith, nat_tests)

pub once_out : (n x : ℕ) → n ≤ x → once_below n x ≡ 0
once_out n x h = grind (arith, nat_tests)

pub once_from : (n x : ℕ) → 0 < once_below n x → x < n
once_from n x h = grind (arith, nat_tests)

pub once_at_most : (n x : ℕ) → once_below n x ≤ 1
once_at_most n x = grind (arith, nat_tests)

-- a list in which each number below n stands at most once, and no other, has at most n numbers
others : ℕ → List ℕ → List ℕ
others m xs = filter (λ y. not (y == m)) xs

times-others : (m x : ℕ) (xs : List ℕ) → times x (others m xs) + cond (m == x) (times x xs) 0 ≡ times x xs
unfolding others
times-others m x [] = grind (arith, nat_tests)
times-others m x (y ∷ ys) = grind (arith, nat_tests, times-others m x ys, times-cons x y ys, times-cons x y (others m ys))

length-others : (m : ℕ) (xs : List ℕ) → length xs ≡ length (others m xs) + times m xs
unfolding others
length-others m [] = refl
length-others m (y ∷ ys) = grind (arith, nat_tests, length-others m ys, times-cons m y ys)

none_left : (xs : List ℕ) → ((x : ℕ) → times x xs ≤ 0) → length xs ≡ 0
none_left [] h = refl
none_left (y ∷ ys) h = let a = h y in let b = times-cons y y ys in let e = one_if_same y y refl in absurd (omega arith)

pub length_below : (n : ℕ) (xs : List ℕ) → ((x : ℕ) → times x xs ≤ once_below n x) → length xs ≤ n
length_below zero xs h = let e : length xs ≡ 0 = none_left xs (λ x. let a = h x in let b = once_out 0 x (omega arith) in omega arith) in omega arith
length_below (suc n) xs h =
    let less : (x : ℕ) → times x (others n xs) ≤ once_below n x = λ x.
    let a = h x in let b = times-others n x xs in let c = once_more n x in grind (arith, nat_tests) in
    let k = length_below n (others n xs) less in
    let l = length-others n xs in
    let a = h n in
    let b = once_at_most (suc n) n in
    omega arith

-- the sum over a list of passes
module _ {A : Type 0} (f : A → ℕ) where
  pub sum_set : (xs : List A) (i : ℕ) (a b : A) → get_elem? xs i ≡ some a → sum_by f (set xs i b) + f a ≡ sum_by f xs + f b
  sum_set [] i a b at = absurd (some-ne-none a (sym at))
  sum_set (x ∷ xs) zero a b at =
      let e : x ≡ a = some-injective x a at in
      let k : f x ≡ f a = ap f e in
      let p = sum_by-cons f x xs in let q = sum_by-cons f b xs in omega arith
  sum_set (x ∷ xs) (suc i) a b at =
      let r = sum_set xs i a b at in
      let p = sum_by-cons f x xs in let q = sum_by-cons f x (set xs i b) in omega arith

  pub sum_at : (xs : List A) (i : ℕ) (a : A) → get_elem? xs i ≡ some a → f a ≤ sum_by f xs
  sum_at [] i a at = absurd (some-ne-none a (sym at))
  sum_at (x ∷ xs) zero a at = let k : f x ≡ f a = ap f (some-injective x a at) in let p = sum_by-cons f x xs in omega arith
  sum_at (x ∷ xs) (suc i) a at = let r = sum_at xs i a at in let p = sum_by-cons f x xs in omega arith

-- where no pass has a part, a sum of what is 0 of a pass without parts is 0
module _ {A : Type 0} (parts f : A → ℕ) where
  sum_idle : (xs : List A) → ((i : ℕ) (a : A) → get_elem? xs i ≡ some a → parts a ≡ 0 → f a ≡ 0) → sum_by parts xs ≡ 0 → sum_by f xs ≡ 0
  sum_idle [] idle e = refl
  sum_idle (x ∷ xs) idle e =
      let p = sum_by-cons parts x xs in let q = sum_by-cons f x xs in
      let z : f x ≡ 0 = idle 0 x refl (omega arith) in
      let r = sum_idle xs (λ i a at. idle (suc i) a at) (omega arith) in omega arith

  -- where one pass has all parts, such a sum is that pass's own
  pub sum_alone : (xs : List A) (i : ℕ) (a : A) → get_elem? xs i ≡ some a → ((j : ℕ) (b : A) → get_elem? xs j ≡ some b → parts b ≡ 0 → f b ≡ 0) → sum_by parts xs ≡ parts a → sum_by f xs ≡ f a
  sum_alone [] i a at idle e = absurd (some-ne-none a (sym at))
  sum_alone (x ∷ xs) zero a at idle e =
      let s : x ≡ a = some-injective x a at in
      let k : f x ≡ f a = ap f s in let l : parts x ≡ parts a = ap parts s in
      let p = sum_by-cons parts x xs in let q = sum_by-cons f x xs in
      let r = sum_idle xs (λ j b there. idle (suc j) b there) (omega arith) in omega arith
  sum_alone (x ∷ xs) (suc i) a at idle e =
      let p = sum_by-cons parts x xs in let q = sum_by-cons f x xs in
      let m = sum_at parts xs i a at in
      let z : f x ≡ 0 = idle 0 x refl (omega arith) in
      let r = sum_alone xs i a at (λ j b there. idle (suc j) b there) (omega arith) in omega arith
