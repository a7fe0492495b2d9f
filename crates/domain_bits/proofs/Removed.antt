-- Membership after removals.
use Rattle.std.proofs.Common.{◌≡◌, ℕ, ◌+◌, ◌-◌, ◌<◌, ◌≤◌, zero, suc, Bool, true, false, cond, eqb, ltb, ◌&&◌, not, List, [], ◌∷◌, ◌++◌, length, map, refl, sym, ap, ◌∙◌, arith, zero-add, add-zero, inl, inr, ◌⊎◌}
use Rattle.std.proofs.lemmas.List.{map-append, length-map}
use Rattle.std.proofs.lemmas.Bool.{eq-eqb, ne_eqb, cases_eq, cases_lt, ltb-true, lt-ltb, and_parts}
use Rattle.std.proofs.lemmas.Bool.Decides.{nat_tests}
use Rattle.graph_theory.specs.Neighbours.{count, members}
use Rattle.domain_bits.specs.Removals.{State, times, in_domain, size_of, at_vertex, without_all}
use Rattle.bit_rows.proofs.Passing.{count_same, count_split, count_past}

pub times-append : (xs ys : List (ℕ × ℕ)) (p t : ℕ) → times (xs ++ ys) p t ≡ times xs p t + times ys p t
times-append [] ys p t = sym (zero-add (times ys p t))
times-append (x ∷ xs) ys p t = omega (arith, times-append xs ys p t)

pub length-at_vertex : (p : ℕ) (us : List ℕ) → length (at_vertex p us) ≡ length us
length-at_vertex p us = length-map us (λ u. (p, u))

-- what one more number adds
last-of : (p q t n : ℕ) (b : Bool) → times (map (λ u. (p, u)) (cond b (n ∷ []) [])) q t ≡ cond (eqb p q && (eqb n t && b)) 1 0
last-of p q t n true = by (eqb p q) (eqb n t)
  where
    by : (x y : Bool) → ◌≡◌ {A = ℕ} (cond (x && y) 1 0 + 0) (cond (x && (y && true)) 1 0)
    by true true = refl
    by true false = refl
    by false y = refl
last-of p q t n false = by (eqb p q) (eqb n t)
  where
    by : (x y : Bool) → ◌≡◌ {A = ℕ} 0 (cond (x && (y && false)) 1 0)
    by true true = refl
    by true false = refl
    by false y = refl

-- a listed number stands in the list once
pub times-members : (f : ℕ → Bool) (n p q t : ℕ) → times (at_vertex p (members f n)) q t ≡ cond (eqb p q && (ltb t n && f t)) 1 0
times-members f zero p q t = by (eqb p q)
  where
    by : (x : Bool) → ◌≡◌ {A = ℕ} 0 (cond (x && (ltb t 0 && f t)) 1 0)
    by true = grind (arith, nat_tests)
    by false = refl
times-members f (suc n) p q t =
    rw (map-append, times-append, times-members f n p q t, last-of p q t n (f n)) (by (eqb p q) (cases_eq t n))
  where
    by : (x : Bool) → (t ≡ n) ⊎ (t ≡ n → ⊥) → cond (x && (ltb t n && f t)) 1 0 + cond (x && (eqb n t && f n)) 1 0 ≡ cond (x && (ltb t (suc n) && f t)) 1 0
    by false o = refl
    by true (inl e) = rw e (grind (arith, nat_tests))
    by true (inr ne) = grind (arith, nat_tests)

still-in : (x : ℕ) (inside c : Bool) → (inside && eqb (x + cond c 1 0) 0) ≡ ((inside && eqb x 0) && not c)
still-in x inside true = by inside (eqb x 0)
  where
    gone : eqb (x + 1) 0 ≡ false
    gone = grind (arith, nat_tests)

    by : (i z : Bool) → (i && eqb (x + 1) 0) ≡ ((i && z) && false)
    by true true = gone
    by true false = gone
    by false z = refl
still-in x inside false = rw (add-zero x) (by inside (eqb x 0))
  where
    by : (i z : Bool) → (i && z) ≡ ((i && z) && true)
    by true true = refl
    by true false = refl
    by false z = refl

-- what is left of each domain after the listed values have left that of p
pub in_domain-without : (d : State) (f : ℕ → Bool) (n p q t : ℕ)
    → in_domain (without_all d p (members f n)) q t ≡ (in_domain d q t && not (eqb p q && (ltb t n && f t)))
in_domain-without d f n p q t =
    rw (times-append d.removed (at_vertex p (members f n)) q t, times-members f n p q t)
    (still-in (times d.removed q t) (ltb t d.values) (eqb p q && (ltb t n && f t)))

-- no other domain has changed
pub in_domain-without_other : (d : State) (f : ℕ → Bool) (n p q t : ℕ) → (q ≡ p → ⊥)
    → in_domain (without_all d p (members f n)) q t ≡ in_domain d q t
in_domain-without_other d f n p q t ne =
    in_domain-without d f n p q t ∙ rw (ne_eqb p q (λ e. ne (sym e))) (by (in_domain d q t))
  where
    by : (x : Bool) → (x && true) ≡ x
    by true = refl
    by false = refl

-- of its own the values are gone
pub in_domain-without_own : (d : State) (f : ℕ → Bool) (n p t : ℕ) → ((u : ℕ) → f u ≡ true → u < n)
    → in_domain (without_all d p (members f n)) p t ≡ (in_domain d p t && not (f t))
in_domain-without_own d f n p t below =
    in_domain-without d f n p p t ∙ rw (eq-eqb p p refl) (by (f t) (below t))
  where
    by : (x : Bool) → (x ≡ true → t < n) → (in_domain d p t && not (ltb t n && x)) ≡ (in_domain d p t && not x)
    by true h = rw (lt-ltb t n (h refl)) refl
    by false h = rest (ltb t n)
      where
        rest : (y : Bool) → (in_domain d p t && not (y && false)) ≡ (in_domain d p t && true)
        rest true = refl
        rest false = refl

-- numbers that pass only below both n and m are counted alike
pub count_bounds : (f : ℕ → Bool) (n m : ℕ) → ((u : ℕ) → f u ≡ true → u < n) → ((u : ℕ) → f u ≡ true → u < m) → count f n ≡ count f m
count_bounds f n m below below' = by (cases_lt n m)
  where
    past : (a : ℕ) → ((u : ℕ) → f u ≡ true → u < a) → (i : ℕ) → a ≤ i → f i ≡ false
    past a h i l = pick (f i) refl
      where
        pick : (b : Bool) → f i ≡ b → f i ≡ false
        pick true e = absurd (omega (arith, h i e))
        pick false e = e

    by : (n < m) ⊎ (m ≤ n) → count f n ≡ count f m
    by (inl l) = let e : n + (m - n) ≡ m = omega arith in sym (ap (count f) (sym e) ∙ count_past f n (m - n) (past n below))
    by (inr l) = let e : m + (n - m) ≡ n = omega arith in ap (count f) (sym e) ∙ count_past f m (n - m) (past m below')

absorbed : (a b : Bool) → (b ≡ true → a ≡ true) → (a && b) ≡ b
absorbed true b h = refl
absorbed false true h = h refl
absorbed false false h = refl

-- the sizes before and after
pub size_of-without : (d : State) (f : ℕ → Bool) (n p : ℕ) → ((u : ℕ) → f u ≡ true → u < n) → ((u : ℕ) → f u ≡ true → in_domain d p u ≡ true)
    → size_of d p ≡ count f n + size_of (without_all d p (members f n)) p
size_of-without d f n p below inside =
    let within : (u : ℕ) → f u ≡ true → u < d.values = λ u e. ltb-true u d.values (and_parts _ _ (inside u e)).0 in
    count_split (in_domain d p) f d.values
    ∙ rw (
      count_same (λ i. in_domain d p i && f i) f d.values (λ i l. absorbed (in_domain d p i) (f i) (inside i)),
      count_bounds f d.values n within below,
      count_same (λ i. in_domain d p i && not (f i)) (in_domain (without_all d p (members f n)) p) d.values (λ i l. sym (in_domain-without_own d f n p i below)),
    ) refl
