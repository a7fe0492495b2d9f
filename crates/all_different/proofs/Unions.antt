-- Prefixes and their unions, one domain after another.
use Rattle.std.proofs.Common.{◌≡◌, ℕ, ◌+◌, ◌<◌, ◌≤◌, zero, suc, Bool, true, false, eqb, ltb, ◌&&◌, ◌||◌, not, refl, sym, ap, ◌∙◌, subst, arith, inl, inr, ◌⊎◌}
use Rattle.std.proofs.lemmas.Bool.{cases_lt, cases_eq, cases_order, and_parts, or_cases, or_left, or_right, and_from, lt-ltb, le-ltb, eqb-true, eq-eqb, ne_eqb}
use Rattle.graph_theory.specs.Neighbours.{count}
use Rattle.domain_bits.specs.Removals.{State, in_domain, size_of}
use Rattle.bit_rows.proofs.Passing.{count_same, count_split, count_none, count_within}
use Rattle.domain_bits.proofs.Sizes.{counted_one}
use Rattle.all_different.specs.Ranks.{rank}
use Rattle.all_different.specs.Prefixes.{any, in_prefix, in_union}
use Rattle.all_different.proofs.Ranking.{rank_one, rank_onto}

pub any_from : (f : ℕ → Bool) (n i : ℕ) → i < n → f i ≡ true → any f n ≡ true
any_from f zero i l e = absurd (omega arith)
any_from f (suc n) i l e = by (cases_eq i n) (any_from f n i)
  where
    by : (i ≡ n) ⊎ (i ≡ n → ⊥) → (i < n → f i ≡ true → any f n ≡ true) → (f n || any f n) ≡ true
    by (inl same) more = or_left (f n) (any f n) (sym (ap f same) ∙ e)
    by (inr ne) more = or_right (f n) (any f n) (more (omega arith) e)

pub any_gives : (f : ℕ → Bool) (n : ℕ) → any f n ≡ true → (i : ℕ) × (i < n) × (f i ≡ true)
any_gives f zero e = cc
any_gives f (suc n) e = by (or_cases (f n) (any f n) e) (any_gives f n)
  where
    by : (f n ≡ true) ⊎ (any f n ≡ true) → (any f n ≡ true → (i : ℕ) × (i < n) × (f i ≡ true)) → (i : ℕ) × (i < suc n) × (f i ≡ true)
    by (inl h) more = (n, omega arith, h)
    by (inr h) more = let r = more h in (r.0, omega (arith, r.1), r.2)

pub same_tests : (a b : Bool) → (a ≡ true → b ≡ true) → (b ≡ true → a ≡ true) → a ≡ b
same_tests true b there back = sym (there refl)
same_tests false true there back = back refl
same_tests false false there back = refl

pub size_below : (d : State) (p : ℕ) → size_of d p < d.values + 1
size_below d p = omega (arith, count_within (in_domain d p) d.values)

-- the first k + 1 are the first k and the one of rank k
pub prefix_more : (d : State) (k q : ℕ) → q < d.vertices → rank (size_of d) d.vertices q ≡ k → (p : ℕ) → in_prefix d (suc k) p ≡ (in_prefix d k p || eqb p q)
prefix_more d k q lq e p = by (cases_lt p d.vertices)
  where
    r : ℕ → ℕ
    r = rank (size_of d) d.vertices

    by : (p < d.vertices) ⊎ (d.vertices ≤ p) → in_prefix d (suc k) p ≡ (in_prefix d k p || eqb p q)
    by (inr h) = rw (le-ltb p d.vertices h, ne_eqb p q (λ f. omega arith)) refl
    by (inl h) = rw (lt-ltb p d.vertices h) (order (cases_order (rank (size_of d) d.vertices p) k))
      where
        order : (rank (size_of d) d.vertices p ≡ k) ⊎ ((rank (size_of d) d.vertices p < k) ⊎ (k < rank (size_of d) d.vertices p))
            → (true && ltb (rank (size_of d) d.vertices p) (suc k)) ≡ ((true && ltb (rank (size_of d) d.vertices p) k) || eqb p q)
        order (inl s) = rw (
          lt-ltb (rank (size_of d) d.vertices p) (suc k) (omega arith),
          le-ltb (rank (size_of d) d.vertices p) k (omega arith),
          eq-eqb p q (rank_one (size_of d) d.vertices p q h lq (s ∙ sym e)),
        ) refl
        order (inr (inl s)) = rw (lt-ltb (rank (size_of d) d.vertices p) (suc k) (omega arith), lt-ltb (rank (size_of d) d.vertices p) k s) refl
        order (inr (inr s)) = rw (
          le-ltb (rank (size_of d) d.vertices p) (suc k) s,
          le-ltb (rank (size_of d) d.vertices p) k (omega arith),
          ne_eqb p q (λ f. omega (arith, ap (rank (size_of d) d.vertices) f, e)),
        ) refl

pub prefix_none : (d : State) (p : ℕ) → in_prefix d 0 p ≡ false
prefix_none d p = rw (le-ltb (rank (size_of d) d.vertices p) 0 (omega arith)) (by (ltb p d.vertices))
  where
    by : (b : Bool) → (b && false) ≡ false
    by true = refl
    by false = refl

-- the union of the first k + 1 is that of the first k and the domain of rank k
pub union_more : (d : State) (k q : ℕ) → q < d.vertices → rank (size_of d) d.vertices q ≡ k → (t : ℕ) → in_union d (suc k) t ≡ (in_union d k t || in_domain d q t)
union_more d k q lq e t = same_tests (in_union d (suc k) t) (in_union d k t || in_domain d q t) there back
  where
    there : in_union d (suc k) t ≡ true → (in_union d k t || in_domain d q t) ≡ true
    there h =
        let g = any_gives (λ p. in_prefix d (suc k) p && in_domain d p t) d.vertices h in
        let parts = and_parts (in_prefix d (suc k) g.0) (in_domain d g.0 t) g.2 in
        by g.0 g.1 (or_cases (in_prefix d k g.0) (eqb g.0 q) (sym (prefix_more d k q lq e g.0) ∙ parts.0)) parts.1
      where
        by : (p : ℕ) → p < d.vertices → (in_prefix d k p ≡ true) ⊎ (eqb p q ≡ true) → in_domain d p t ≡ true → (in_union d k t || in_domain d q t) ≡ true
        by p lp (inl a) b = or_left (in_union d k t) (in_domain d q t) (any_from (λ i. in_prefix d k i && in_domain d i t) d.vertices p lp (and_from (in_prefix d k p) (in_domain d p t) a b))
        by p lp (inr a) b = or_right (in_union d k t) (in_domain d q t) (subst (λ i. in_domain d i t ≡ true) (eqb-true p q a) b)

    back : (in_union d k t || in_domain d q t) ≡ true → in_union d (suc k) t ≡ true
    back h = by (or_cases (in_union d k t) (in_domain d q t) h)
      where
        by : (in_union d k t ≡ true) ⊎ (in_domain d q t ≡ true) → in_union d (suc k) t ≡ true
        by (inl a) =
            let g = any_gives (λ p. in_prefix d k p && in_domain d p t) d.vertices a in
            let parts = and_parts (in_prefix d k g.0) (in_domain d g.0 t) g.2 in
            any_from (λ p. in_prefix d (suc k) p && in_domain d p t) d.vertices g.0 g.1
            (and_from (in_prefix d (suc k) g.0) (in_domain d g.0 t) (prefix_more d k q lq e g.0 ∙ or_left (in_prefix d k g.0) (eqb g.0 q) parts.0) parts.1)
        by (inr a) = any_from (λ p. in_prefix d (suc k) p && in_domain d p t) d.vertices q lq
            (and_from (in_prefix d (suc k) q) (in_domain d q t) (prefix_more d k q lq e q ∙ or_right (in_prefix d k q) (eqb q q) (eq-eqb q q refl)) a)

-- the first n are n
pub count_prefix : (d : State) (n : ℕ) → n ≤ d.vertices → count (in_prefix d n) d.vertices ≡ n
count_prefix d zero l = count_none (in_prefix d 0) d.vertices (λ i h. prefix_none d i)
count_prefix d (suc k) l = add (rank_onto (size_of d) d.vertices (d.values + 1) k (λ q h. size_below d q) (omega arith)) (count_prefix d k)
  where
    add : (q : ℕ) × (q < d.vertices) × (rank (size_of d) d.vertices q ≡ k) → (k ≤ d.vertices → count (in_prefix d k) d.vertices ≡ k) → count (in_prefix d (suc k)) d.vertices ≡ suc k
    add found more =
        let q = found.0 in
        let own : in_prefix d k q ≡ false = rw (le-ltb (rank (size_of d) d.vertices q) k (omega (arith, found.2))) (none (ltb q d.vertices)) in
        let new : in_prefix d (suc k) q ≡ true = prefix_more d k q found.1 found.2 q ∙ or_right (in_prefix d k q) (eqb q q) (eq-eqb q q refl) in
        omega (
          arith,
          count_split (in_prefix d (suc k)) (λ p. eqb p q) d.vertices,
          counted_one (λ p. in_prefix d (suc k) p && eqb p q) d.vertices q found.1 (and_from (in_prefix d (suc k) q) (eqb q q) new (eq-eqb q q refl)) (λ i h. eqb-true i q (and_parts (in_prefix d (suc k) i) (eqb i q) h).1),
          count_same (λ p. in_prefix d (suc k) p && not (eqb p q)) (in_prefix d k) d.vertices (λ p h. rest q found.1 found.2 own p),
          more (omega arith),
        )
      where
        none : (b : Bool) → (b && false) ≡ false
        none true = refl
        none false = refl

        rest : (q : ℕ) → q < d.vertices → rank (size_of d) d.vertices q ≡ k → in_prefix d k q ≡ false → (p : ℕ) → (in_prefix d (suc k) p && not (eqb p q)) ≡ in_prefix d k p
        rest q lq e own p = rw (prefix_more d k q lq e p) (by (cases_eq p q))
          where
            keep : (b : Bool) → ((b || false) && true) ≡ b
            keep true = refl
            keep false = refl

            by : (p ≡ q) ⊎ (p ≡ q → ⊥) → ((in_prefix d k p || eqb p q) && not (eqb p q)) ≡ in_prefix d k p
            by (inl s) = rw (s, own, eq-eqb q q refl) refl
            by (inr ne) = rw (ne_eqb p q ne) (keep (in_prefix d k p))
