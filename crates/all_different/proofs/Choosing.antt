-- No injective choice is lost: a set of domains has no more members in a choice than its union has values.
use Rattle.std.proofs.Common.{◌≡◌, ℕ, ◌+◌, ◌<◌, ◌≤◌, zero, suc, Bool, true, false, cond, eqb, ◌&&◌, ◌||◌, not, refl, sym, subst, arith, inl, inr, ◌⊎◌}
use Rattle.std.proofs.lemmas.Bool.{or_cases, and_from, eqb-true, eq-eqb, ne_eqb}
use Rattle.graph_theory.specs.Neighbours.{count}
use Rattle.domain_bits.specs.Removals.{State, in_domain}
use Rattle.bit_rows.proofs.Passing.{count_same, count_split}
use Rattle.domain_bits.proofs.Sizes.{count_some, counted_one, in_below}
use Rattle.all_different.specs.Prefixes.{in_prefix, in_union, union_size, Short}
use Rattle.all_different.specs.Choices.{Chooses}
use Rattle.all_different.proofs.Unions.{any_from, count_prefix}

-- an injective map from those that pass f to those that pass g
pub pigeons : (f g : ℕ → Bool) (n b : ℕ) (m : ℕ → ℕ) → ((p : ℕ) → p < n → f p ≡ true → (m p < b) × (g (m p) ≡ true))
    → ((p q : ℕ) → p < n → q < n → f p ≡ true → f q ≡ true → m p ≡ m q → p ≡ q) → count f n ≤ count g b
pigeons f g zero b m maps apart = omega arith
pigeons f g (suc n) b m maps apart = by (f n) refl
    (λ h. pigeons f h n b m)
  where
    by : (c : Bool) → f n ≡ c
        → ((h : ℕ → Bool) → ((p : ℕ) → p < n → f p ≡ true → (m p < b) × (h (m p) ≡ true)) → ((p q : ℕ) → p < n → q < n → f p ≡ true → f q ≡ true → m p ≡ m q → p ≡ q) → count f n ≤ count h b)
        → cond (f n) 1 0 + count f n ≤ count g b
    by false e more = rw e (omega (arith, more g (λ p l h. maps p (omega arith) h) (λ p q lp lq hp hq s. apart p q (omega arith) (omega arith) hp hq s)))
    by true e more =
        let last = maps n (omega arith) e in
        rw e (omega (
          arith,
          count_split g (λ t. eqb t (m n)) b,
          count_some (λ t. g t && eqb t (m n)) b (m n) last.0 (and_from (g (m n)) (eqb (m n) (m n)) last.1 (eq-eqb (m n) (m n) refl)),
          more (λ t. g t && not (eqb t (m n)))
              (λ p l h. let r = maps p (omega arith) h in (r.0, rw (ne_eqb (m p) (m n) (λ s. omega (arith, apart p n (omega arith) (omega arith) h e s)), r.1) refl))
              (λ p q lp lq hp hq s. apart p q (omega arith) (omega arith) hp hq s),
        ))

pub union_has : (d : State) (n p t : ℕ) → p < d.vertices → in_prefix d n p ≡ true → in_domain d p t ≡ true → in_union d n t ≡ true
union_has d n p t l a b = any_from (λ i. in_prefix d n i && in_domain d i t) d.vertices p l (and_from (in_prefix d n p) (in_domain d p t) a b)

-- where the first n domains have too few values there is no choice
pub short_refutes : (d : State) (n : ℕ) → Short d n → (m : ℕ → ℕ) → Chooses d m → ⊥
short_refutes d n s m c =
    omega (
      arith,
      s.few,
      count_prefix d n s.within,
      pigeons (in_prefix d n) (in_union d n) d.vertices d.values m
          (λ p l h. (in_below d p (m p) (c.inside p l), union_has d n p (m p) l h (c.inside p l)))
          (λ p q lp lq hp hq e. c.distinct p q lp lq e),
    )

-- where they have just enough, no choice gives one of these values to a later vertex
pub tight_excludes : (d : State) (n q : ℕ) → n ≤ d.vertices → union_size d n ≡ n → q < d.vertices → in_prefix d n q ≡ false
    → (m : ℕ → ℕ) → Chooses d m → in_union d n (m q) ≡ true → ⊥
tight_excludes d n q within full lq later m c shared =
    omega (
      arith,
      full,
      count_prefix d n within,
      one_more,
      pigeons (λ p. in_prefix d n p || eqb p q) (in_union d n) d.vertices d.values m
          (λ p l h. (in_below d p (m p) (c.inside p l), by p l (or_cases (in_prefix d n p) (eqb p q) h)))
          (λ p r lp lr hp hr e. c.distinct p r lp lr e),
    )
  where
    by : (p : ℕ) → p < d.vertices → (in_prefix d n p ≡ true) ⊎ (eqb p q ≡ true) → in_union d n (m p) ≡ true
    by p l (inl h) = union_has d n p (m p) l h (c.inside p l)
    by p l (inr h) = subst (λ i. in_union d n (m i) ≡ true) (sym (eqb-true p q h)) shared

    one_more : count (λ p. in_prefix d n p || eqb p q) d.vertices ≡ count (in_prefix d n) d.vertices + 1
    one_more =
        omega (
          arith,
          count_split (λ p. in_prefix d n p || eqb p q) (in_prefix d n) d.vertices,
          count_same (λ p. (in_prefix d n p || eqb p q) && in_prefix d n p) (in_prefix d n) d.vertices (λ p h. absorb (in_prefix d n p) (eqb p q)),
          counted_one (λ p. (in_prefix d n p || eqb p q) && not (in_prefix d n p)) d.vertices q lq (rw (later, eq-eqb q q refl) refl)
              (λ i h. eqb-true i q (left-over (in_prefix d n i) (eqb i q) h)),
        )
      where
        absorb : (a b : Bool) → ((a || b) && a) ≡ a
        absorb true b = refl
        absorb false true = refl
        absorb false false = refl

        left-over : (a b : Bool) → ((a || b) && not a) ≡ true → b ≡ true
        left-over true b h = cc
        left-over false true h = refl
        left-over false false h = h
