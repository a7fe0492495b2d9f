-- What the size of a domain tells of its values.
use Rattle.std.proofs.Common.{◌≡◌, ℕ, ◌+◌, ◌<◌, zero, suc, Bool, true, false, cond, eqb, ◌&&◌, not, List, refl, sym, ap, ◌∙◌, arith, inl, inr, ◌⊎◌}
use Rattle.std.proofs.lemmas.Bool.{cases_eq, and_parts, ltb-true, eq-eqb, ne_eqb}
use Rattle.graph_theory.specs.Neighbours.{count}
use Rattle.domain_bits.specs.Removals.{State, in_domain, size_of}
use Rattle.domain_bits.specs.Changes.{Single, IsEmptyDomain}
use Rattle.std.proofs.Common.{◌*◌, length}
use Rattle.bit_rows.specs.BitRows.{has, words_for}
use Rattle.bit_rows.proofs.Passing.{count_same, count_split, count_none}
use Rattle.domain_bits.proofs.Removed.{count_bounds}

-- a number that passes is counted
pub count_some : (f : ℕ → Bool) (n i : ℕ) → i < n → f i ≡ true → 0 < count f n
count_some f zero i l e = absurd (omega arith)
count_some f (suc n) i l e = by (cases_eq i n) (count_some f n i)
  where
    by : (i ≡ n) ⊎ (i ≡ n → ⊥) → (i < n → f i ≡ true → 0 < count f n) → 0 < cond (f n) 1 0 + count f n
    by (inl same) more = rw (sym (ap f same) ∙ e) (omega arith)
    by (inr ne) more = omega (arith, more (omega arith) e)

-- where something is counted some number passes
pub some_counted : (f : ℕ → Bool) (n : ℕ) → 0 < count f n → (i : ℕ) × (i < n) × (f i ≡ true)
some_counted f zero h = absurd (omega arith)
some_counted f (suc n) h = by (f n) refl (some_counted f n)
  where
    by : (b : Bool) → f n ≡ b → (0 < count f n → (i : ℕ) × (i < n) × (f i ≡ true)) → (i : ℕ) × (i < suc n) × (f i ≡ true)
    by true e more = (n, omega arith, e)
    by false e more = let h' = rw e at h in let r = more (omega arith) in (r.0, omega (arith, r.1), r.2)

-- where one is counted, no two differ
pub one_counted : (f : ℕ → Bool) (n i k : ℕ) → count f n ≡ 1 → i < n → f i ≡ true → k < n → f k ≡ true → k ≡ i
one_counted f n i k one li ei lk ek = by (cases_eq k i)
  where
    by : (k ≡ i) ⊎ (k ≡ i → ⊥) → k ≡ i
    by (inl e) = e
    by (inr ne) = absurd (omega (
      arith,
      count_split f (λ u. eqb u i) n,
      count_some (λ u. f u && eqb u i) n i li (rw (ei, eq-eqb i i refl) refl),
      count_some (λ u. f u && not (eqb u i)) n k lk (rw (ek, ne_eqb k i ne) refl),
    ))

-- where just one number passes, one is counted
pub counted_one : (f : ℕ → Bool) (n i : ℕ) → i < n → f i ≡ true → ((k : ℕ) → f k ≡ true → k ≡ i) → count f n ≡ 1
counted_one f zero i l e only = absurd (omega arith)
counted_one f (suc n) i l e only = by (cases_eq i n) (counted_one f n i)
  where
    others : i ≡ n → (k : ℕ) → k < n → f k ≡ false
    others same k lk = pick (f k) refl
      where
        pick : (b : Bool) → f k ≡ b → f k ≡ false
        pick true h = absurd (omega (arith, only k h))
        pick false h = h

    by : (i ≡ n) ⊎ (i ≡ n → ⊥) → (i < n → f i ≡ true → ((k : ℕ) → f k ≡ true → k ≡ i) → count f n ≡ 1) → cond (f n) 1 0 + count f n ≡ 1
    by (inl same) more = rw (sym (ap f same) ∙ e) (omega (arith, count_none f n (others same)))
    by (inr ne) more = rw (not-last (f n) refl) (omega (arith, more (omega arith) e only))
      where
        not-last : (b : Bool) → f n ≡ b → f n ≡ false
        not-last true h = absurd (ne (sym (only n h)))
        not-last false h = h

pub in_below : (d : State) (p t : ℕ) → in_domain d p t ≡ true → t < d.values
in_below d p t e = ltb-true t d.values (and_parts _ _ e).0

pub size_none : (d : State) (p : ℕ) → size_of d p ≡ 0 → IsEmptyDomain d p
size_none d p none t e = absurd (omega (arith, count_some (in_domain d p) d.values t (in_below d p t e) e, none))

pub none_size : (d : State) (p : ℕ) → IsEmptyDomain d p → size_of d p ≡ 0
none_size d p none = count_none (in_domain d p) d.values (λ i l. pick i (in_domain d p i) refl)
  where
    pick : (i : ℕ) (b : Bool) → in_domain d p i ≡ b → in_domain d p i ≡ false
    pick i true e = absurd (none i e)
    pick i false e = e

pub size_single : (d : State) (p t : ℕ) → size_of d p ≡ 1 → in_domain d p t ≡ true → Single d p t
size_single d p t one here = record {
  here = here;
  only = λ u e. one_counted (in_domain d p) d.values t u one (in_below d p t here) here (in_below d p u e) e;
}

pub single_size : (d : State) (p t : ℕ) → Single d p t → size_of d p ≡ 1
single_size d p t s = counted_one (in_domain d p) d.values t (in_below d p t s.here) s.here s.only

-- a row that is a domain has as many bits as the domain has values
pub row_size : (d : State) (p : ℕ) (row : List ℕ) → length row ≡ words_for d.values → ((t : ℕ) → has row t ≡ in_domain d p t)
    → count (has row) (64 * length row) ≡ size_of d p
row_size d p row long bits =
    count_same (has row) (in_domain d p) (64 * length row) (λ i l. bits i)
    ∙ count_bounds (in_domain d p) (64 * length row) d.values (λ u e. omega (arith, in_below d p u e, long)) (in_below d p)

pub not_single : (d : State) (p : ℕ) → (size_of d p ≡ 1 → ⊥) → (t : ℕ) → Single d p t → ⊥
not_single d p more t s = more (single_size d p t s)
