use Rattle.std.proofs.Common.{◌≡◌, ℕ, ◌+◌, ◌-◌, ◌<◌, List, get_or, subst, sym, arith, inl, inr, ◌⊎◌}
use Rattle.std.proofs.lemmas.Bool.{cases_eq}
use Rattle.search_tests.proofs.counting_tests.are_members.Goals as goal

-- one number more, which is more than the one before it
rising_more : (xs : List ℕ) (k : ℕ) → ((i j : ℕ) → i < j → j < k → get_or xs i 0 < get_or xs j 0) → (0 < k → get_or xs (k - 1) 0 < get_or xs k 0)
    → (i j : ℕ) → i < j → j < k + 1 → get_or xs i 0 < get_or xs j 0
rising_more xs k before last i j less l = by (cases_eq j k)
  where
    by_last : (i ≡ k - 1) ⊎ (i ≡ k - 1 → ⊥) → j ≡ k → get_or xs i 0 < get_or xs k 0
    by_last (inl e) s = subst (λ (n : ℕ). get_or xs n 0 < get_or xs k 0) (sym e) (last (omega (arith, less, s)))
    by_last (inr ne) s = omega (arith, before i (k - 1) (omega (arith, ne, less, s)) (omega (arith, less, s)), last (omega (arith, less, s)))

    by : (j ≡ k) ⊎ (j ≡ k → ⊥) → get_or xs i 0 < get_or xs j 0
    by (inl e) = subst (λ (n : ℕ). get_or xs i 0 < get_or xs n 0) (sym e) (by_last (cases_eq i (k - 1)) e)
    by (inr ne) = before i j less (omega (arith, l, ne))

inside_more : (xs : List ℕ) (k v : ℕ) → ((i : ℕ) → i < k → get_or xs i 0 < v) → get_or xs k 0 < v → (i : ℕ) → i < k + 1 → get_or xs i 0 < v
inside_more xs k v before last i l = by (cases_eq i k)
  where
    by : (i ≡ k) ⊎ (i ≡ k → ⊥) → get_or xs i 0 < v
    by (inl e) = subst (λ (n : ℕ). get_or xs n 0 < v) (sym e) last
    by (inr ne) = before i (omega (arith, l, ne))

pub loop-k-preserved : goal.loop-k-preserved
loop-k-preserved c = record {
  rising = rising_more c.args.list.now c.loop-k.k c.loop-k.invariant.rising (c.follows.ensures c.if-not-follows.false);
  inside = inside_more c.args.list.now c.loop-k.k c.args.vertices c.loop-k.invariant.inside c.if-list-k.false;
}
