-- Domains of one value that are in no other come first, and have together just as many values as they are.
use Rattle.std.proofs.Common.{◌≡◌, ℕ, ◌+◌, ◌<◌, ◌≤◌, zero, suc, Bool, true, false, eqb, ltb, ◌&&◌, ◌||◌, not, List, get_or, refl, sym, ap, ◌∙◌, arith, inl, inr, ◌⊎◌}
use Rattle.std.proofs.lemmas.Bool.{cases_order, and_parts, ltb-true, eq-eqb, false≢true, false_from_ne_true}
use Rattle.domain_bits.specs.Removals.{State, in_domain, size_of}
use Rattle.bit_rows.proofs.Passing.{count_split, count_le, count_within}
use Rattle.domain_bits.proofs.Sizes.{count_some, some_counted}
use Rattle.all_different.specs.Ranks.{rank}
use Rattle.all_different.specs.Prefixes.{in_prefix, in_union, union_size}
use Rattle.all_different.specs.Pruning.{DecidedApart}
use Rattle.all_different.specs.Steps.{BalancedTo, Counted, alike_count}
use Rattle.all_different.proofs.Ranking.{rank_is, rank_onto, next_size}
use Rattle.all_different.proofs.Unions.{any_gives, union_more, size_below}
use Rattle.all_different.proofs.Placing.{smaller_le}
use Rattle.all_different.proofs.Scanning.{no_tight}
use Rattle.all_different.proofs.OneLook.{union_size_none}

-- no domains have neither too few values nor a value
pub none_balanced : (d : State) → BalancedTo d 0
none_balanced d = record { full = union_size_none d; not_short = λ m l s. omega (arith, l, s.few); not_tight = no_tight d }

-- where none is empty, the first ones, as many as have one value, have one
first_decided : (d : State) (p : ℕ) → p < d.vertices → alike_count (size_of d) d.vertices 0 ≡ 0 → rank (size_of d) d.vertices p < alike_count (size_of d) d.vertices 1 → size_of d p ≡ 1
first_decided d p l none early = by (cases_order (size_of d p) 1)
  where
    by : (size_of d p ≡ 1) ⊎ ((size_of d p < 1) ⊎ (1 < size_of d p)) → size_of d p ≡ 1
    by (inl e) = e
    by (inr (inl less)) = absurd (omega (arith, none, count_some (λ q. eqb (size_of d q) 0) d.vertices p l (eq-eqb (size_of d p) 0 (omega arith))))
    by (inr (inr more)) =
        absurd (omega (arith, early, rank_is (size_of d) d.vertices p l, smaller_le (size_of d) d.vertices 2 (size_of d p) (omega arith), next_size (size_of d) d.vertices 1))

module _ (d : State) (apart : DecidedApart d) (n : ℕ) (single : (p : ℕ) → p < d.vertices → rank (size_of d) d.vertices p < n → size_of d p ≡ 1) where
  -- a value of the first ones is in no other domain than one of them
  owner : (k q t : ℕ) → k ≤ n → q < d.vertices → in_prefix d k q ≡ false → in_union d k t ≡ true → in_domain d q t ≡ true → ⊥
  owner k q t l lq outside shared met =
      let g = any_gives (λ p. in_prefix d k p && in_domain d p t) d.vertices shared in
      let parts = and_parts (in_prefix d k g.0) (in_domain d g.0 t) g.2 in
      let early = and_parts (ltb g.0 d.vertices) (ltb (rank (size_of d) d.vertices g.0) k) parts.0 in
      let one : size_of d g.0 ≡ 1 = single g.0 g.1 (omega (arith, l, ltb-true (rank (size_of d) d.vertices g.0) k early.1)) in
      apart.apart g.0 q t g.1 lq (λ same. false≢true (sym outside ∙ ap (in_prefix d k) (sym same) ∙ parts.0)) one parts.1 met

  -- each adds a value
  pub as_many_values : (k : ℕ) → k ≤ n → k ≤ d.vertices → union_size d k ≡ k
  as_many_values zero l within = union_size_none d
  as_many_values (suc k) l within = next (rank_onto (size_of d) d.vertices (d.values + 1) k (λ q h. size_below d q) (omega arith)) (as_many_values k (omega arith) (omega arith))
    where
      next : (q : ℕ) × (q < d.vertices) × (rank (size_of d) d.vertices q ≡ k) → union_size d k ≡ k → union_size d (suc k) ≡ suc k
      next f before =
          let q = f.0 in
          let one : size_of d q ≡ 1 = single q f.1 (omega (arith, f.2, l)) in
          let value = some_counted (in_domain d q) d.values (omega (arith, one)) in
          let t = value.0 in
          let outside : in_prefix d k q ≡ false = past k q f.2 in
          let new : in_union d k t ≡ false = false_from_ne_true (in_union d k t) (λ e. owner k q t (omega (arith, l)) f.1 outside e value.2) in
          omega (
            arith,
            before,
            one,
            count_split (in_union d (suc k)) (in_union d k) d.values,
            count_le (λ i. in_union d (suc k) i && in_union d k i) (in_union d k) d.values d.values (omega arith) (λ i e. (and_parts (in_union d (suc k) i) (in_union d k i) e).1),
            count_le (λ i. in_union d (suc k) i && not (in_union d k i)) (in_domain d q) d.values d.values (omega arith) (λ i e. added (in_union d (suc k) i) (in_union d k i) (in_domain d q i) (union_more d k q f.1 f.2 i) e),
            count_le (in_union d k) (λ i. in_union d (suc k) i && in_union d k i) d.values d.values (omega arith) (λ i e. rw (union_more d k q f.1 f.2 i, e) refl),
            count_some (λ i. in_union d (suc k) i && not (in_union d k i)) d.values t value.1 (rw (union_more d k q f.1 f.2 t, new, value.2) refl),
          )
        where
          added : (new old own : Bool) → new ≡ (old || own) → (new && not old) ≡ true → own ≡ true
          added new true own is e = absurd (false≢true (sym (none new) ∙ e))
            where
              none : (b : Bool) → (b && false) ≡ false
              none true = refl
              none false = refl
          added true false own is e = sym is
          added false false own is e = absurd (false≢true e)

          past : (k q : ℕ) → rank (size_of d) d.vertices q ≡ k → in_prefix d k q ≡ false
          past k q e = false_from_ne_true (in_prefix d k q) (λ h.
              omega (arith, e, ltb-true (rank (size_of d) d.vertices q) k (and_parts (ltb q d.vertices) (ltb (rank (size_of d) d.vertices q) k) h).1))

  pub first_balanced : n ≤ d.vertices → BalancedTo d n
  first_balanced within = record {
    full = as_many_values n (omega arith) within;
    not_short = λ m l s. omega (arith, s.few, as_many_values m l s.within);
    not_tight = λ m l t. owner m t.vertex t.value l t.vertex_in t.later t.shared t.met;
  }

pub decided_balanced : (d : State) (counts : List ℕ) → DecidedApart d → Counted d d.vertices counts → 0 < d.vertices → get_or counts 0 0 ≡ 0 → BalancedTo d (get_or counts 1 0)
decided_balanced d counts apart counted some none = first_balanced d apart (get_or counts 1 0) (λ p l early.
    first_decided d p l (sym (counted.each 0 (omega arith)) ∙ none) (omega (arith, early, counted.each 1 (omega (arith, some)))))
    (omega (arith, counted.each 1 (omega (arith, some)), count_within (λ q. eqb (size_of d q) 1) d.vertices))
