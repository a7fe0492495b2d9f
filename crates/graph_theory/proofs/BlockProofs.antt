-- Blocks: two vertices are in one exactly where their images differ.

use Rattle.std.proofs.Common.{◌≡◌, ℕ, ◌<◌, nat_lt, Bool, true, false, ◌&&◌, Option, Some, None, refl, sym, ap, subst, arith}
use Rattle.graph_theory.specs.Graph.{Graph, size}
use Rattle.graph_theory.specs.Neighbours.{count, is_near}
use Rattle.graph_theory.specs.Embedding.{Problem, near_both, differ_in}
use Rattle.graph_theory.specs.Reversed.{reversed, reversed_problem}
use Rattle.graph_theory.specs.Blocks.{in_block, has_near, has_block_in, Together, BlockOf, DifferOf, DifferIsSymmetric, ReversedIn, ReversedHas, BlockLaws}
use Rattle.graph_theory.specs.declared.embedding.Maps.{Maps}
use Rattle.graph_theory.specs.declared.embedding.Maps.TheVariants.{Injective, Local, Any}
use Rattle.graph_theory.proofs.Counts.{Passes, count-same, count_some, count_two, some_passes}
use Rattle.graph_theory.proofs.NeighbourCounts.{both_first, both_second, both, swapped}
use Rattle.graph_theory.proofs.ReversedGraphs.{near-reversed, differ-reversed}
use Rattle.std.proofs.lemmas.Bool.Decides.{nat_tests}

-- two vertices that share a near one are in its block
together_near : (q : Problem) (p r : ℕ) → q.maps ≡ Local → p < size q.pattern → r < size q.pattern → (p ≡ r → ⊥)
    → Passes (near_both q.pattern p r) (size q.pattern) → Together q p r
together_near q p r is p_in r_in other w =
    let first : is_near q.pattern w.at p ≡ true = both_first (is_near q.pattern w.at p) (is_near q.pattern w.at r) w.passes in
    let second : is_near q.pattern w.at r ≡ true = both_second (is_near q.pattern w.at p) (is_near q.pattern w.at r) w.passes in
    let inside : nat_lt w.at (size q.pattern) ≡ true = told_less w.at (size q.pattern) w.at_in in
    let there : has_near q.pattern w.at ≡ true =
    both (nat_lt w.at (size q.pattern)) (nat_lt 1 (count (is_near q.pattern w.at) (size q.pattern))) inside
    (count_two (is_near q.pattern w.at) p r (size q.pattern) p_in r_in other first second) in
    record {
      block = Some w.at;
      is_there = subst (λ (k : Maps). has_block_in k q.pattern (Some w.at) ≡ true) (sym is) there;
      first = first;
      second = second;
    }
  where
    told_less : (a b : ℕ) → a < b → nat_lt a b ≡ true
    told_less a b h = grind (arith, nat_tests)

together_in : (k : Maps) (q : Problem) (p r : ℕ) → q.maps ≡ k → p < size q.pattern → r < size q.pattern → (p ≡ r → ⊥)
    → differ_in k q.pattern p r ≡ true → Together q p r
together_in Injective q p r is p_in r_in other two = record {
  block = None;
  is_there = ap (λ (k : Maps). has_block_in k q.pattern None) is;
  first = refl;
  second = refl;
}
together_in Local q p r is p_in r_in other two = together_near q p r is p_in r_in other (some_passes (near_both q.pattern p r) (size q.pattern) two)
together_in Any q p r is p_in r_in other two = cc

pub together_of_differ : BlockOf
together_of_differ q p r p_in r_in other two = together_in q.maps q p r refl p_in r_in other two

-- and those in one block differ
less_told : (a b : ℕ) → nat_lt a b ≡ true → a < b
less_told a b h = grind (arith, nat_tests)

pub near_in : (g : Graph) (c : ℕ) → has_near g c ≡ true → c < size g
near_in g c h = less_told c (size g) (both_first (nat_lt c (size g)) (nat_lt 1 (count (is_near g c) (size g))) h)

differ_by : (k : Maps) (q : Problem) (b : Option ℕ) (p r : ℕ) → has_block_in k q.pattern b ≡ true → in_block q b p ≡ true → in_block q b r ≡ true
    → differ_in k q.pattern p r ≡ true
differ_by Injective q b p r there first second = refl
differ_by Local q None p r there first second = cc
differ_by Local q (Some c) p r there first second =
    count_some (near_both q.pattern p r) c (size q.pattern) (near_in q.pattern c there) (both (is_near q.pattern c p) (is_near q.pattern c r) first second)
differ_by Any q b p r there first second = cc

pub differ_of_together : DifferOf
differ_of_together q p r w = differ_by q.maps q w.block p r w.is_there w.first w.second

differ_swapped : (k : Maps) (g : Graph) (p r : ℕ) → differ_in k g p r ≡ differ_in k g r p
differ_swapped Injective g p r = refl
differ_swapped Local g p r =
    ap (nat_lt 0) (count-same (near_both g p r) (near_both g r p) (size g) (λ c _. swapped (is_near g c p) (is_near g c r)))
differ_swapped Any g p r = refl

pub differ_is_symmetric : DifferIsSymmetric
differ_is_symmetric q p r = differ_swapped q.maps q.pattern p r

-- ---- the reversed problem

in_by : (k : Maps) (q : Problem) (b : Option ℕ) (p : ℕ) → has_block_in k q.pattern b ≡ true → p < size q.pattern
    → in_block (reversed_problem q) b p ≡ in_block q b p
in_by k q None p there p_in = refl
in_by Injective q (Some c) p there p_in = cc
in_by Local q (Some c) p there p_in = near-reversed q.pattern c p (near_in q.pattern c there) p_in
in_by Any q (Some c) p there p_in = cc

pub in_reversed : ReversedIn
in_reversed q b p there p_in = in_by q.maps q b p there p_in

has_near-reversed : (g : Graph) (c : ℕ) → has_near (reversed g) c ≡ has_near g c
has_near-reversed g c = by_place (nat_lt c (size g)) refl
  where
    by_place : (b : Bool) → nat_lt c (size g) ≡ b
        → (b && nat_lt 1 (count (is_near (reversed g) c) (size g))) ≡ (b && nat_lt 1 (count (is_near g c) (size g)))
    by_place true is =
        ap (nat_lt 1) (count-same (is_near (reversed g) c) (is_near g c) (size g) (λ p p_in. near-reversed g c p (less_told c (size g) is) p_in))
    by_place false is = refl

has_by : (k : Maps) (g : Graph) (b : Option ℕ) → has_block_in k (reversed g) b ≡ has_block_in k g b
has_by Injective g None = refl
has_by Injective g (Some c) = refl
has_by Local g None = refl
has_by Local g (Some c) = has_near-reversed g c
has_by Any g b = refl

pub has_reversed : ReversedHas
has_reversed q b = has_by q.maps q.pattern b

pub block_laws_hold : BlockLaws
block_laws_hold = record {
  block_of = together_of_differ;
  differ_of = differ_of_together;
  symmetric = differ_is_symmetric;
  reversed_differ = differ-reversed;
  reversed_in = in_reversed;
  reversed_has = has_reversed;
}
