-- The words of a table.

use Rattle.std.proofs.Common.{◌≡◌, ℕ, ◌+◌, ◌^◌, ◌<◌, ◌≤◌, Bool, true, false, ◌&&◌, ◌==◌, nat_lt, List, length, get_or, not, is_some, refl, sym, ap, ◌∙◌, subst, arith, inl, inr, ◌⊎◌, bit_and, bit_or, w64}
use Rattle.std.specs.Int.{bit_not}
use Rattle.std.proofs.Math.ListN.{set}
use Rattle.std.proofs.lemmas.List.{get_or-set_same, get_or-set_other}
use Rattle.std.proofs.lemmas.Bool.{cases_eq, cases_lt, lt-ltb, ltb-true, eq-eqb, false≢true}
use Rattle.std.proofs.lemmas.Nat.Bits.{bit_at_above}
use Rattle.graph_theory.specs.Graph.{size, label, edge}
use Rattle.graph_theory.specs.Embedding.{Problem, Embeds, is_injective}
use Rattle.graph_theory.specs.Asked.{asked_degree, room}
use Rattle.graph_theory.specs.Reversed.{reversed_problem}
use Rattle.graph_theory.proofs.NeighbourCounts.{degree_is_kept}
use Rattle.graph_theory.proofs.ReversedGraphs.{embeds_reversed}
use Rattle.bit_rows.specs.BitRows.{is_set, has}
use Rattle.bit_rows.proofs.WordBits.{is_set_or, is_set_and_not}
use Rattle.small_search.specs.Placing.{IsSmall, AreValues, AreNear, IsTable, IsFree, joins, edges_tell}
use Rattle.small_search.proofs.Words.{in_one_word, in_first, not_in_second, in_first_alone, none_alone}

-- a number in a word is less than 64
pub in_word_below : (word b : ℕ) → word < 2 ^ 64 → is_set word b ≡ true → b < 64
in_word_below word b small h = by (cases_lt b 64)
  where
    by : (b < 64) ⊎ (64 ≤ b) → b < 64
    by (inl l) = l
    by (inr l) = absurd (false≢true (sym (rw (bit_at_above word 64 b small l) refl) ∙ h))

to_both : (a b : Bool) → a ≡ true → b ≡ true → (a && b) ≡ true
to_both true true x y = refl
to_both true false x y = cc
to_both false b x y = cc

first_of : (a b : Bool) → (a && b) ≡ true → a ≡ true
first_of true b h = refl
first_of false b h = h

-- what is kept of the target vertices by label and degrees holds the image of p in each embedding
pub are_values : (q : Problem) (p l word : ℕ) (first equal out last labels : List ℕ) → IsSmall q → p < size q.pattern → word < 2 ^ 64 → word ≡ get_or last 0 0
    → ((v : ℕ) → has first v ≡ nat_lt v (size q.target)) → ((v : ℕ) → has equal v ≡ (has first v && get_or labels v 0 == l))
    → labels ≡ q.target.labels → l ≡ label q.pattern p
    → ((t : ℕ) → has out t ≡ true → has equal t ≡ true) → ((t : ℕ) → has equal t ≡ true → asked_degree q p ≤ room q t → has out t ≡ true)
    → ((t : ℕ) → has last t ≡ true → has out t ≡ true)
    → ((t : ℕ) → has out t ≡ true → asked_degree (reversed_problem q) p ≤ room (reversed_problem q) t → has last t ≡ true)
    → AreValues q p word
are_values q p l word first equal out last labels small p_in fits word_is first_is equal_is labels_are l_is out_less out_all last_less last_all = record {
  fits = fits;
  right = λ t h.
      let there = in_one_word last t (in_word_below word t fits h) ∙ sym (ap (λ (w : ℕ). is_set w t) word_is) ∙ h in
      ltb-true t (size q.target) (sym (first_is t) ∙ first_of (has first t) (get_or labels t 0 == l) (sym (equal_is t) ∙ out_less t (last_less t there)));
  complete = λ m e.
      let t_in = e.values p p_in in
      let same : get_or labels (get_or m p 0) 0 ≡ l = ap (λ (xs : List ℕ). get_or xs (get_or m p 0) 0) labels_are ∙ e.labels p p_in ∙ sym l_is in
      let kept = equal_is (get_or m p 0) ∙ to_both (has first (get_or m p 0)) (get_or labels (get_or m p 0) 0 == l)
      (first_is (get_or m p 0) ∙ lt-ltb (get_or m p 0) (size q.target) t_in) (eq-eqb (get_or labels (get_or m p 0) 0) l same) in
      let roomy = out_all (get_or m p 0) kept (degree_is_kept q m p e p_in) in
      ap (λ (w : ℕ). is_set w (get_or m p 0)) word_is ∙ sym (in_one_word last (get_or m p 0) (omega (arith, t_in, small.target)))
      ∙ last_all (get_or m p 0) roomy (degree_is_kept (reversed_problem q) m p (embeds_reversed q m e) p_in);
}

-- the rows of a vertex in both directions hold what edges join to it
pub are_near : (q : Problem) (p : ℕ) (out back : List ℕ) → IsSmall q → ((b : ℕ) → has out b ≡ is_some (edge q.pattern p b))
    → ((b : ℕ) → has back b ≡ is_some (edge q.pattern b p)) → AreNear q p (bit_or (get_or out 0 0) (get_or back 0 0))
are_near q p out back small out_is back_is r r_in =
    is_set_or (get_or out 0 0) (get_or back 0 0) r
    ∙ rw (← in_one_word out r (omega (arith, small.pattern)), ← in_one_word back r (omega (arith, small.pattern)), out_is r, back_is r) refl

-- ---- a table

pub table_of : (v q : Problem) (values near : List ℕ) (all : ℕ) (injective by_edges : Bool) → v ≡ q → IsTable v values near all injective by_edges
    → IsTable q values near all injective by_edges
table_of v q values near all injective by_edges is table = subst (λ (x : Problem). IsTable x values near all injective by_edges) is table

second_of : (a b : Bool) → (a && not b) ≡ true → b ≡ false
second_of true false h = refl
second_of true true h = cc
second_of false b h = cc

to_first : (a b : Bool) → a ≡ true → b ≡ false → (a && not b) ≡ true
to_first true false x y = refl
to_first true true x y = cc
to_first false b x y = cc

-- the values of a vertex without those in use are free
pub free_right : (q : Problem) (values near : List ℕ) (all : ℕ) (injective by_edges : Bool) (p used t : ℕ) → IsTable q values near all injective by_edges → p < size q.pattern
    → used < 2 ^ 64 → is_set (bit_and (get_or values p 0) (bit_not w64 used)) t ≡ true → IsFree q used t
free_right q values near all injective by_edges p used t table p_in used_word h =
    let here = in_first (get_or values p 0) (bit_not w64 used) t h in
    let t_in = in_word_below (get_or values p 0) t (table.values_are p p_in).fits here in record {
      value = (table.values_are p p_in).right t here;
      free = λ _. second_of (is_set (get_or values p 0) t) (is_set used t) (sym (is_set_and_not (get_or values p 0) used t used_word t_in) ∙ h);
    }

-- and hold the image of the vertex where it is free
pub free_complete : (q : Problem) (values near : List ℕ) (all : ℕ) (injective by_edges : Bool) (p used : ℕ) (m : List ℕ) → IsTable q values near all injective by_edges
    → p < size q.pattern → used < 2 ^ 64 → injective ≡ true → Embeds q m → (is_injective q.maps ≡ true → is_set used (get_or m p 0) ≡ false)
    → is_set (bit_and (get_or values p 0) (bit_not w64 used)) (get_or m p 0) ≡ true
free_complete q values near all injective by_edges p used m table p_in used_word differ e free =
    is_set_and_not (get_or values p 0) used (get_or m p 0) used_word (omega (arith, e.values p p_in, table.small.target))
    ∙ to_first (is_set (get_or values p 0) (get_or m p 0)) (is_set used (get_or m p 0)) ((table.values_are p p_in).complete m e) (free (sym table.injective_is ∙ differ))

-- a placed vertex that is not looked at beside p is one that no edge joins to it, where edges tell all
pub not_looked_at : (q : Problem) (values near : List ℕ) (all : ℕ) (injective by_edges : Bool) (p placed r : ℕ) → IsTable q values near all injective by_edges
    → p < size q.pattern → by_edges ≡ true → is_set placed r ≡ true → r < size q.pattern → is_set (bit_and placed (get_or near p 0)) r ≡ false
    → (edges_tell q ≡ true) × (joins q p r ≡ false)
not_looked_at q values near all injective by_edges p placed r table p_in tell on r_in off =
    (sym table.by_edges_is ∙ tell, sym (table.near_are p p_in r r_in) ∙ not_in_second placed (get_or near p 0) r off on)

-- a vertex that is not placed yet
pub open_vertex : (q : Problem) (values near : List ℕ) (all : ℕ) (injective by_edges : Bool) (placed p : ℕ) → IsTable q values near all injective by_edges → placed < 2 ^ 64
    → is_set (bit_and all (bit_not w64 placed)) p ≡ true → (p < size q.pattern) × (is_set placed p ≡ false)
open_vertex q values near all injective by_edges placed p table small h =
    let here = in_first all (bit_not w64 placed) p h in
    let alone = in_first_alone all placed p small (in_word_below all p table.all_fits here) h in
    (ltb-true p (size q.pattern) (sym (table.all_is p) ∙ here), alone.1)

-- where none is left, all are placed
pub all_placed : (q : Problem) (values near : List ℕ) (all : ℕ) (injective by_edges : Bool) (placed p : ℕ) → IsTable q values near all injective by_edges → placed < 2 ^ 64
    → bit_and all (bit_not w64 placed) ≡ 0 → p < size q.pattern → is_set placed p ≡ true
all_placed q values near all injective by_edges placed p table small none p_in =
    none_alone all placed p small (omega (arith, p_in, table.small.pattern)) none (table.all_is p ∙ lt-ltb p (size q.pattern) p_in)

-- a list filled place by place
pub set_more : (P : ℕ → ℕ → Type 0) (xs : List ℕ) (at x n : ℕ) → at ≡ n → n < length xs → ((k : ℕ) → k < n → P k (get_or xs k 0)) → P n x
    → (k : ℕ) → k < n + 1 → P k (get_or (set xs at x) k 0)
set_more P xs at x n is room before here k l = rw is (by (cases_eq k n))
  where
    by : (k ≡ n) ⊎ (k ≡ n → ⊥) → P k (get_or (set xs n x) k 0)
    by (inl e) = subst (λ (j : ℕ). P j (get_or (set xs n x) j 0)) (sym e) (subst (λ (v : ℕ). P n v) (sym (get_or-set_same xs n x 0 room)) here)
    by (inr ne) = subst (λ (v : ℕ). P k v) (sym (get_or-set_other xs n k x 0 ne)) (before k (omega arith))
