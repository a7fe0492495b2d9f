-- What one pass leaves of a row, where edges stand both ways and no label is asked.

use Rattle.std.proofs.Common.{◌≡◌, ◌∙◌, ℕ, ◌<◌, ◌==◌, ◌&&◌, not, nat_lt, Bool, true, false, is_some, List, refl, sym, ap, subst, ◌⊎◌}
use Rattle.std.proofs.lemmas.Bool.{true≢false, eqb-true, ltb-true}
use Rattle.graph_theory.specs.Graph.{size, edge}
use Rattle.graph_theory.specs.Embedding.{Problem, differ}
use Rattle.graph_theory.specs.Reversed.{reversed_problem, AreMutual}
use Rattle.bit_rows.specs.BitRows.{has}
use Rattle.needed_values.specs.Consistent.{agree, edges_agree, are_joined, HaveZeroLabels, IsParted}
use Rattle.needed_values.proofs.Agreeing.{apart_test, words_go, words_all, stays_back, kept_both}

module _ (q : Problem) (p t r : ℕ) (p_in : p < size q.pattern) (r_in : r < size q.pattern) (t_in : t < size q.target) (row near other left : List ℕ) (joined induced : Bool) (n : ℕ)
    (n_is : n ≡ size q.target) (joined_is : joined ≡ is_some (edge q.pattern p r)) (induced_is : induced ≡ q.induced) (near_is : (u : ℕ) → has near u ≡ is_some (edge q.target t u))
    (bits : (u : ℕ) → has other u ≡ (has row u && nat_lt u n)) (parted : (u : ℕ) → has left u ≡ (has other u && agree joined induced (has near u))) where
  other_within : (u : ℕ) → has other u ≡ true → u < size q.target
  other_within u h = subst (λ (k : ℕ). u < k) n_is (ltb-true u n (kept_both (has row u) (nat_lt u n) (has other u) (bits u) h).1)

  along_is : (u : ℕ) → has left u ≡ (has other u && edges_agree q p t r u)
  along_is u =
      parted u ∙ ap (λ (b : Bool). has other u && agree b induced (has near u)) joined_is
      ∙ ap (λ (b : Bool). has other u && agree (is_some (edge q.pattern p r)) b (has near u)) induced_is
      ∙ ap (λ (b : Bool). has other u && agree (is_some (edge q.pattern p r)) q.induced b) (near_is u)

  left_parts : (u : ℕ) → has left u ≡ true → (has other u ≡ true) × (edges_agree q p t r u ≡ true)
  left_parts u h = kept_both (has other u) (edges_agree q p t r u) (has left u) (along_is u) h

  module _ (ways : AreMutual q) (new : List ℕ) (cut_is : (u : ℕ) → has new u ≡ (has left u && not (differ q p r && (t == u)))) where
    back_is : (u : ℕ) → has left u ≡ (has left u && edges_agree (reversed_problem q) p t r u)
    back_is u = stays_back q p t r u p_in r_in t_in left (λ v h. other_within v (left_parts v h).0) (λ v h. (left_parts v h).1) ways

    -- Nothing is lost where the pass lost nothing, and t was not among what it left.
    parted_same : (same itself : Bool) → (same ≡ true → (u : ℕ) → has other u ≡ true → has left u ≡ true) → itself ≡ (differ q p r && has left t) → (same && not itself) ≡ true → (u : ℕ) → has other u ≡ true → has new u ≡ true
    parted_same false itself all is h u was = absurd cc
    parted_same true true all is h u was = absurd cc
    parted_same true false all is h u was =
        cut_is u ∙ ap (λ (b : Bool). b && not (differ q p r && (t == u))) (all refl u was)
        ∙ apart_test (differ q p r) t u (λ apart same. true≢false (sym (ap (λ (b : Bool). b && has left t) apart ∙ ap (has left) same ∙ all refl u was) ∙ sym is))

    pub parted_is : (same itself : Bool) → (same ≡ true → (u : ℕ) → has other u ≡ true → has left u ≡ true) → itself ≡ (differ q p r && has left t) → (are_joined q p r ≡ false) ⊎ HaveZeroLabels q → IsParted q p t r row other new (same && not itself)
    parted_is same itself all is free = record {
      bits = λ u. bits u ∙ ap (λ (k : ℕ). has row u && nat_lt u k) n_is;
      goes = words_go q p t r other left left new p_in r_in t_in other_within along_is back_is cut_is;
      all = words_all q p t r other left left new p_in r_in t_in other_within along_is back_is cut_is free;
      same = λ h. parted_same same itself all is h;
    }
