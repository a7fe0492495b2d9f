-- An embedding, by its vertices one by one and in pairs.

use Rattle.std.proofs.Common.{◌≡◌, ℕ, ◌<◌, true, List, slice_index, subst, ◌⊎◌, inl, inr}
use Rattle.std.proofs.lemmas.Bool.{cases_eq}
use Rattle.graph_theory.specs.Graph.{size, edge}
use Rattle.graph_theory.specs.Embedding.{Problem, differ, Embeds, Pairwise, Matches, EmbedsByPairs}

-- what is right vertex by vertex and pair by pair embeds
pub embeds-from_pairs : (q : Problem) (m : List ℕ) → Pairwise q m → Embeds q m
embeds-from_pairs q m w = record {
  size_is = w.size_is;
  values = w.values;
  distinct = λ p r p_in r_in two same. by_same p r p_in r_in two same (cases_eq p r);
  labels = λ p p_in. (w.alone p p_in).label_is;
  edges = λ p r p_in r_in. by_edge p r p_in r_in (cases_eq p r);
  order = w.order;
}
  where
    by_same : (p r : ℕ) → p < size q.pattern → r < size q.pattern → differ q p r ≡ true → slice_index m p ≡ slice_index m r
        → (p ≡ r) ⊎ (p ≡ r → ⊥) → p ≡ r
    by_same p r p_in r_in two same (inl e) = e
    by_same p r p_in r_in two same (inr n) = absurd ((w.pairs p r p_in r_in n).apart two same)

    by_edge : (p r : ℕ) → p < size q.pattern → r < size q.pattern → (p ≡ r) ⊎ (p ≡ r → ⊥)
        → Matches q.induced (edge q.pattern p r) (edge q.target (slice_index m p) (slice_index m r))
    by_edge p r p_in r_in (inl e) =
        subst (λ (v : ℕ). Matches q.induced (edge q.pattern p v) (edge q.target (slice_index m p) (slice_index m v))) e (w.alone p p_in).loop_is
    by_edge p r p_in r_in (inr n) = (w.pairs p r p_in r_in n).out

-- and an embedding is that
pub pairs-from_embeds : (q : Problem) (m : List ℕ) → Embeds q m → Pairwise q m
pairs-from_embeds q m e = record {
  size_is = e.size_is;
  values = e.values;
  alone = λ p p_in. record { label_is = e.labels p p_in; loop_is = e.edges p p p_in p_in };
  pairs = λ p r p_in r_in apart. record {
    apart = λ two same. apart (e.distinct p r p_in r_in two same);
    out = e.edges p r p_in r_in;
    back = e.edges r p r_in p_in;
  };
  order = e.order;
}

pub embeds_by_pairs_holds : EmbedsByPairs
embeds_by_pairs_holds q m = (pairs-from_embeds q m, embeds-from_pairs q m)
