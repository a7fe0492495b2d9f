-- The plain tests of a mapping, put together.

use Rattle.std.proofs.Common.{◌≡◌, ℕ, Bool, true, false, not, IsTrue, ◌<◌, List, [], ◌∷◌, ◌++◌, length, slice_index, refl, sym, subst, append_assoc, length-append, arith}
use Rattle.graph_theory.specs.Path.{Extends, Dead}
use Rattle.graph_theory.specs.Graph.{size}
use Rattle.graph_theory.specs.Embedding.{Problem, InOrder, Embeds}
use Rattle.graph_theory.specs.PlainSteps.{AreImages, RowsAreKept, Completes}

-- images that are right one by one and row by row, and in order, embed
pub embeds-from_rows : (q : Problem) (m : List ℕ) → length m ≡ size q.pattern → AreImages q m → RowsAreKept q m → InOrder q.less m → Embeds q m
embeds-from_rows q m size_is images kept order = record {
  size_is = size_is;
  values = λ p p_in. (images.each p p_in).value;
  distinct = λ p r p_in r_in same. ((kept.rows p p_in).each r r_in).distinct same;
  labels = λ p p_in. (images.each p p_in).label_is;
  edges = λ p r p_in r_in. ((kept.rows p p_in).each r r_in).edge_is;
  order = order;
}

-- an embedding's images are right
pub images-from_embeds : (q : Problem) (m : List ℕ) → Embeds q m → AreImages q m
images-from_embeds q m e = record { each = λ p p_in. record { value = e.values p p_in; label_is = e.labels p p_in } }

-- and row by row
pub rows-from_embeds : (q : Problem) (m : List ℕ) → Embeds q m → RowsAreKept q m
rows-from_embeds q m e = record {
  rows = λ p p_in. record { each = λ r r_in. record { distinct = e.distinct p r p_in r_in; edge_is = e.edges p r p_in r_in } };
}

-- what stands after a front
first_after : (front : List ℕ) (u : ℕ) (us : List ℕ) → slice_index (front ++ u ∷ us) (length front) ≡ u
first_after [] u us = refl
first_after (x ∷ xs) u us = first_after xs u us

-- images that some embedding begins with, and that are too few, are followed by a target vertex
pub completes_more : (q : Problem) (path : List (ℕ × ℕ)) (front : List ℕ) → length front < size q.pattern
    → ((u : ℕ) → u < size q.target → Completes q path (front ++ u ∷ []) → ⊥) → Completes q path front → ⊥
completes_more q path front short each c = by_rest c.rest c.embeds c.extends
  where
    by_rest : (rest : List ℕ) → Embeds q (front ++ rest) → Extends path (front ++ rest) → ⊥
    by_rest [] e h = absurd (omega (arith, e.size_is, length-append front []))
    by_rest (u ∷ us) e h =
        let inside : u < size q.target = subst (λ (v : ℕ). v < size q.target) (first_after front u us) (e.values (length front) short) in
        let same : (front ++ u ∷ []) ++ us ≡ front ++ u ∷ us = append_assoc front (u ∷ []) us in
        each u inside (record {
          rest = us;
          embeds = subst (λ (m : List ℕ). Embeds q m) (sym same) e;
          extends = subst (λ (m : List ℕ). Extends path m) (sym same) h;
        })

-- an embedding with each pair of the path completes the empty list
pub completes_nothing : (q : Problem) (path : List (ℕ × ℕ)) → (Completes q path [] → ⊥) → Dead q path
completes_nothing q path none = λ m e h. none (record { rest = m; embeds = e; extends = h })

-- and what completes it is one
pub none_completes : (q : Problem) (path : List (ℕ × ℕ)) → Dead q path → Completes q path [] → ⊥
none_completes q path dead c = dead c.rest c.embeds c.extends

-- the path is dead exactly where nothing completes the empty list
pub dead_where_none : (q : Problem) (path : List (ℕ × ℕ)) (front : List ℕ) (b : Bool) → front ≡ [] → (IsTrue b → Completes q path front)
    → (b ≡ false → Completes q path front → ⊥) → (IsTrue (not b) → Dead q path) × (Dead q path → IsTrue (not b))
dead_where_none q path front true empty found none =
    (λ h. cc, λ dead. absurd (none_completes q path dead (subst (λ (xs : List ℕ). Completes q path xs) empty (found refl))))
dead_where_none q path front false empty found none =
    (λ _. completes_nothing q path (subst (λ (xs : List ℕ). Completes q path xs → ⊥) empty (none refl)), λ _. refl)
