-- The best vertex of those that are not past.

use Rattle.std.proofs.Common.{◌≡◌, ℕ, ◌+◌, ◌<◌, ◌≤◌, List, length, slice_index, Option, Some, None, IfSome, IfNone, refl, sym, subst, arith, ◌⊎◌, inl, inr}
use Rattle.std.proofs.lemmas.Bool.{cases_eq}
use Rattle.graph_theory.specs.Graph.{size}
use Rattle.graph_theory.specs.Embedding.{Problem}
use Rattle.search_theory.specs.Claims.{Single, Quiet}
use Rattle.domain_bits.specs.Removals.{State, in_domain, size_of}
use Rattle.sparse_set.specs.Removals as sparse
use Rattle.recorder.specs.Telling.{IsOf}
use Rattle.propagation.specs.Propagation.{LeavesPast}
use Rattle.propagation.proofs.Walking.{Lists, each_number}
use Rattle.propagation.proofs.Past.{past_single, no_member_past}
use Rattle.restart_search.specs.Degrees.{either_degree}
use Rattle.restart_search.specs.Searching.{IsBest, IsNextBest, IsUndecided, ComesFirst}

-- ---- the order

-- what comes before a vertex that comes before another comes before that one
comes_on : (q : Problem) (d : State) (s p r : ℕ) → ComesFirst q d p r → ComesFirst q d s p → ComesFirst q d s r
comes_on q d s p r h k = by_sizes (size_of d s) (size_of d p) (size_of d r) (either_degree q.pattern s) (either_degree q.pattern p) (either_degree q.pattern r) h k
  where
    by_sizes : (a b c x y z : ℕ) → (b < c) ⊎ ((b ≡ c) × ((z < y) ⊎ ((y ≡ z) × (p < r)))) → (a < b) ⊎ ((a ≡ b) × ((y < x) ⊎ ((x ≡ y) × (s < p))))
        → (a < c) ⊎ ((a ≡ c) × ((z < x) ⊎ ((x ≡ z) × (s < r))))
    by_sizes a b c x y z (inl less) (inl below) = inl (omega arith)
    by_sizes a b c x y z (inl less) (inr (same, rest)) = inl (omega arith)
    by_sizes a b c x y z (inr (same, rest)) (inl below) = inl (omega arith)
    by_sizes a b c x y z (inr (same, inl more)) (inr (equal, inl still)) = inr (omega arith, inl (omega arith))
    by_sizes a b c x y z (inr (same, inl more)) (inr (equal, inr (like, lower))) = inr (omega arith, inl (omega arith))
    by_sizes a b c x y z (inr (same, inr (alike, low))) (inr (equal, inl still)) = inr (omega arith, inl (omega arith))
    by_sizes a b c x y z (inr (same, inr (alike, low))) (inr (equal, inr (like, lower))) = inr (omega arith, inr (omega arith, omega arith))

-- no vertex comes before itself
comes_not : (q : Problem) (d : State) (p : ℕ) → ComesFirst q d p p → ⊥
comes_not q d p (inl less) = omega (arith, less)
comes_not q d p (inr (same, inl more)) = omega (arith, more)
comes_not q d p (inr (same, inr (alike, low))) = omega (arith, low)

-- a vertex that comes first is the next best
pub next_first : (q : Problem) (d : State) (p r : ℕ) → ComesFirst q d p r → IsNextBest q d p (Some r) p
next_first q d p r h = (λ undecided before. comes_not q d p before, λ s before. comes_on q d s p r h before)

-- so is the only one
pub next_only : (q : Problem) (d : State) (p : ℕ) → IsNextBest q d p None p
next_only q d p = (λ undecided before. comes_not q d p before, tt)

-- and the best one stays so where the other does not come before it
pub next_still : (q : Problem) (d : State) (p r : ℕ) → (ComesFirst q d p r → ⊥) → IsNextBest q d p (Some r) r
next_still q d p r h = (λ undecided before. h before, λ s before. before)

-- or is decided
pub next_decided : (q : Problem) (d : State) (p : ℕ) (best : Option ℕ) → (t : ℕ) × Single (in_domain d) p t → IfSome best (IsNextBest q d p best)
next_decided q d p None one = tt
next_decided q d p (Some r) one = (λ undecided before. undecided.1 one.0 one.1, λ s before. before)

-- ---- one after the other

-- after a look at the first k of the list
pub record Looked (q : Problem) (d : State) (members : List ℕ) (best : Option ℕ) (k : ℕ) : Type 0 where
  pub some : IfSome best (IsUndecided d)
  pub first : IfSome best (λ b. (j : ℕ) → j < k → IsUndecided d (slice_index members j) → ComesFirst q d (slice_index members j) b → ⊥)
  pub none : IfNone best ((j : ℕ) → j < k → (t : ℕ) × Single (in_domain d) (slice_index members j) t)

pub looked_more : (q : Problem) (d : State) (members : List ℕ) (best next : Option ℕ) (k : ℕ) → Looked q d members best k → IfSome next (IsUndecided d)
    → IfSome next (IsNextBest q d (slice_index members k) best)
    → IfNone next ((best ≡ None) × ((t : ℕ) × Single (in_domain d) (slice_index members k) t)) → Looked q d members next (k + 1)
looked_more q d members best (Some p) k l some better none = record { some = some; first = λ j j_in. by_place j j_in (cases_eq j k); none = tt }
  where
    earlier : (o : Option ℕ) → IfSome o (λ r. (s : ℕ) → ComesFirst q d s p → ComesFirst q d s r)
        → IfSome o (λ b. (j : ℕ) → j < k → IsUndecided d (slice_index members j) → ComesFirst q d (slice_index members j) b → ⊥)
        → IfNone o ((j : ℕ) → j < k → (t : ℕ) × Single (in_domain d) (slice_index members j) t)
        → (j : ℕ) → j < k → IsUndecided d (slice_index members j) → ComesFirst q d (slice_index members j) p → ⊥
    earlier None m f n j j_in undecided before = let one = n j j_in in undecided.1 one.0 one.1
    earlier (Some r) m f n j j_in undecided before = f j j_in undecided (m (slice_index members j) before)

    by_place : (j : ℕ) → j < k + 1 → (j ≡ k) ⊎ (j ≡ k → ⊥) → IsUndecided d (slice_index members j) → ComesFirst q d (slice_index members j) p → ⊥
    by_place j j_in (inl is) = subst (λ (i : ℕ). IsUndecided d (slice_index members i) → ComesFirst q d (slice_index members i) p → ⊥) (sym is) better.0
    by_place j j_in (inr other) = earlier best better.1 l.first l.none j (omega (arith, j_in, other))
looked_more q d members best None k l some better none = record { some = tt; first = tt; none = λ j j_in. by_place j j_in (cases_eq j k) }
  where
    earlier : (o : Option ℕ) → o ≡ None → IfNone o ((j : ℕ) → j < k → (t : ℕ) × Single (in_domain d) (slice_index members j) t)
        → (j : ℕ) → j < k → (t : ℕ) × Single (in_domain d) (slice_index members j) t
    earlier None e h = h
    earlier (Some p) e h = cc

    by_place : (j : ℕ) → j < k + 1 → (j ≡ k) ⊎ (j ≡ k → ⊥) → (t : ℕ) × Single (in_domain d) (slice_index members j) t
    by_place j j_in (inl is) = subst (λ (i : ℕ). (t : ℕ) × Single (in_domain d) (slice_index members i) t) (sym is) none.1
    by_place j j_in (inr other) = earlier best none.0 l.none j (omega (arith, j_in, other))

pub looked_all : (q : Problem) (d : State) (members : List ℕ) (s : sparse.State) (best : Option ℕ) (k : ℕ) → IsOf q d → Quiet q (in_domain d) → LeavesPast q d s → Lists members s
    → length members ≤ k → Looked q d members best k → IsBest q d best (size q.pattern)
looked_all q d members s (Some p) k is quiet left lists end l = record {
  undecided = l.some;
  first = λ r undecided.
      each_number (size q.pattern) (λ v. IsUndecided d v → ComesFirst q d v p → ⊥) members s lists (λ j j_in. l.first j (omega (arith, j_in, end)))
      (λ v v_in out free before. let one = past_single q d v (no_member_past q d s v left v_in out) (quiet.some v v_in) in free.1 one.0 one.1)
      r (subst (λ (n : ℕ). r < n) is.vertices_is undecided.0) undecided;
}
looked_all q d members s None k is quiet left lists end l =
    each_number (size q.pattern) (λ p. (t : ℕ) × Single (in_domain d) p t) members s lists (λ j j_in. l.none j (omega (arith, j_in, end)))
    (λ p p_in out. past_single q d p (no_member_past q d s p left p_in out) (quiet.some p p_in))

-- none is best before and after a vertex that is decided
pub none_still : (X : Type 0) (best : Option ℕ) → X → IfNone best ((best ≡ None) × X)
none_still X None x = (refl, x)
none_still X (Some p) x = tt
