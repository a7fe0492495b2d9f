-- Dead paths: what extends a longer path extends a shorter one, and a vertex has some value.

use Rattle.std.proofs.Common.{◌≡◌, ℕ, ◌<◌, List, [], ◌∷◌, ◌++◌, length, slice_index, refl, sym, subst}
use Rattle.graph_theory.specs.Path.{Extends, LongerIsDead, EachValueDead, EmptyIsDead, PathLaws}

-- a list that has each pair of a path has each of a front of it
pub extends_front : (path more : List (ℕ × ℕ)) (m : List ℕ) → Extends (path ++ more) m → Extends path m
extends_front [] more m h = tt
extends_front (x ∷ xs) more m h = (h.0, h.1, extends_front xs more m h.2)

-- and with one pair more it has each of the longer path
pub extends_more : (path : List (ℕ × ℕ)) (p t : ℕ) (m : List ℕ) → Extends path m → p < length m → slice_index m p ≡ t → Extends (path ++ (p, t) ∷ []) m
extends_more [] p t m h inside e = (inside, e, tt)
extends_more (x ∷ xs) p t m h inside e = (h.0, h.1, extends_more xs p t m h.2 inside e)

-- what it has of the longer path it has of the last pair
pub extends_last : (path : List (ℕ × ℕ)) (p t : ℕ) (m : List ℕ) → Extends (path ++ (p, t) ∷ []) m → slice_index m p ≡ t
extends_last [] p t m h = h.1
extends_last (x ∷ xs) p t m h = extends_last xs p t m h.2

-- a path that goes on from a dead one is dead
pub longer_is_dead : LongerIsDead
longer_is_dead q path more dead = λ m e h. dead m e (extends_front path more m h)

-- where each value of a further vertex makes the path dead, it is dead
pub each_value_dead : EachValueDead
each_value_dead q path p p_in each = λ m e h. each (slice_index m p) (e.values p p_in) m e
    (extends_more path p (slice_index m p) m h (subst (λ (n : ℕ). p < n) (sym e.size_is) p_in) refl)

-- the empty path is dead exactly where no embedding exists
pub empty_is_dead : EmptyIsDead
empty_is_dead q = (λ dead m e. dead m e tt, λ none m e h. none m e)

pub path_laws_hold : PathLaws
path_laws_hold = record { longer = longer_is_dead; each_value = each_value_dead; empty = empty_is_dead }
