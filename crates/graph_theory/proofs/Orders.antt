-- The order of images, pair by pair.

use Rattle.std.proofs.Common.{◌≡◌, ℕ, zero, suc, ◌<◌, List, [], ◌∷◌, length, Some, slice_get, slice_index, refl, subst}
use Rattle.graph_theory.specs.Embedding.{InOrder}

-- The images of one pair rise, where both vertices have one.
abbrev pub Rises : ℕ × ℕ → List ℕ → Type 0
Rises x m = x.0 < length m → x.1 < length m → slice_index m x.0 < slice_index m x.1

-- of images in order those of each pair rise
pub rises_at : (xs : List (ℕ × ℕ)) (m : List ℕ) (k : ℕ) (x : ℕ × ℕ) → InOrder xs m → slice_get xs k ≡ Some x → Rises x m
rises_at [] m k x order is = absurd (cc)
rises_at (y ∷ ys) m zero x order is = let same : y ≡ x = cc in subst (λ (z : ℕ × ℕ). Rises z m) same order.0
rises_at (y ∷ ys) m (suc k) x order is = rises_at ys m k x order.1 is

-- and images of which those of each pair rise are in order
pub order_of : (xs : List (ℕ × ℕ)) (m : List ℕ) → ((k : ℕ) (x : ℕ × ℕ) → slice_get xs k ≡ Some x → Rises x m) → InOrder xs m
order_of [] m each = tt
order_of (y ∷ ys) m each = (each zero y refl, order_of ys m (λ k x is. each (suc k) x is))
