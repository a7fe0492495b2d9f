-- Images that fit beside those before them.

use Rattle.std.specs.Prelude.{ℕ, ◌<◌, List, slice_index}
use Rattle.graph_theory.specs.Graph.{size}
use Rattle.graph_theory.specs.Embedding.{Problem, Allowed, Compatible}

-- Vertex p at t goes together with each of the first n vertices at its image.
pub record FitsFirst (q : Problem) (m : List ℕ) (p t n : ℕ) : Type 0 where
  pub each : (r : ℕ) → r < n → Compatible q p t r (slice_index m r)

-- The image of p is a target vertex that is allowed and goes together with the images before it.
pub record Fits (q : Problem) (m : List ℕ) (p : ℕ) : Type 0 where
  pub value : slice_index m p < size q.target
  pub alone : Allowed q p (slice_index m p)
  pub first : FitsFirst q m p (slice_index m p) p
