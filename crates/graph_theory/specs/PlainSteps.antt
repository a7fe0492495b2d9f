-- Steps of the plain tests of a mapping and of a path; a reader may pass over them.

use Rattle.std.specs.Prelude.{◌≡◌, ℕ, ◌<◌, true, List, [], ◌++◌, Option, Some, None, slice_index}
use Rattle.std.specs.Global.{Vec}
use Rattle.graph_theory.specs.Graph.{size, label, edge}
use Rattle.graph_theory.specs.Embedding.{Problem, differ, Matches, Embeds}
use Rattle.graph_theory.specs.Path.{Extends}

-- The pairs of a list that may be missing.
abbrev pub pairs_of : Option (Vec (ℕ × ℕ)) → List (ℕ × ℕ)
pairs_of None = []
pairs_of (Some v) = v.items

-- Vertex p may go to t: t is a target vertex, and has its label.
pub record IsImage (q : Problem) (p t : ℕ) : Type 0 where
  pub value : t < size q.target
  pub label_is : label q.target t ≡ label q.pattern p

-- Each vertex may go where the list says.
pub record AreImages (q : Problem) (m : List ℕ) : Type 0 where
  pub each : (p : ℕ) → p < size q.pattern → IsImage q p (slice_index m p)

-- The images of p and r are two where these are and the maps ask for it, and keep the edges from p to r.
pub record PairIsKept (q : Problem) (m : List ℕ) (p r : ℕ) : Type 0 where
  pub distinct : differ q p r ≡ true → slice_index m p ≡ slice_index m r → p ≡ r
  pub edge_is : Matches q.induced (edge q.pattern p r) (edge q.target (slice_index m p)
      (slice_index m r))

-- The image of p is right beside that of each vertex.
pub record RowIsKept (q : Problem) (m : List ℕ) (p : ℕ) : Type 0 where
  pub each : (r : ℕ) → r < size q.pattern → PairIsKept q m p r

-- Each image is right beside each.
pub record RowsAreKept (q : Problem) (m : List ℕ) : Type 0 where
  pub rows : (p : ℕ) → p < size q.pattern → RowIsKept q m p

-- Some embedding begins with these images and has each pair of the path.
pub record Completes (q : Problem) (path : List (ℕ × ℕ)) (front : List ℕ) : Type 0 where
  pub rest : List ℕ
  pub embeds : Embeds q (front ++ rest)
  pub extends : Extends path (front ++ rest)
