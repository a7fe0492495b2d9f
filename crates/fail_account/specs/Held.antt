-- How an account is held: its path, and a bit row of refuted values for each level of it and for the one after it.

use Rattle.std.specs.Prelude.{◌≡◌, ℕ, ◌+◌, ◌*◌, ◌^◌, ◌<◌, ◌≤◌, false, List, [], ◌∷◌, length, Option, Some, None}
use Rattle.std.proofs.Common.{zero, suc}
use Rattle.graph_theory.specs.Neighbours.{members}
use Rattle.graph_theory.specs.Path.{NotOn, IsPath}
use Rattle.bit_rows.specs.BitRows.{words_for}
use Rattle.graph_rows.specs.Held.{marked}
use Rattle.search_theory.specs.Bounds.{cutoff}
use Rattle.search_theory.specs.Account.{Step, Account, InRange}
use Rattle.search_theory.specs.Remaining.{Bounded}

-- The values that are marked in the row of level i.
abbrev pub refuted_at : List ℕ → ℕ → ℕ → ℕ → List ℕ
refuted_at words width target i = members (marked words width i) target

-- The levels of these pairs, the first of them being level i.
abbrev pub steps_from : List ℕ → ℕ → ℕ → ℕ → List (ℕ × ℕ) → List Step
steps_from words width target i [] = []
steps_from words width target i (x ∷ xs) = record {
  vertex = x.0;
  value = x.1;
  refuted = refuted_at
      words width target i;
} ∷ steps_from words width target (suc i) xs

-- The account of a path, of the marks, of the vertex of the level after the path, and of the counts.
abbrev pub held : ℕ → ℕ → ℕ → List (ℕ × ℕ) → List ℕ → ℕ → Option ℕ → ℕ → ℕ → ℕ → Account
held pattern target budget path words width vertex count run all = record {
  pattern = pattern;
  target = target;
  budget = budget;
  steps = steps_from words width target 0 path;
  vertex = vertex;
  refuted = refuted_at words width target (length path);
  count = count;
  run = run;
  all = all;
}

-- The vertex of level i of a path that is followed by a level of this vertex.
abbrev pub vertex_at : List (ℕ × ℕ) → Option ℕ → ℕ → Option ℕ
vertex_at [] open_vertex zero = open_vertex
vertex_at [] open_vertex (suc i) = None
vertex_at (x ∷ xs) open_vertex zero = Some x.0
vertex_at (x ∷ xs) open_vertex (suc i) = vertex_at xs open_vertex i

-- No level's own value is marked there, the first level being i.
abbrev pub Unmarked : List ℕ → ℕ → ℕ → List (ℕ × ℕ) → Type 0
Unmarked words width i [] = Unit {0}
Unmarked words width i (x ∷ xs) = (marked words width i x.1 ≡ false)
    × Unmarked words width (suc i) xs

-- The vertex of the level after the path, if it has one, is a pattern vertex that is not on the path.
abbrev pub OpenAt : Option ℕ → ℕ → List (ℕ × ℕ) → Type 0
OpenAt None pattern path = Unit {0}
OpenAt (Some p) pattern path = (p < pattern) × NotOn path p

-- The path has each vertex once, the rows after the level that is open are empty, and the counts are within their bounds.
pub record Kept (pattern target budget : ℕ) (path : List (ℕ
    × ℕ)) (words : List ℕ) (width : ℕ) (vertex : Option ℕ)
    (count run all limit capacity : ℕ) : Type 0 where
  pub width_is : width ≡ words_for target
  pub long : length words ≡ (pattern + 1) * width
  pub vertices : IsPath path
  pub range : InRange pattern target path
  pub open_at : OpenAt vertex pattern path
  pub unmarked : Unmarked words width 0 path
  pub padded : (i t : ℕ) → i ≤ pattern → target ≤ t → t < 64 * width
      → marked words width i t ≡ false
  pub clear : (i t : ℕ) → length path < i → i ≤ pattern → t < 64 * width
      → marked words width i t ≡ false
  pub bounded : Bounded (held pattern target budget path words width vertex count run all)
  pub room : pattern ≤ capacity
  pub limit_is : limit ≡ cutoff run
  pub modest : budget < 2 ^ 63
