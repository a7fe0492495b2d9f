-- Edges and their images where labels are left aside, and graphs whose edges all have one label.

use Rattle.std.specs.Prelude.{◌≡◌, ℕ, ◌<◌, Some, Bool, true, false, not}
use Rattle.graph_theory.specs.Graph.{Graph, size, edge}

-- Each edge has label 0.
pub record HasZeroLabels (g : Graph) : Type 0 where
  pub zeros : (a b l : ℕ) → a < size g → b < size g → edge g a b ≡ Some l → l ≡ 0

-- An edge goes to an edge, and in the induced kind no edge to none, whatever the labels: (whether the kind is induced, whether an edge stands, whether it does in the image).
abbrev pub agree : Bool → Bool → Bool → Bool
agree induced true image = image
agree true false image = not image
agree false false image = true
