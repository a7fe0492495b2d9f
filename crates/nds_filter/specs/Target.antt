-- The sequences that are kept of a target.

use Rattle.std.specs.Prelude.{◌≡◌, ℕ, List, Option, IfSome}
use Rattle.graph_theory.specs.Graph.{Graph}
use Rattle.graph_theory.specs.Reversed.{reversed}
use Rattle.nds_filter.specs.Sequences.{sequences}

-- Sequences in both directions; against the edges there may be none.
pub record Kept : Type 0 where
  pub out : List (List ℕ)
  pub back : Option (List (List ℕ))

-- They are those of a graph.
pub record AreOf (k : Kept) (g : Graph) : Type 0 where
  pub out_are : k.out ≡ sequences g
  pub back_are : IfSome k.back (λ b. b ≡ sequences (reversed g))
