-- The kinds of a problem's pairs, as what holds their rows sees them.

use Rattle.std.specs.Prelude.{◌≡◌, ℕ, ◌*◌, ◌≤◌, Bool, true, List}
use Rattle.graph_theory.specs.Graph.{Graph, size}
use Rattle.graph_theory.specs.Embedding.{Problem}
use Rattle.graph_theory.specs.Reversed.{reversed, IsMutual}
use Rattle.bit_rows.specs.BitRows.{words_for}
use Rattle.pair_supports.specs.declared.kinds.PairKind.{PairKind}
use Rattle.pair_supports.specs.Kinds.{AreKinds}

-- The problem, how many vertices its pattern has and how many words a row, the kinds, the place of each pair's kind, the
-- graphs whose shared neighbours are counted, whether edges of the target are known to stand both ways, and whether a kind asks for neighbours
-- shared along edges, and against them.
pub record Shape : Type 0 where
  pub problem : Problem
  pub vertices : ℕ
  pub width : ℕ
  pub kinds : List PairKind
  pub places : List ℕ
  pub counted : Graph
  pub in_counted : Graph
  pub both_ways : Bool
  pub asks_shared : Bool
  pub asks_in_shared : Bool

-- They are those of the problem.
pub record Shaped (q : Problem) (vertices width : ℕ) (kinds : List PairKind) (places : List ℕ)
    (counted in_counted : Graph) (both_ways : Bool) : Type 0 where
  pub few_pattern : size q.pattern ≤ 1024
  pub few_target : size q.target ≤ 8192
  pub vertices_are : vertices ≡ size q.pattern
  pub width_is : width ≡ words_for (size q.target)
  pub classed : AreKinds q kinds places (size q.pattern * size q.pattern)
  pub counted_is : counted ≡ q.target
  pub in_counted_is : in_counted ≡ reversed q.target
  pub both : both_ways ≡ true → IsMutual q.target
