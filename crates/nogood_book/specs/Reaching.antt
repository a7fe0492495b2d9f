-- Where a next row may be written: a parent and the path that it leads to.

use Rattle.std.specs.Prelude.{◌≡◌, ℕ, ◌^◌, ◌<◌, List, Option}
use Rattle.graph_theory.specs.Graph.{size}
use Rattle.graph_theory.specs.Embedding.{Problem}
use Rattle.graph_theory.specs.Path.{NotOn}
use Rattle.nogood_book.specs.declared.row.Row.{Row}
use Rattle.nogood_book.specs.Rows.{Pairs, paths, above, HasParent, parent_code}

-- The parent is a step among the rows, or none, and leads to this path.
pub record Reaches (rows : List Row) (parent : Option ℕ) (path : Pairs) : Type 0 where
  pub has : HasParent rows parent
  pub leads : above (paths rows) parent ≡ path
  pub narrow : parent_code parent < 2 ^ 24

-- A pair may stand behind the path: its vertex is not on it, and both are the problem's.
pub record MayStand (q : Problem) (path : Pairs) (pair : ℕ × ℕ) : Type 0 where
  pub fresh : NotOn path pair.0
  pub vertex : pair.0 < size q.pattern
  pub value : pair.1 < size q.target
