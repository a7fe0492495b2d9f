-- Rows of a book of nogoods: the path that each stands for, and when a list of rows is sound for a problem.
-- (Nogoods from restarts: C. Lecoutre, L. Sais, S. Tabary, V. Vidal 2007.)

use Rattle.std.specs.Prelude.{◌≡◌, ℕ, ◌+◌, ◌^◌, ◌<◌, List, [], ◌∷◌, ◌++◌, length, Option, Some, None, slice_get}
use Rattle.graph_theory.specs.Graph.{size}
use Rattle.graph_theory.specs.Embedding.{Problem}
use Rattle.graph_theory.specs.Path.{NotOn, IsPath, Dead}
use Rattle.nogood_book.specs.declared.row.Row.{Row}
use Rattle.nogood_book.specs.declared.row.RowKind.{RowKind}
use Rattle.nogood_book.specs.declared.row.RowKind.TheVariants.{Step, Nogood}

-- A list of pairs of a pattern vertex and a target vertex.
abbrev pub Pairs : Type 0
Pairs = List (ℕ × ℕ)

abbrev pub or_empty : Option Pairs → Pairs
or_empty None = []
or_empty (Some xs) = xs

-- ---- the path of a row

-- Where a parent leads, by the paths of the rows so far. No parent leads to the empty path.
abbrev pub above : List Pairs → Option ℕ → Pairs
above known None = []
above known (Some k) = or_empty (slice_get known k)

-- The path of a row is that of its parent, and then its own pair.
abbrev pub path_of : List Pairs → Row → Pairs
path_of known r = above known r.parent ++ (r.vertex, r.value) ∷ []

abbrev pub paths_after : List Pairs → List Row → List Pairs
paths_after known [] = known
paths_after known (r ∷ rs) = paths_after (known ++ path_of known r ∷ []) rs

-- The paths of all rows, in order.
abbrev pub paths : List Row → List Pairs
paths rows = paths_after [] rows

-- The path of row k, or the empty one past the end.
abbrev pub path_at : List Row → ℕ → Pairs
path_at rows k = or_empty (slice_get (paths rows) k)

-- ---- soundness

-- A parent's place plus 1, or 0 for no parent.
abbrev pub parent_code : Option ℕ → ℕ
parent_code None = 0
parent_code (Some k) = k + 1

-- The numbers of a row are in the ranges that its word has room for.
pub record IsNarrow (r : Row) : Type 0 where
  pub value : r.value < 2 ^ 13
  pub vertex : r.vertex < 2 ^ 10
  pub parent : parent_code r.parent < 2 ^ 24
  pub owner : r.owner < 2 ^ 7

-- A parent is one of the rows, and a step.
abbrev pub HasParent : List Row → Option ℕ → Type 0
HasParent rows None = Unit {0}
HasParent rows (Some k) = (p : Row) × (slice_get rows k ≡ Some p) × (p.kind ≡ Step)

-- The path of a nogood is dead. Of a step's path nothing is asked.
abbrev pub DeadFor : Problem → RowKind → Pairs → Type 0
DeadFor q Step path = Unit {0}
DeadFor q Nogood path = Dead q path

-- A row may be written behind these rows: its parent is a step among them, its vertex is not on the parent's path, its pair is in the
-- problem's range, and the path of a nogood is dead.
pub record MayFollow (q : Problem) (rows : List Row) (r : Row) : Type 0 where
  pub narrow : IsNarrow r
  pub parent : HasParent rows r.parent
  pub fresh : NotOn (above (paths rows) r.parent) r.vertex
  pub vertex : r.vertex < size q.pattern
  pub value : r.value < size q.target
  pub dead : DeadFor q r.kind (path_of (paths rows) r)

abbrev pub SoundAfter : Problem → List Row → List Row → Type 0
SoundAfter q before [] = Unit {0}
SoundAfter q before (r ∷ rs) = MayFollow q before r × SoundAfter q (before ++ r ∷ []) rs

-- Rows are sound for a problem where each may follow those before it.
abbrev pub Sound : Problem → List Row → Type 0
Sound q rows = SoundAfter q [] rows

-- ---- the same, row by row

-- A parent lies below its row and is a step.
abbrev pub StandsBelow : List Row → ℕ → Option ℕ → Type 0
StandsBelow rows k None = Unit {0}
StandsBelow rows k (Some j) = (j < k) × HasParent rows (Some j)

-- Each pair is of a pattern vertex and a target vertex of the problem.
abbrev pub AreInRange : Problem → Pairs → Type 0
AreInRange q [] = Unit {0}
AreInRange q (x ∷ xs) = (x.0 < size q.pattern) × (x.1 < size q.target) × AreInRange q xs

-- What is so of row k of sound rows.
pub record IsSoundRow (q : Problem) (rows : List Row) (k : ℕ) (r : Row) : Type 0 where
  pub parent : StandsBelow rows k r.parent
  pub path_is : path_at rows k ≡ path_of (paths rows) r
  pub path : IsPath (path_at rows k)
  pub range : AreInRange q (path_at rows k)
  pub dead : DeadFor q r.kind (path_at rows k)

-- In sound rows each parent lies below its row and is a step, each path is a path in the problem's range, and that of a nogood is dead.
abbrev pub SoundRowByRow : Type 0
SoundRowByRow = (q : Problem) (rows : List Row) → Sound q rows → (k : ℕ) (r : Row)
    → slice_get rows k ≡ Some r → IsSoundRow q rows k r

-- The path of each nogood among sound rows is dead, however many rows follow.
abbrev pub NogoodsAreDead : Type 0
NogoodsAreDead = (q : Problem) (rows : List Row) (k : ℕ) (r : Row) → Sound q rows
    → slice_get rows k ≡ Some r → r.kind ≡ Nogood → Dead q (path_at rows k)

-- A path does not change as rows follow.
abbrev pub PathsStay : Type 0
PathsStay = (rows more : List Row) (k : ℕ) → k < length rows
    → path_at (rows ++ more) k ≡ path_at rows k

-- What holds of sound rows and their paths.
pub record RowLaws : Type 0 where
  pub row_by_row : SoundRowByRow
  pub dead : NogoodsAreDead
  pub stay : PathsStay
