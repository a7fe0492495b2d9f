-- How a graph is held: a row of marks for each vertex, one row after another, and the degrees; beside them the rows of the edges that lead in,
-- where these are others, and the labels of the edges, where there are any, in the order of the marks.

use Rattle.std.specs.Prelude.{◌≡◌, ℕ, ◌+◌, ◌*◌, ◌<◌, ◌≤◌, ◌==◌, Bool, true, false, ◌&&◌, ◌||◌, not, List, [], ◌∷◌, length, Option, Some, None, slice_index, slice_index_or, if◌then◌else◌}
use Rattle.graph_theory.specs.Graph.{Graph, tabulate}
use Rattle.bit_rows.specs.BitRows.{has, words_for}
use Rattle.graph_theory.specs.Neighbours.{count}
use Rattle.lad_reader.specs.Parts.{AllBelow, with_labels}

-- Whether b is marked in the row of a, where a row has so many words.
abbrev pub marked : List ℕ → ℕ → ℕ → ℕ → Bool
marked words width a b = has words (a * (64 * width) + b)

-- A mark stands for an edge of label 0.
abbrev pub edge_of_mark : Bool → Option ℕ
edge_of_mark m = if m then Some 0 else None

-- A mark stands for an edge of this label.
abbrev pub edge_held : Bool → ℕ → Option ℕ
edge_held m label = if m then Some label else None

-- The label of the edge from a to b, where b is marked in the row of a: those of a begin where the starts say, and before that of b stand as many as
-- are marked before b. Where no labels are kept it is 0.
abbrev pub label_kept : List ℕ → List ℕ → List ℕ → ℕ → ℕ → ℕ → ℕ
label_kept starts labels words width a b = slice_index labels (slice_index starts a + count
    (marked words width a) b)

-- The graph of these labels, marks and labels of edges.
abbrev pub graph_held : List ℕ → List ℕ → (ℕ → ℕ → ℕ) → ℕ → Graph
graph_held labels words label_at width = record {
  labels = labels;
  rows = tabulate (length labels) (λ a. tabulate (length labels) (λ b. edge_held
      (marked words width a b) (label_at a b)));
}

-- Another vertex that is marked in the row of a.
abbrev pub marks_other : List ℕ → ℕ → ℕ → ℕ → Bool
marks_other words width a b = not (a == b) && marked words width a b

-- The marks of n vertices: all below n in each row, and counted.
pub record AreMarks (n width : ℕ) (words degrees : List ℕ) : Type 0 where
  pub few : n ≤ 8192
  pub width_is : width ≡ words_for n
  pub words_are : length words ≡ n * width
  pub degrees_are : length degrees ≡ n
  pub padded : (a b : ℕ) → a < n → n ≤ b → b < 64 * width → marked words width a b ≡ false
  pub counted : (a : ℕ) → a < n → slice_index degrees a ≡ count (marks_other words width a) n

-- Rows of n vertices without marks, and lists of neighbours, one for each of them, by which they can be marked.
pub record AreUnmarked (n width : ℕ) (words degrees : List ℕ) (lists : List (List ℕ)) : Type 0 where
  pub marks : AreMarks n width words degrees
  pub empty : (x y : ℕ) → marked words width x y ≡ false
  pub all : length lists ≡ n
  pub to : AllBelow n lists

-- Of n vertices, b is marked in the row of a where a is marked in the row of b.
pub record AreMutual (n width : ℕ) (words : List ℕ) : Type 0 where
  pub each : (a b : ℕ) → a < n → b < n → marked words width a b ≡ marked words width b a

-- The rows of the edges that lead in: b is marked in the row of a where a is marked in the row of b.
pub record AreTurned (n width : ℕ) (words back degrees : List ℕ) : Type 0 where
  pub marks : AreMarks n width back degrees
  pub each : (a b : ℕ) → a < n → b < n → marked back width a b ≡ marked words width b a

-- They are kept, or there are none and the rows are their own.
pub record AreBack (n width : ℕ) (words back degrees : List ℕ) : Type 0 where
  pub own : length back ≡ 0 → AreMutual n width words
  pub kept : 0 < length back → AreTurned n width words back degrees

-- Of labels of edges each of n vertices has as many as are marked in its row, or none are kept.
pub record AreBeside (n width : ℕ) (words starts labels : List ℕ) : Type 0 where
  pub none : length starts ≡ 0 → length labels ≡ 0
  pub long : 0 < length starts → length starts ≡ n
  pub within : (a : ℕ) → a < length starts
      → slice_index starts a + count (marked words width a) (64 * width) ≤ length labels

-- The row holds those of the first n vertices that are marked in their own row.
pub record AreLoops (n width : ℕ) (words loops : List ℕ) : Type 0 where
  pub long : length loops ≡ width
  pub each : (a : ℕ) → a < n → has loops a ≡ marked words width a a
  pub none : (a : ℕ) → n ≤ a → has loops a ≡ false

-- Whether b stands in a list.
abbrev pub stands_in : List ℕ → ℕ → Bool
stands_in [] b = false
stands_in (c ∷ cs) b = c == b || stands_in cs b

-- Whether a lists b.
abbrev pub said : List (List ℕ) → ℕ → ℕ → Bool
said lists a b = stands_in (slice_index_or lists a []) b

-- Row a lists b, or the other way round.
abbrev pub either_said : List (List ℕ) → ℕ → ℕ → Bool
either_said lists a b = said lists a b || said lists b a

-- The rows have the marks that they had, and that of b in the row of a.
pub record AddsMark (width : ℕ) (old new : List ℕ) (a b : ℕ) : Type 0 where
  pub each : (x y : ℕ) → y < 64 * width → marked new width x y ≡ (marked old width x y
      || (a == x && b == y))

-- The rows have the marks that they had, and those of a list of vertices that have an edge with a.
pub record AddsListed (width : ℕ) (old new : List ℕ) (a : ℕ) (listed : List ℕ) : Type 0 where
  pub each : (x y : ℕ) → x < 64 * width → y < 64 * width
      → marked new width x y ≡ (marked old width x y || (a == x && stands_in listed y || a == y
      && stands_in listed x))

-- The rows have the marks that they had, and in that of a those of a list.
pub record AddsOut (width : ℕ) (old new : List ℕ) (a : ℕ) (listed : List ℕ) : Type 0 where
  pub each : (x y : ℕ) → x < 64 * width → y < 64 * width
      → marked new width x y ≡ (marked old width x y || (a == x && stands_in listed y))

-- The rows have the marks that they had, and a in those of a list.
pub record AddsIn (width : ℕ) (old new : List ℕ) (a : ℕ) (listed : List ℕ) : Type 0 where
  pub each : (x y : ℕ) → x < 64 * width → y < 64 * width
      → marked new width x y ≡ (marked old width x y || (a == y && stands_in listed x))

-- The label with which b is listed first, or 0.
abbrev pub label_in : List (ℕ × ℕ) → ℕ → ℕ
label_in [] b = 0
label_in (e ∷ es) b = if e.0 == b then e.1 else label_in es b

-- The label of the edge from a to b as it is listed.
abbrev pub label_listed : List (List ℕ) → List (List ℕ) → ℕ → ℕ → ℕ
label_listed lists labels a b = label_in (with_labels (slice_index_or lists a [])
    (slice_index_or labels a [])) b

-- At each vertex of a list stands the label with which it is listed first.
pub record AreFirst (listed labels found : List ℕ) : Type 0 where
  pub each : (b : ℕ) → stands_in listed b ≡ true
      → slice_index found b ≡ label_in (with_labels listed labels) b

-- The labels kept of n vertices are those with which each lists others first.
pub record AreListed (n width : ℕ) (words starts labels : List ℕ) (lists ess : List (List ℕ)) : Type 0 where
  pub each : (a b : ℕ) → a < n → b < 64 * width → marked words width a b ≡ true
      → label_kept starts labels words width a b ≡ label_listed lists ess a b
