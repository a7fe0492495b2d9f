-- Graphs without directions and without labels of edges.

use Rattle.std.specs.Prelude.{◌≡◌, ℕ, List, Some}
use Rattle.graph_theory.specs.Graph.{Graph, edge}
use Rattle.graph_theory.specs.GraphText.{ReadsGraph}
use Rattle.graph_theory.specs.Embedding.{Problem}
use Rattle.graph_theory.specs.declared.lad_text.LadKind.{LadKind}
use Rattle.graph_theory.specs.declared.lad_text.LadKind.TheVariants.{Lad, VertexLabelledLad, DirectedLad, LabelledLad}

-- Each edge stands both ways, with label 0.
pub record IsPlain (g : Graph) : Type 0 where
  pub both : (a b : ℕ) → edge g a b ≡ edge g b a
  pub zeros : (a b l : ℕ) → edge g a b ≡ Some l → l ≡ 0

-- Both graphs of a problem are plain.
pub record ArePlain (q : Problem) : Type 0 where
  pub pattern_plain : IsPlain q.pattern
  pub target_plain : IsPlain q.target

-- A format without directions.
abbrev pub IsUndirected : LadKind → Type 0
IsUndirected Lad = Unit {0}
IsUndirected VertexLabelledLad = Unit {0}
IsUndirected DirectedLad = ⊥
IsUndirected LabelledLad = ⊥

-- The graph of a text without directions is plain.
abbrev pub UndirectedIsPlain : Type 0
UndirectedIsPlain = (ws : List (List ℕ)) (kind : LadKind) (limit : ℕ) (g : Graph)
    → IsUndirected kind → ReadsGraph ws kind limit g → IsPlain g
