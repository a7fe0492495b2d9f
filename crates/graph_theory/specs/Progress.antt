-- How far a reader has come among the words of a text: what its calls went over, and where they stop.

use Rattle.std.specs.Prelude.{◌≡◌, ℕ, ◌+◌, ◌<◌, List, [], ◌++◌, length, map, Option, Some, None}
use Rattle.graph_theory.specs.Lad.{Vertex, listed_numbers, listed_label, vertex_numbers, all_numbers, AreListed, IsVertex, AreVertices}
use Rattle.graph_theory.specs.LadFault.{ListBegun, Begun, clash, refused_at, first_of}
use Rattle.graph_theory.specs.declared.lad_text.LadKind.{LadKind}
use Rattle.graph_theory.specs.declared.lad_text.LadKind.TheVariants.{Lad, VertexLabelledLad, DirectedLad, LabelledLad}
use Rattle.graph_theory.specs.declared.lad_text.LadCause.{LadCause}
use Rattle.graph_theory.specs.declared.lad_text.Place.{Place}
use Rattle.graph_theory.specs.declared.lad_text.Place.TheVariants.{Size, Number, Neighbour, EdgeLabel, End}

-- The words that are left, each as the number that it writes, and how many were taken.
abbrev pub At : Type 0
At = List (Option ℕ) × ℕ

-- A number is due in this place.
abbrev pub IsOpen : Place → Type 0
IsOpen End = ⊥
IsOpen (Size limit) = Unit {0}
IsOpen Number = Unit {0}
IsOpen (Neighbour n) = Unit {0}
IsOpen (EdgeLabel earlier) = Unit {0}

-- The words from old to new are these numbers.
pub record Went (old new : At) (numbers : List ℕ) : Type 0 where
  pub left : old.0 ≡ map Some numbers ++ new.0
  pub count : new.1 ≡ old.1 + length numbers

-- After these numbers stands word w, which is refused in this place.
pub record StopsAt (old : At) (numbers : List ℕ) (place : Place) (w : ℕ)
    (cause : LadCause) : Type 0 where
  pub rest : List (Option ℕ)
  pub left : old.0 ≡ map Some numbers ++ rest
  pub word : w ≡ old.1 + length numbers + 1
  pub refused : refused_at place (first_of rest) ≡ Some cause

-- The words from old to new are these listed neighbours, as many as are due.
pub record WentListed (kind : LadKind) (size due : ℕ) (old new : At) (listed : List (ℕ
    × ℕ)) : Type 0 where
  pub all : length listed ≡ due
  pub each : AreListed kind size listed
  pub words : Went old new (listed_numbers kind listed)

-- The label that the edge to b may have after these neighbours.
abbrev pub MayFollow : LadKind → List (ℕ × ℕ) → ℕ → ℕ → Type 0
MayFollow Lad listed b label = label ≡ 0
MayFollow VertexLabelledLad listed b label = label ≡ 0
MayFollow DirectedLad listed b label = label ≡ 0
MayFollow LabelledLad listed b label = clash (listed_label listed b) label ≡ None

-- The words stop at the label of the edge to b, after these neighbours.
abbrev pub StopsAtLabel : LadKind → List (ℕ × ℕ) → ℕ → At → ℕ → LadCause → Type 0
StopsAtLabel Lad listed b old w cause = ⊥
StopsAtLabel VertexLabelledLad listed b old w cause = ⊥
StopsAtLabel DirectedLad listed b old w cause = ⊥
StopsAtLabel LabelledLad listed b old w cause = StopsAt old [] (EdgeLabel
    (listed_label listed b)) w cause

-- The words stop being listed neighbours before as many as are due.
pub record StopsListed (kind : LadKind) (size due : ℕ) (old : At) (w : ℕ)
    (cause : LadCause) : Type 0 where
  pub list : List ℕ
  pub place : Place
  pub begun : ListBegun place kind size due list
  pub stops : StopsAt old list place w cause

-- The words from old to new are this vertex.
pub record WentVertex (kind : LadKind) (size : ℕ) (old new : At) (v : Vertex) : Type 0 where
  pub vertex : IsVertex kind size v
  pub words : Went old new (vertex_numbers kind v)

-- The words stop within a vertex.
pub record StopsVertex (kind : LadKind) (size : ℕ) (old : At) (w : ℕ)
    (cause : LadCause) : Type 0 where
  pub part : List ℕ
  pub place : Place
  pub begun : Begun place kind size part
  pub stops : StopsAt old part place w cause

-- The words from old to new are these vertices, as many as are due.
pub record WentVertices (kind : LadKind) (size due : ℕ) (old new : At)
    (vs : List Vertex) : Type 0 where
  pub all : length vs ≡ due
  pub each : AreVertices kind size vs
  pub words : Went old new (all_numbers kind vs)

-- The words stop being vertices before as many as are due.
pub record StopsVertices (kind : LadKind) (size due : ℕ) (old : At) (w : ℕ)
    (cause : LadCause) : Type 0 where
  pub whole : List Vertex
  pub part : List ℕ
  pub place : Place
  pub fewer : length whole < due
  pub each : AreVertices kind size whole
  pub begun : Begun place kind size part
  pub stops : StopsAt old (all_numbers kind whole ++ part) place w cause
