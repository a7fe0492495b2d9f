-- The first faulty word of a text that is not LAD, and why.

use Rattle.std.specs.Prelude.{◌≡◌, ℕ, ◌+◌, ◌<◌, ◌≤◌, ◌==◌, nat_lt, ◌⊎◌, if◌then◌else◌, List, [], ◌∷◌, ◌++◌, length, map, Option, Some, None}
use Rattle.graph_theory.specs.Text.{number_of}
use Rattle.graph_theory.specs.Lad.{Vertex, label_numbers, listed_numbers, listed_label, all_numbers, text_numbers, AreListed, AreVertices, Reads}
use Rattle.graph_theory.specs.declared.lad_text.LadKind.{LadKind}
use Rattle.graph_theory.specs.declared.lad_text.LadKind.TheVariants.{Lad, VertexLabelledLad, DirectedLad, LabelledLad}
use Rattle.graph_theory.specs.declared.lad_text.LadCause.{LadCause}
use Rattle.graph_theory.specs.declared.lad_text.LadCause.TheVariants.{NotNumber, TooMany, EndsEarly, NoSuchVertex, LabelClash, WordsLeft}
use Rattle.graph_theory.specs.declared.lad_text.LadFault.{LadFault}
use Rattle.graph_theory.specs.declared.lad_text.LadFault.TheVariants.{Word, NoMemory}
use Rattle.graph_theory.specs.declared.lad_text.Place.{Place}
use Rattle.graph_theory.specs.declared.lad_text.Place.TheVariants.{Size, Number, Neighbour, EdgeLabel, End}

-- Fewer neighbours than are due, in a graph of n vertices, and their numbers.
pub record BegunList (kind : LadKind) (n count : ℕ) (list : List ℕ) : Type 0 where
  pub some : List (ℕ × ℕ)
  pub fewer : length some < count
  pub listed : AreListed kind n some
  pub numbers : list ≡ listed_numbers kind some

-- Fewer neighbours than are due, and one more without its edge's label, which is due; `earlier` is the label that it had before in the list.
pub record BegunEdge (kind : LadKind) (earlier : Option ℕ) (n count : ℕ)
    (list : List ℕ) : Type 0 where
  pub some : List (ℕ × ℕ)
  pub neighbour : ℕ
  pub fewer : length some < count
  pub listed : AreListed kind n some
  pub below : neighbour < n
  pub earlier_is : earlier ≡ listed_label some neighbour
  pub numbers : list ≡ listed_numbers kind some ++ neighbour ∷ []

-- What stands of a list of neighbours before this place. Only one format writes labels of edges.
abbrev pub ListBegun : Place → LadKind → ℕ → ℕ → List ℕ → Type 0
ListBegun (Neighbour m) kind n count list = (m ≡ n) × BegunList kind n count list
ListBegun (EdgeLabel earlier) LabelledLad n count list = BegunEdge LabelledLad earlier n count list
ListBegun (EdgeLabel earlier) Lad n count list = ⊥
ListBegun (EdgeLabel earlier) VertexLabelledLad n count list = ⊥
ListBegun (EdgeLabel earlier) DirectedLad n count list = ⊥
ListBegun (Size m) kind n count list = ⊥
ListBegun Number kind n count list = ⊥
ListBegun End kind n count list = ⊥

-- A vertex begun up to a place in its list: its label, how many neighbours it lists, and what stands of these.
pub record InList (place : Place) (kind : LadKind) (n : ℕ) (part : List ℕ) : Type 0 where
  pub label : ℕ
  pub count : ℕ
  pub list : List ℕ
  pub begun : ListBegun place kind n count list
  pub numbers : part ≡ label_numbers kind label ++ count ∷ list

-- What stands of a vertex before this place, in a text of n vertices.
abbrev pub Begun : Place → LadKind → ℕ → List ℕ → Type 0
Begun (Neighbour m) kind n part = InList (Neighbour m) kind n part
Begun (EdgeLabel earlier) kind n part = InList (EdgeLabel earlier) kind n part
Begun Number Lad n part = part ≡ []
Begun Number VertexLabelledLad n part = (part ≡ []) ⊎ ((label : ℕ) × (part ≡ label ∷ []))
Begun Number DirectedLad n part = part ≡ []
Begun Number LabelledLad n part = (part ≡ []) ⊎ ((label : ℕ) × (part ≡ label ∷ []))
Begun (Size m) kind n part = ⊥
Begun End kind n part = ⊥

-- Before this place stand whole vertices, fewer than the text is to have, and a part of the next.
pub record Within (kind : LadKind) (limit : ℕ) (before : List ℕ) (place : Place) : Type 0 where
  pub size : ℕ
  pub whole : List Vertex
  pub part : List ℕ
  pub few : size ≤ limit
  pub more : length whole < size
  pub each : AreVertices kind size whole
  pub begun : Begun place kind size part
  pub numbers : before ≡ size ∷ (all_numbers kind whole ++ part)

-- These numbers are each what is due in their place, and this is due in the next.
abbrev pub Due : Place → LadKind → ℕ → List ℕ → Type 0
Due (Size most) kind limit before = (before ≡ []) × (most ≡ limit)
Due End kind limit before = (vs : List Vertex) × (length vs ≤ limit)
    × AreVertices kind (length vs) vs × (before ≡ text_numbers kind vs)
Due Number kind limit before = Within kind limit before Number
Due (Neighbour n) kind limit before = Within kind limit before (Neighbour n)
Due (EdgeLabel earlier) kind limit before = Within kind limit before (EdgeLabel earlier)

-- The cause for which the label of an edge is refused, or none: it has another one already.
abbrev pub clash : Option ℕ → ℕ → Option LadCause
clash None label = None
clash (Some earlier) label = if earlier == label then None else Some LabelClash

-- The cause for which a place refuses what stands there, or none. None: the text has ended; Some None: a word that is no number; Some (Some n): the number n.
abbrev pub refused_at : Place → Option (Option ℕ) → Option LadCause
refused_at End None = None
refused_at End (Some w) = Some WordsLeft
refused_at place None = Some EndsEarly
refused_at place (Some None) = Some NotNumber
refused_at (Size most) (Some (Some n)) = if nat_lt most n then Some TooMany else None
refused_at (Neighbour n) (Some (Some b)) = if nat_lt b n then None else Some NoSuchVertex
refused_at (EdgeLabel earlier) (Some (Some label)) = clash earlier label
refused_at Number (Some (Some n)) = None

-- The first word, where there is one.
abbrev pub first_of : List (Option ℕ) → Option (Option ℕ)
first_of [] = None
first_of (w ∷ ws) = Some w

-- Words 1 to w - 1 are each what is due in their place, and word w is not, for this cause.
pub record Fault (ws : List (List ℕ)) (kind : LadKind) (limit w : ℕ)
    (cause : LadCause) : Type 0 where
  pub before : List ℕ
  pub rest : List (Option ℕ)
  pub place : Place
  pub word : w ≡ length before + 1
  pub split : map number_of ws ≡ map Some before ++ rest
  pub due : Due place kind limit before
  pub cause_is : refused_at place (first_of rest) ≡ Some cause

-- A fact of the word that a fault names, where it names one.
abbrev pub OnWord : LadFault → (ℕ → LadCause → Type 0) → Type 0
OnWord NoMemory P = Unit {0}
OnWord (Word w cause) P = P w cause

-- The words are the text of at most one list of vertices.
abbrev pub OneReading : Type 0
OneReading = (ws : List (List ℕ)) (kind : LadKind) (limit : ℕ) (vs us : List Vertex)
    → Reads ws kind limit vs → Reads ws kind limit us → vs ≡ us

-- A text that reads has no faulty word.
abbrev pub NoFaultOfReading : Type 0
NoFaultOfReading = (ws : List (List ℕ)) (kind : LadKind) (limit : ℕ) (vs : List Vertex) (w : ℕ)
    (cause : LadCause) → Reads ws kind limit vs → Fault ws kind limit w cause → ⊥

-- A text has at most one first faulty word, with one cause.
abbrev pub OneFault : Type 0
OneFault = (ws : List (List ℕ)) (kind : LadKind) (limit w v : ℕ) (cause other : LadCause)
    → Fault ws kind limit w cause → Fault ws kind limit v other → (w ≡ v) × (cause ≡ other)

-- A text is that of vertices, or has a faulty word.
abbrev pub ReadsOrFault : Type 0
ReadsOrFault = (ws : List (List ℕ)) (kind : LadKind) (limit : ℕ)
    → ((vs : List Vertex) × Reads ws kind limit vs) ⊎ ((w : ℕ) × (cause : LadCause)
    × Fault ws kind limit w cause)

-- What holds of every list of words: it has one reading or one first fault, and never both.
pub record TextLaws : Type 0 where
  pub one_reading : OneReading
  pub no_fault : NoFaultOfReading
  pub one_fault : OneFault
  pub either : ReadsOrFault
