-- What a call asks, and why it asks nothing.

use Rattle.std.specs.Prelude.{◌≡◌, ℕ, ◌+◌, ◌<◌, ◌≤◌, ◌==◌, ◌^◌, nat_lt, nat_le, Bool, ◌&&◌, if◌then◌else◌, List, length, map, take, slice_get, Option, Some, None, Result, Ok, Err, Vec, false}
use Rattle.std.specs.Global.{Global}
use Rattle.std.specs.List.{All, list_any}
use Rattle.graph_theory.specs.Text.{words}
use Rattle.graph_theory.specs.Graph.{Graph, size}
use Rattle.graph_theory.specs.GraphText.{ReadsGraph}
use Rattle.graph_theory.specs.LadFault.{Fault}
use Rattle.graph_theory.specs.Embedding.{Problem}
use Rattle.graph_theory.specs.declared.embedding.Maps.{Maps}
use Rattle.graph_theory.specs.declared.embedding.Maps.TheVariants.{Injective, Local, Any}
use Rattle.graph_theory.specs.declared.lad_text.LadCause.{LadCause}
use Rattle.graph_theory.specs.declared.lad_text.LadFault.{LadFault}
use Rattle.graph_theory.specs.declared.lad_text.LadFault.TheVariants as fault
use Rattle.graph_theory.specs.declared.lad_text.LadKind.{LadKind}
use Rattle.graph_theory.specs.declared.lad_text.LadKind.TheVariants.{Lad, VertexLabelledLad, DirectedLad, LabelledLad}
use Rattle.subgraph_c.specs.declared.passed.Options.{Options}
use Rattle.subgraph_c.specs.declared.passed.Pair.{Pair}
use Rattle.subgraph_c.specs.declared.refusal.OutOfRange.{OutOfRange}
use Rattle.subgraph_c.specs.declared.refusal.OutOfRange.TheVariants.{Format, Maps as MapKind, Induced, InducedMaps, ManyPairs, OneVertex, Budget, Rows}
use Rattle.subgraph_c.specs.declared.refusal.Refusal.{Refusal}
use Rattle.subgraph_c.specs.declared.refusal.Refusal.TheVariants.{Number, Pattern, Target, Vertex, NoMemory}

-- What a call passes: the bytes of two texts, how the question is asked, and the pairs that are to be in order.
pub record Call : Type 0 where
  pub pattern : List ℕ
  pub target : List ℕ
  pub options : Options
  pub less : List Pair

-- ---- which numbers are in range

-- The format of a number up to 3, and the kind of maps of one up to 2.
abbrev pub format_of : ℕ → LadKind
format_of n = if n == 0 then Lad else if n == 1 then VertexLabelledLad else if n == 2 then DirectedLad else LabelledLad

abbrev pub maps_of : ℕ → Maps
maps_of n = if n == 0 then Injective else if n == 1 then Local else Any

-- The pair names one vertex twice.
abbrev pub is_one : Pair → Bool
is_one x = x.first == x.second

-- The first number that is out of range among those that choose the problem.
abbrev pub bad_question : Options → List Pair → Option OutOfRange
bad_question o less = if nat_lt 3 o.format then Some Format
    else if nat_lt 2 o.maps then Some MapKind
    else if nat_lt 1 o.induced then Some Induced
    else if nat_lt 0 o.induced && nat_lt 0 o.maps then Some InducedMaps
    else if nat_lt 64 (length less) then Some ManyPairs
    else if list_any is_one less then Some OneVertex
    else None

-- The first that is out of range among those that choose the search.
abbrev pub bad_search : Options → Option OutOfRange
bad_search o = if nat_le (2 ^ 63) o.budget then Some Budget
    else if nat_lt 4194304 o.rows then Some Rows
    else None

-- ---- which problem is asked

abbrev pub pair_of : Pair → ℕ × ℕ
pair_of x = (x.first, x.second)

abbrev pub pairs_of : List Pair → List (ℕ × ℕ)
pairs_of less = map pair_of less

-- The two vertices of a pair stand in the graph, and those of each pair do.
abbrev pub HasBoth : Graph → Pair → Type 0
HasBoth g x = (x.first < size g) × (x.second < size g)

abbrev pub HaveVertices : Graph → List Pair → Type 0
HaveVertices g less = All (HasBoth g) less

-- The pair of this number, from 1, is the first that names a vertex which the graph has not.
pub record LacksVertex (g : Graph) (less : List Pair) (number : ℕ) : Type 0 where
  pub place : ℕ
  pub number_is : number ≡ place + 1
  pub pair : Pair
  pub at : slice_get less place ≡ Some pair
  pub lacks : HasBoth g pair → ⊥
  pub before : HaveVertices g (take place less)

-- The call asks this problem: its numbers are in range, its texts are those of a pattern of at most 1,024 vertices and
-- of a target of at most 8,192, and its pairs are of vertices of the pattern.
pub record Asks (c : Call) (q : Problem) : Type 0 where
  pub in_range : bad_question c.options c.less ≡ None
  pub pattern_is : ReadsGraph (words c.pattern) (format_of c.options.format) 1024 q.pattern
  pub target_is : ReadsGraph (words c.target) (format_of c.options.format) 8192 q.target
  pub induced_is : q.induced ≡ nat_lt 0 c.options.induced
  pub maps_are : q.maps ≡ maps_of c.options.maps
  pub less_is : q.less ≡ pairs_of c.less
  pub vertices : HaveVertices q.pattern c.less

-- What a call passes, by its parts.
abbrev pub call : List ℕ → List ℕ → Options → List Pair → Call
call pattern target options less = record {
  pattern = pattern;
  target = target;
  options = options;
  less = less;
}

-- What is known of numbers that are in range.
pub record AreInRange (o : Options) (less : List Pair) : Type 0 where
  pub kind : 0 < o.induced → maps_of o.maps ≡ Injective
  pub few : length less ≤ 64
  pub two : list_any is_one less ≡ false

-- The problem of two graphs that is asked.
abbrev pub problem_of : Graph → Graph → Options → List Pair → Problem
problem_of pattern target o less = record {
  pattern = pattern;
  target = target;
  induced = nat_lt 0 o.induced;
  maps = maps_of o.maps;
  less = pairs_of less;
}

-- ---- why none is

-- The pattern's text is that of this graph.
abbrev pub IsPattern : Call → Graph → Type 0
IsPattern c g = ReadsGraph (words c.pattern) (format_of c.options.format) 1024 g

-- The pattern's text is good, and one of the pairs names a vertex that the pattern has not.
pub record LacksPair (c : Call) (number : ℕ) : Type 0 where
  pub graph : Graph
  pub pattern_is : IsPattern c graph
  pub lacks : LacksVertex graph c.less number

-- The pattern's text is good, and so is each pair, and the target's text has this first faulty word.
pub record LacksTarget (c : Call) (word : ℕ) (cause : LadCause) : Type 0 where
  pub graph : Graph
  pub pattern_is : IsPattern c graph
  pub vertices : HaveVertices graph c.less
  pub fault : Fault (words c.target) (format_of c.options.format) 8192 word cause

-- What is faulty in the texts or pairs of a call whose numbers are in range. The pairs count only where the pattern's
-- text is good, and the target's text only where they are good too.
abbrev pub IsFaulty : Call → Refusal → Type 0
IsFaulty c (Pattern word cause) = Fault (words c.pattern) (format_of c.options.format) 1024 word cause
IsFaulty c (Vertex number) = LacksPair c number
IsFaulty c (Target word cause) = LacksTarget c word cause
IsFaulty c (Number n) = ⊥
IsFaulty c NoMemory = ⊥

-- What reading a question answers.
abbrev pub AskSays : Result Problem Refusal → Call → Type 0
AskSays (Ok q) c = Asks c q
AskSays (Err NoMemory) c = Unit {0}
AskSays (Err refusal) c = IsFaulty c refusal

-- ---- its parts

-- What reading a text answers.
abbrev pub TextSays : Result Graph LadFault → List ℕ → LadKind → ℕ → Type 0
TextSays (Ok g) bytes kind most = ReadsGraph (words bytes) kind most g
TextSays (Err (fault.Word word cause)) bytes kind most = Fault (words bytes) kind most word cause
TextSays (Err fault.NoMemory) bytes kind most = Unit {0}

-- What reading the pattern answers.
abbrev pub PatternSays : Result Graph Refusal → Call → Type 0
PatternSays (Ok g) c = IsPattern c g
PatternSays (Err (Pattern word cause)) c = IsFaulty c (Pattern word cause)
PatternSays (Err NoMemory) c = Unit {0}
PatternSays (Err _) c = ⊥

-- What looking for the vertices of the pairs answers.
abbrev pub PairsSay : Result (Vec (ℕ × ℕ) Global) Refusal → Graph → List Pair → Type 0
PairsSay (Ok pairs) g less = (pairs.items ≡ pairs_of less) × HaveVertices g less
PairsSay (Err (Vertex number)) g less = LacksVertex g less number
PairsSay (Err NoMemory) g less = Unit {0}
PairsSay (Err _) g less = ⊥

-- What reading the target answers.
abbrev pub TargetSays : Result Graph Refusal → Call → Type 0
TargetSays (Ok g) c = ReadsGraph (words c.target) (format_of c.options.format) 8192 g
TargetSays (Err (Target word cause)) c =
    Fault (words c.target) (format_of c.options.format) 8192 word cause
TargetSays (Err NoMemory) c = Unit {0}
TargetSays (Err _) c = ⊥
