-- The problem that two files ask, and which text is refused first.

use Rattle.std.specs.Prelude.{◌≡◌, ℕ, ◌+◌, ◌<◌, ◌≤◌, ◌⊎◌, IsTrue, List, length, take, slice_get, Option, Some, Result, Ok, Err, Vec}
use Rattle.std.specs.Global.{Global}
use Rattle.std.specs.List.{All}
use Rattle.graph_theory.specs.Graph.{Graph, size}
use Rattle.graph_theory.specs.Embedding.{Problem}
use Rattle.graph_theory.specs.declared.lad_text.LadKind.{LadKind}
use Rattle.graph_files.specs.declared.graph_file.GraphFault.{GraphFault}
use Rattle.graph_files.specs.declared.graph_file.GraphFault.TheVariants as graph
use Rattle.graph_files.specs.GraphFile.{IsGraphFile, IsRefusedFor}
use Rattle.command_line.specs.Questions.{Question}
use Rattle.subgraph_cli.specs.Disk.{Disk, IsReadingOf}
use Rattle.subgraph_cli.specs.declared.stop.Stop.{Stop}
use Rattle.subgraph_cli.specs.declared.stop.Stop.TheVariants.{Refused, FilesFault, OutputFault, NoMemory}
use Rattle.subgraph_cli.specs.declared.stop.Role.{Role}
use Rattle.subgraph_cli.specs.declared.stop.Role.TheVariants.{Pattern, Less, Target}
use Rattle.subgraph_cli.specs.declared.stop.TextFault.{TextFault}
use Rattle.subgraph_cli.specs.declared.stop.TextFault.TheVariants.{TooLong, Word, Pair}

-- The content of a file is the text of this graph.
pub record HoldsGraph (content : Option (List ℕ)) (kind : LadKind) (most : ℕ)
    (g : Graph) : Type 0 where
  pub bytes : List ℕ
  pub there : content ≡ Some bytes
  pub is : IsGraphFile bytes kind most g

-- Bytes are no graph's text, for this fault.
abbrev pub IsNoGraph : List ℕ → LadKind → ℕ → TextFault → Type 0
IsNoGraph bytes kind most TooLong = IsRefusedFor bytes kind most graph.TooLong
IsNoGraph bytes kind most (Word w cause) = IsRefusedFor bytes kind most (graph.Word w cause)
IsNoGraph bytes kind most _ = ⊥

-- The content of a file is no graph's text, for this fault.
pub record HoldsNoGraph (content : Option (List ℕ)) (kind : LadKind) (most : ℕ)
    (fault : TextFault) : Type 0 where
  pub bytes : List ℕ
  pub there : content ≡ Some bytes
  pub is : IsNoGraph bytes kind most fault

-- The two vertices of a pair stand in the graph, and those of each pair do.
abbrev pub HasBoth : Graph → ℕ × ℕ → Type 0
HasBoth g x = (x.0 < size g) × (x.1 < size g)

abbrev pub HaveVertices : Graph → List (ℕ × ℕ) → Type 0
HaveVertices g less = All (HasBoth g) less

-- The pair of this number, from 1, is the first that names a vertex which the graph has not.
pub record LacksVertex (g : Graph) (less : List (ℕ × ℕ)) (number : ℕ) : Type 0 where
  pub place : ℕ
  pub number_is : number ≡ place + 1
  pub pair : ℕ × ℕ
  pub at : slice_get less place ≡ Some pair
  pub lacks : HasBoth g pair → ⊥
  pub before : HaveVertices g (take place less)

-- The two files ask this problem: a pattern of at most 1,024 vertices, a target of at most 8,192, and at most 64 pairs of vertices
-- of the pattern, in the order in which the words name them.
pub record Asks (pattern target : Option (List ℕ)) (ask : Question) (q : Problem) : Type 0 where
  pub pattern_is : HoldsGraph pattern ask.format 1024 q.pattern
  pub target_is : HoldsGraph target ask.format 8192 q.target
  pub induced_is : q.induced ≡ ask.induced
  pub maps_are : q.maps ≡ ask.maps
  pub less_is : q.less ≡ ask.less
  pub few : length q.less ≤ 64
  pub vertices : HaveVertices q.pattern q.less

-- The fault is that of a pair, the first that names a vertex which the graph has not.
abbrev pub IsPairFault : Graph → List (ℕ × ℕ) → TextFault → Type 0
IsPairFault g less (Pair number) = LacksVertex g less number
IsPairFault g less _ = ⊥

-- The pattern's file is good, and one of the pairs names a vertex that the pattern has not.
pub record LacksPair (pattern : Option (List ℕ)) (ask : Question) (fault : TextFault) : Type 0 where
  pub graph : Graph
  pub pattern_is : HoldsGraph pattern ask.format 1024 graph
  pub is : IsPairFault graph ask.less fault

-- The pattern's file is good, and so is each pair, and the target's file is not, for this fault.
pub record LacksTarget (pattern target : Option (List ℕ)) (ask : Question)
    (fault : TextFault) : Type 0 where
  pub graph : Graph
  pub pattern_is : HoldsGraph pattern ask.format 1024 graph
  pub vertices : HaveVertices graph ask.less
  pub target_is : HoldsNoGraph target ask.format 8192 fault

-- The first text that is not good is this one, for this fault: the pairs count only where the pattern's file is good, and the target's
-- file only where they are good too.
abbrev pub IsFirstRefused : Option (List ℕ) → Option (List ℕ) → Question → Role → TextFault → Type 0
IsFirstRefused pattern target ask Pattern fault = HoldsNoGraph pattern ask.format 1024 fault
IsFirstRefused pattern target ask Less fault = LacksPair pattern ask fault
IsFirstRefused pattern target ask Target fault = LacksTarget pattern target ask fault
IsFirstRefused pattern target ask _ fault = ⊥

-- A pattern's file holds a graph that has the vertices of each pair.
abbrev pub IsGoodPattern : Option (List ℕ) → Question → Type 0
IsGoodPattern pattern ask = (g : Graph) × HoldsGraph pattern ask.format 1024 g
    × HaveVertices g ask.less

-- The last fault was one of reading the pattern's file, or of reading the target's where the pattern's is good and so are the pairs.
abbrev pub IsFaultOfTwo : List ℕ → List ℕ → Question → Disk → Type 0
IsFaultOfTwo pattern target ask d =
    IsReadingOf pattern d ⊎ (IsReadingOf target d
    × (IsTrue d.tells → IsGoodPattern (d.content pattern) ask))

-- What loading the two files answers: their problem, or why it stopped.
abbrev pub AskSays : Result Problem Stop → Option (List ℕ) → Option (List ℕ) → Question → Type 0
AskSays (Ok q) pattern target ask = Asks pattern target ask q
AskSays (Err (Refused role fault)) pattern target ask =
    IsFirstRefused pattern target ask role fault
AskSays (Err FilesFault) pattern target ask = Unit {0}
AskSays (Err OutputFault) pattern target ask = ⊥
AskSays (Err NoMemory) pattern target ask = Unit {0}

-- Why a command stops where a graph's file gave none.
abbrev pub stop_of_graph : Role → GraphFault → Stop
stop_of_graph role graph.Failed = FilesFault
stop_of_graph role graph.TooLong = Refused role TooLong
stop_of_graph role (graph.Word w cause) = Refused role (Word w cause)
stop_of_graph role graph.NoMemory = NoMemory

-- What loading the file of a role answers.
abbrev pub RoleSays : Result Graph Stop → Role → Option (List ℕ) → LadKind → ℕ → Type 0
RoleSays (Ok g) role content kind most = HoldsGraph content kind most g
RoleSays (Err (Refused who fault)) role content kind most = (who ≡ role)
    × HoldsNoGraph content kind most fault
RoleSays (Err FilesFault) role content kind most = Unit {0}
RoleSays (Err OutputFault) role content kind most = ⊥
RoleSays (Err NoMemory) role content kind most = Unit {0}

-- What looking for the vertices of the pairs answers: the pairs, each of two vertices of the graph, or the first that is none.
abbrev pub PairsSay : Result (Vec (ℕ × ℕ) Global) Stop → Graph → List (ℕ × ℕ) → Type 0
PairsSay (Ok pairs) g less = (pairs.items ≡ less) × HaveVertices g less
PairsSay (Err (Refused role fault)) g less = (role ≡ Less) × IsPairFault g less fault
PairsSay (Err FilesFault) g less = ⊥
PairsSay (Err OutputFault) g less = ⊥
PairsSay (Err NoMemory) g less = Unit {0}

-- The problem of two graphs that is asked.
abbrev pub problem_of : Graph → Graph → Question → Problem
problem_of pattern target ask = record {
  pattern = pattern;
  target = target;
  induced = ask.induced;
  maps = ask.maps;
  less = ask.less;
}
