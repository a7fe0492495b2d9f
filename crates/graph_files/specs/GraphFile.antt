-- What a graph's file says.

use Rattle.std.specs.Prelude.{◌≡◌, ℕ, ◌<◌, ◌≤◌, ◌⊎◌, List, length, Option, Some, Result, Ok, Err}
use Rattle.graph_theory.specs.Text.{words}
use Rattle.graph_theory.specs.Graph.{Graph}
use Rattle.graph_theory.specs.GraphText.{ReadsGraph}
use Rattle.graph_theory.specs.LadFault.{Fault}
use Rattle.graph_theory.specs.declared.lad_text.LadKind.{LadKind}
use Rattle.graph_files.specs.declared.graph_file.GraphFault.{GraphFault}
use Rattle.graph_files.specs.declared.graph_file.GraphFault.TheVariants.{Failed, TooLong, Word, NoMemory}

-- The bytes of a file are the text of the graph g, within the limits: 67,108,864 bytes, and this many vertices.
pub record IsGraphFile (bytes : List ℕ) (kind : LadKind) (most : ℕ) (g : Graph) : Type 0 where
  pub short : length bytes ≤ 67108864
  pub reads : ReadsGraph (words bytes) kind most g

-- The bytes of a file are refused: they are over the limit, or have a first faulty word.
abbrev pub IsRefusedFor : List ℕ → LadKind → ℕ → GraphFault → Type 0
IsRefusedFor bytes kind most TooLong = 67108864 < length bytes
IsRefusedFor bytes kind most (Word w cause) = (length bytes ≤ 67108864)
    × Fault (words bytes) kind most w cause
IsRefusedFor bytes kind most Failed = ⊥
IsRefusedFor bytes kind most NoMemory = ⊥

-- Nothing was learnt of the file.
abbrev pub IsFaultOfUse : GraphFault → Type 0
IsFaultOfUse Failed = Unit {0}
IsFaultOfUse NoMemory = Unit {0}
IsFaultOfUse TooLong = ⊥
IsFaultOfUse (Word w cause) = ⊥

-- What an answer says of a file, where contents are told: its graph, or why it is refused.
abbrev pub GraphSays : Option (List ℕ) → LadKind → ℕ → Result Graph GraphFault → Type 0
GraphSays content kind most (Ok g) = (bytes : List ℕ) × (content ≡ Some bytes)
    × IsGraphFile bytes kind most g
GraphSays content kind most (Err fault) = IsFaultOfUse fault ⊎ ((bytes : List ℕ)
    × (content ≡ Some bytes) × IsRefusedFor bytes kind most fault)

-- What an answer says of bytes within the limit.
abbrev pub BytesSay : List ℕ → LadKind → ℕ → Result Graph GraphFault → Type 0
BytesSay bytes kind most (Ok g) = ReadsGraph (words bytes) kind most g
BytesSay bytes kind most (Err (Word w cause)) = Fault (words bytes) kind most w cause
BytesSay bytes kind most (Err fault) = fault ≡ NoMemory
