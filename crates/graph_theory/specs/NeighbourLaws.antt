-- What an embedding keeps of degrees, of the degrees of neighbours, and of shared neighbours.

use Rattle.std.specs.Prelude.{◌≡◌, ℕ, ◌<◌, ◌≤◌, List, slice_index}
use Rattle.graph_theory.specs.Graph.{Graph, size}
use Rattle.graph_theory.specs.Embedding.{Problem, Embeds}
use Rattle.graph_theory.specs.Neighbours.{common, sequence, IsKeptBy}
use Rattle.graph_theory.specs.Asked.{asked_degree, room, asked_sequence, asked_shared}

-- The image of a vertex has room for its neighbours.
abbrev pub DegreeIsKept : Type 0
DegreeIsKept = (q : Problem) (m : List ℕ) (p : ℕ) → Embeds q m → p < size q.pattern
    → asked_degree q p ≤ room q (slice_index m p)

-- The degrees of its neighbours, in falling order, go on as long as asked and are nowhere less.
abbrev pub SequenceIsKept : Type 0
SequenceIsKept = (q : Problem) (m : List ℕ) (p : ℕ) → Embeds q m → p < size q.pattern
    → IsKeptBy (asked_sequence q p) (sequence q.target (slice_index m p))

-- The images of two vertices share at least as many neighbours as asked.
abbrev pub SharedAreKept : Type 0
SharedAreKept = (q : Problem) (m : List ℕ) (p r : ℕ) → Embeds q m → p < size q.pattern
    → r < size q.pattern
    → asked_shared q p r ≤ common q.target (slice_index m p) (slice_index m r)

-- Two vertices share as many neighbours as the other two ways round.
abbrev pub SharedIsSymmetric : Type 0
SharedIsSymmetric = (g : Graph) (a b : ℕ) → common g a b ≡ common g b a

abbrev pub AskedIsSymmetric : Type 0
AskedIsSymmetric = (q : Problem) (p r : ℕ) → asked_shared q p r ≡ asked_shared q r p

-- What holds of every embedding.
pub record NeighbourLaws : Type 0 where
  pub degrees : DegreeIsKept
  pub sequences : SequenceIsKept
  pub shared : SharedAreKept
  pub symmetric : SharedIsSymmetric
  pub asked_symmetric : AskedIsSymmetric
