-- The labels that a vertex gave its neighbours so far: for each vertex a stamp, which tells who listed it last, and the label of that edge.

use Rattle.std.specs.Prelude.{◌≡◌, ℕ, ◌<◌, ◌≤◌, ◌==◌, if◌then◌else◌, List, [], Option, Some, None, slice_index}
use Rattle.graph_theory.specs.Lad.{listed_label}

-- The label that the owner of a stamp gave to b, or none.
abbrev pub given_label : List ℕ → List ℕ → ℕ → ℕ → Option ℕ
given_label stamps labels stamp b = if slice_index stamps b == stamp then Some
    (slice_index labels b) else None

-- It is that of the neighbours listed so far, in a graph of so many vertices.
pub record AreGiven (size stamp : ℕ) (stamps labels : List ℕ) (listed : List (ℕ × ℕ)) : Type 0 where
  pub each : (b : ℕ) → b < size → given_label stamps labels stamp b ≡ listed_label listed b
  pub known : (b : ℕ) → slice_index stamps b ≤ stamp

-- No stamp is above this one.
pub record AreStamped (stamp : ℕ) (stamps : List ℕ) : Type 0 where
  pub each : (b : ℕ) → slice_index stamps b ≤ stamp

-- Of the vertex that is read neither a neighbour nor a label was written.
pub record IsBegun (bs es : List ℕ) : Type 0 where
  pub neighbours : bs ≡ []
  pub labels : es ≡ []
