-- What the encoding says: its solutions are the 0/1 lists of the embeddings.

use Rattle.std.specs.Prelude.{◌≡◌, ℕ, ◌<◌, ◌==◌, ◌↔◌, Bool, List, length, slice_index}
use Rattle.graph_theory.specs.Graph.{size}
use Rattle.graph_theory.specs.Embedding.{Problem, Embeds, HasNone}
use Rattle.proof_theory.specs.Forms.{IsSolution, HasNoSolution, assignment}
use Rattle.encoding_theory.specs.Variables.{variable, variables, indicator}
use Rattle.encoding_theory.specs.Encoding.{encoding}

-- The 0/1 list is that of a map that embeds.
pub record ShowsEmbedding (q : Problem) (a : List Bool) : Type 0 where
  pub images : List ℕ
  pub embeds : Embeds q images
  pub shown : a ≡ indicator q images

-- A 0/1 list satisfies the encoding exactly where it is the list of a map that embeds.
abbrev pub SolutionsAreEmbeddings : Type 0
SolutionsAreEmbeddings = (q : Problem) (a : List Bool)
    → IsSolution (variables q) (encoding q) a ↔ ShowsEmbedding q a

-- So no 0/1 list satisfies it exactly where no embedding exists.
abbrev pub UnsatisfiableIsNone : Type 0
UnsatisfiableIsNone = (q : Problem) → HasNoSolution (variables q) (encoding q) ↔ HasNone q

-- The list of a map has a place for each variable, and the variable of p and t is true in it exactly where p goes to t.
pub record IndicatorLaws : Type 0 where
  pub places : (q : Problem) (m : List ℕ) → length (indicator q m) ≡ variables q
  pub ones : (q : Problem) (m : List ℕ) (p t : ℕ) → p < size q.pattern → t < size q.target
      → assignment (indicator q m) (variable q p t) ≡ (slice_index m p == t)

-- What holds of the encoding of every problem.
pub record SolutionLaws : Type 0 where
  pub solutions : SolutionsAreEmbeddings
  pub none : UnsatisfiableIsNone
  pub indicators : IndicatorLaws
