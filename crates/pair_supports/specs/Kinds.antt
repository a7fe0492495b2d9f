-- Kinds of pairs of pattern vertices, and the rows that belong to them.

use Rattle.std.specs.Prelude.{◌≡◌, ℕ, ◌+◌, ◌*◌, ◌<◌, ◌≤◌, ◌↔◌, Bool, true, false, ◌⊎◌, List, Option, Some, None, length, take, slice_get, slice_index}
use Rattle.graph_theory.specs.Graph.{Graph, size, edge}
use Rattle.graph_theory.specs.Embedding.{Problem, Matches, differ}
use Rattle.graph_theory.specs.Neighbours.{common}
use Rattle.graph_theory.specs.Asked.{asked_shared}
use Rattle.graph_theory.specs.Reversed.{reversed, reversed_problem, IsMutual}
use Rattle.bit_rows.specs.BitRows.{has}
use Rattle.graph_rows.specs.Labels.{HasZeroLabels}
use Rattle.pair_supports.specs.declared.kinds.PairKind.{PairKind}

-- Whether two pattern vertices have two images, the edges between them, and how many neighbours their images have to share in each
-- direction.
abbrev pub kind_of : Problem → ℕ → ℕ → PairKind
kind_of q p r = record {
  apart = differ q p r;
  out = edge q.pattern p r;
  back = edge q.pattern r p;
  shared = asked_shared q p r;
  in_shared = asked_shared (reversed_problem q) p r;
}

-- Target vertices t and u give a pair of this kind what it asks. (Of a pair that may have one image no neighbours are asked.)
pub record Joins (q : Problem) (k : PairKind) (t u : ℕ) : Type 0 where
  pub apart : k.apart ≡ true → t ≡ u → ⊥
  pub out : Matches q.induced k.out (edge q.target t u)
  pub back : Matches q.induced k.back (edge q.target u t)
  pub shared : k.apart ≡ true → k.shared ≤ common q.target t u
  pub in_shared : k.apart ≡ true → k.in_shared ≤ common (reversed q.target) t u

-- Where a kind asks for two images, they are two, and share as many neighbours as it asks for, in each direction.
pub record AreApart (q : Problem) (k : PairKind) (t u : ℕ) : Type 0 where
  pub apart : k.apart ≡ true → t ≡ u → ⊥
  pub shared : k.apart ≡ true → k.shared ≤ common q.target t u
  pub in_shared : k.apart ≡ true → k.in_shared ≤ common (reversed q.target) t u

-- They share as many neighbours as it asks for, in each direction.
pub record Shares (q : Problem) (k : PairKind) (t u : ℕ) : Type 0 where
  pub shared : k.shared ≤ common q.target t u
  pub in_shared : k.in_shared ≤ common (reversed q.target) t u

-- The edges between t and u match those of the kind, in each direction.
pub record MatchEdges (q : Problem) (k : PairKind) (t u : ℕ) : Type 0 where
  pub out : Matches q.induced k.out (edge q.target t u)
  pub back : Matches q.induced k.back (edge q.target u t)

-- Where an edge stands it has label 0, as all edges of the target: so bits tell what matches it.
abbrev pub IsTold : Graph → Option ℕ → Type 0
IsTold target None = Unit {0}
IsTold target (Some l) = (l ≡ 0) × HasZeroLabels target

-- So it is with the edges of a kind.
pub record AreTold (q : Problem) (k : PairKind) : Type 0 where
  pub out : IsTold q.target k.out
  pub back : IsTold q.target k.back

-- The counts tell of each other vertex, in each direction, whether it shares as many neighbours with t as the kind asks for: the right ones do, and
-- any do for a kind that asks for none. Where it is said so, edges stand both ways.
pub record Serve (q : Problem) (k : PairKind) (t : ℕ) (counts back : List ℕ)
    (both_ways : Bool) : Type 0 where
  pub long : length counts ≡ size q.target
  pub back_long : length back ≡ size q.target
  pub told : (u : ℕ) → u < size q.target → (t ≡ u → ⊥)
      → k.shared ≤ slice_index counts u ↔ (k.shared ≤ common q.target t u)
  pub back_told : (u : ℕ) → u < size q.target → (t ≡ u → ⊥)
      → k.in_shared ≤ slice_index back u ↔ (k.in_shared ≤ common (reversed q.target) t u)
  pub both : both_ways ≡ true → IsMutual q.target

-- They tell so for each of the kinds.
pub record ServeAll (q : Problem) (kinds : List PairKind) (t : ℕ) (counts back : List ℕ)
    (both_ways : Bool) : Type 0 where
  pub each : (i : ℕ) (k : PairKind) → slice_get kinds i ≡ Some k
      → Serve q k t counts back both_ways

-- Where it is said that none asks for neighbours shared along edges, or against them, each kind asks for none of these.
pub record AskAs (kinds : List PairKind) (asks in_asks : Bool) : Type 0 where
  pub none : asks ≡ false → (i : ℕ) (k : PairKind) → slice_get kinds i ≡ Some k → k.shared ≡ 0
  pub in_none : in_asks ≡ false → (i : ℕ) (k : PairKind) → slice_get kinds i ≡ Some k
      → k.in_shared ≡ 0

-- The row holds the u that join t in a pair of this kind.
pub record RowIs (q : Problem) (k : PairKind) (t : ℕ) (row : List ℕ) : Type 0 where
  pub right : (u : ℕ) → has row u ≡ true → (u < size q.target) × Joins q k t u
  pub complete : (u : ℕ) → u < size q.target → Joins q k t u → has row u ≡ true

-- The next words are the row of the kind that stands at place i.
pub record HasRow (q : Problem) (kinds : List PairKind) (width t i : ℕ)
    (words : List ℕ) : Type 0 where
  pub each : (k : PairKind) → slice_get kinds i ≡ Some k → RowIs q k t (take width words)

-- The words before the first place and from the last one on are as they were.
pub record WordsStay (first last : ℕ) (old new : List ℕ) : Type 0 where
  pub each : (w : ℕ) → (w < first) ⊎ (last ≤ w) → slice_index new w ≡ slice_index old w

-- The place of each pair's kind stands at the pair's number, for the pairs numbered below n.
pub record AreKinds (q : Problem) (kinds : List PairKind) (places : List ℕ) (n : ℕ) : Type 0 where
  pub long : length places ≡ n
  pub few : length kinds ≤ n
  pub each : (p r : ℕ) → r < size q.pattern → p * size q.pattern + r < n → (p ≡ r → ⊥)
      → slice_get kinds (slice_index places (p * size q.pattern + r)) ≡ Some (kind_of q p r)

-- Each kind stands where it stood.
pub record KindsStay (old new : List PairKind) : Type 0 where
  pub each : (i : ℕ) (k : PairKind) → slice_get old i ≡ Some k → slice_get new i ≡ Some k
