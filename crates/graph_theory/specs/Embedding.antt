-- Embeddings of a pattern graph into a target graph. (The kinds are those of the Glasgow solver: McCreesh, Prosser, Trimble, ICGT 2020.)

use Rattle.std.specs.Prelude.{◌≡◌, ℕ, ◌<◌, nat_lt, Bool, true, false, ◌&&◌, ◌↔◌, List, [], ◌∷◌, length, Option, Some, None, slice_index}
use Rattle.graph_theory.specs.Graph.{Graph, size, label, edge}
use Rattle.graph_theory.specs.Neighbours.{count, is_near}
use Rattle.graph_theory.specs.declared.embedding.Maps.{Maps}
use Rattle.graph_theory.specs.declared.embedding.Maps.TheVariants.{Injective, Local, Any}

-- A pattern, a target, whether the copy is to be an induced one, which images have to differ, and the pairs of pattern vertices of
-- which the first is to have the lesser image.
pub record Problem : Type 0 where
  pub pattern : Graph
  pub target : Graph
  pub induced : Bool
  pub maps : Maps
  pub less : List (ℕ × ℕ)

-- The problem of injective maps, with no order of images.
abbrev pub injective_problem : Graph → Graph → Bool → Problem
injective_problem pattern target induced = record {
  pattern = pattern;
  target = target;
  induced = induced;
  maps = Injective;
  less = [];
}

-- Maps that give any two vertices two images.
abbrev pub is_injective : Maps → Bool
is_injective Injective = true
is_injective Local = false
is_injective Any = false

-- Maps that give two images to the vertices near one vertex.
abbrev pub is_local : Maps → Bool
is_local Injective = false
is_local Local = true
is_local Any = false

-- Vertices p and r are both near c.
abbrev pub near_both : Graph → ℕ → ℕ → ℕ → Bool
near_both g p r c = is_near g c p && is_near g c r

-- By maps of this kind p and another vertex r have two images: any two have, or those that are near one vertex, or none.
abbrev pub differ_in : Maps → Graph → ℕ → ℕ → Bool
differ_in Injective g p r = true
differ_in Local g p r = nat_lt 0 (count (near_both g p r) (size g))
differ_in Any g p r = false

abbrev pub differ : Problem → ℕ → ℕ → Bool
differ q p r = differ_in q.maps q.pattern p r

-- Of each of these pairs the first vertex has the lesser image. (A pair with a vertex that is none asks nothing.)
abbrev pub InOrder : List (ℕ × ℕ) → List ℕ → Type 0
InOrder [] m = Unit {0}
InOrder (x ∷ xs) m = (x.0 < length m → x.1 < length m
    → slice_index m x.0 < slice_index m x.1) × InOrder xs m

-- Where the first edge stands the second stands too, with its label.
abbrev pub KeepsEdge : Option ℕ → Option ℕ → Type 0
KeepsEdge None f = Unit {0}
KeepsEdge (Some l) f = f ≡ Some l

-- What is asked of a pattern edge and its image: it is kept, and in the induced kind none is there that was not before.
abbrev pub Matches : Bool → Option ℕ → Option ℕ → Type 0
Matches false e f = KeepsEdge e f
Matches true e f = KeepsEdge e f × KeepsEdge f e

-- The list m gives each pattern vertex a target vertex with the same label, another one where the maps ask for it, and keeps each edge
-- with its label, loops included; in the induced kind no two images have an edge that their vertices have not; and the images of each
-- pair that is to be in order are so.
-- Example: a path of three vertices has no embedding into one edge. By any maps it has 0, 1, 0; by local ones none, since both its ends
-- are near the middle. A cycle of six into a triangle has 0, 1, 2, 0, 1, 2 by local maps, and none by injective ones.
pub record Embeds (q : Problem) (m : List ℕ) : Type 0 where
  pub size_is : length m ≡ size q.pattern
  pub values : (p : ℕ) → p < size q.pattern → slice_index m p < size q.target
  pub distinct : (p r : ℕ) → p < size q.pattern → r < size q.pattern → differ q p r ≡ true
      → slice_index m p ≡ slice_index m r → p ≡ r
  pub labels : (p : ℕ) → p < size q.pattern → label q.target (slice_index m p) ≡ label q.pattern p
  pub edges : (p r : ℕ) → p < size q.pattern → r < size q.pattern
      → Matches q.induced (edge q.pattern p r) (edge q.target (slice_index m p) (slice_index m r))
  pub order : InOrder q.less m

-- No embedding exists.
abbrev pub HasNone : Problem → Type 0
HasNone q = (m : List ℕ) → Embeds q m → ⊥

-- ---- the same, by single vertices and by pairs of them: a binary constraint problem, beside the order

-- Vertex p may go to t, as far as these two tell: label and loop. (That t is a target vertex is said apart.)
pub record Allowed (q : Problem) (p t : ℕ) : Type 0 where
  pub label_is : label q.target t ≡ label q.pattern p
  pub loop_is : Matches q.induced (edge q.pattern p p) (edge q.target t t)

-- Vertex p at t and another vertex r at u go together.
pub record Compatible (q : Problem) (p t r u : ℕ) : Type 0 where
  pub apart : differ q p r ≡ true → t ≡ u → ⊥
  pub out : Matches q.induced (edge q.pattern p r) (edge q.target t u)
  pub back : Matches q.induced (edge q.pattern r p) (edge q.target u t)

-- Each vertex is allowed where it goes, each two go together, and the images are in order.
pub record Pairwise (q : Problem) (m : List ℕ) : Type 0 where
  pub size_is : length m ≡ size q.pattern
  pub values : (p : ℕ) → p < size q.pattern → slice_index m p < size q.target
  pub alone : (p : ℕ) → p < size q.pattern → Allowed q p (slice_index m p)
  pub pairs : (p r : ℕ) → p < size q.pattern → r < size q.pattern → (p ≡ r → ⊥)
      → Compatible q p (slice_index m p) r (slice_index m r)
  pub order : InOrder q.less m

-- A list embeds exactly where it does so vertex by vertex and pair by pair.
abbrev pub EmbedsByPairs : Type 0
EmbedsByPairs = (q : Problem) (m : List ℕ) → Embeds q m ↔ Pairwise q m
