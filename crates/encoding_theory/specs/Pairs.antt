-- What single vertices and pairs of vertices are asked, as tests that compute. Edges with directions or labels change
-- these tests and no form.

use Rattle.std.specs.Prelude.{◌≡◌, ℕ, ◌==◌, Bool, true, false, ◌&&◌, ◌||◌, not, is_some, IsTrue, ◌↔◌, Option, Some, None}
use Rattle.graph_theory.specs.Graph.{Graph, label, edge}
use Rattle.graph_theory.specs.Embedding.{Problem, is_injective, differ, Allowed, Compatible}
use Rattle.graph_theory.specs.Neighbours.{is_neighbour}

-- Where the first edge stands the second stands too, with its label.
abbrev pub is_kept : Option ℕ → Option ℕ → Bool
is_kept None f = true
is_kept (Some l) None = false
is_kept (Some l) (Some k) = k == l

-- A pattern edge and its image agree: it is kept, and in the induced kind none is there that was not before.
abbrev pub is_match : Bool → Option ℕ → Option ℕ → Bool
is_match false e f = is_kept e f
is_match true e f = is_kept e f && is_kept f e

-- Vertex p may go to t, as far as label and loop tell.
abbrev pub is_allowed : Problem → ℕ → ℕ → Bool
is_allowed q p t = (label q.target t == label q.pattern p)
    && is_match q.induced (edge q.pattern p p) (edge q.target t t)

-- Two vertices may be at t and u as far as these are two, or need not be since the maps are not injective.
abbrev pub is_open : Problem → ℕ → ℕ → Bool
is_open q t u = not (is_injective q.maps && (t == u))

-- With p at t, another vertex r may go to u: it is another place, or the maps are not injective, and the edges between p and r agree with
-- those between t and u. (That of local maps two images must differ is said by the forms of blocks, and not here.)
abbrev pub is_compatible : Problem → ℕ → ℕ → ℕ → ℕ → Bool
is_compatible q p t r u =
    is_open q t u && (is_match q.induced (edge q.pattern p r) (edge q.target t u)
    && is_match q.induced (edge q.pattern r p) (edge q.target u t))

-- An edge stands between the two vertices, in one direction or the other.
abbrev pub is_linked : Graph → ℕ → ℕ → Bool
is_linked g a b = is_some (edge g a b) || is_some (edge g b a)

-- Two pattern vertices with an edge between them.
abbrev pub is_edge_pair : Problem → ℕ → ℕ → Bool
is_edge_pair q p r = not (p == r) && is_linked q.pattern p r

-- Two pattern vertices without an edge between them, in the induced kind, where their images are to have none either.
abbrev pub is_non_edge_pair : Problem → ℕ → ℕ → Bool
is_non_edge_pair q p r = q.induced && (not (p == r) && not (is_linked q.pattern p r))

-- ---- what these tests say

-- The two tests are those by which a problem is a binary constraint problem: two that go together pass the second; and two that pass it go
-- together, where their places are two or need not be.
pub record TestLaws : Type 0 where
  pub allowed : (q : Problem) (p t : ℕ) → IsTrue (is_allowed q p t) ↔ Allowed q p t
  pub passes : (q : Problem) (p t r u : ℕ)
      → Compatible q p t r u → IsTrue (is_compatible q p t r u)
  pub compatible : (q : Problem) (p t r u : ℕ) → IsTrue (is_compatible q p t r u)
      → (differ q p r ≡ true → t ≡ u → ⊥) → Compatible q p t r u

-- A loop is kept, and in the induced kind none is there that was not before.
abbrev pub keeps_loop : Bool → Bool → Bool → Bool
keeps_loop false loop image = not loop || image
keeps_loop true loop image = (not loop || image) && (not image || loop)

-- On graphs without directions and without labels of edges a vertex is refused a place by its label and its loop alone, an edge goes to
-- an edge, and in the induced kind a missing edge to two places without an edge; each to two places, where the maps are injective.
pub record PlainLaws (q : Problem) : Type 0 where
  pub alone : (p t : ℕ) → is_allowed q p t
      ≡ ((label q.target t == label q.pattern p)
      && keeps_loop q.induced (is_some (edge q.pattern p p)) (is_some (edge q.target t t)))
  pub pair : (p r : ℕ) → is_edge_pair q p r ≡ is_neighbour q.pattern p r
  pub edge_kept : (p r t u : ℕ) → is_neighbour q.pattern p r ≡ true
      → is_compatible q p t r u ≡ (is_open q t u && is_some (edge q.target t u))
  pub non_edge_kept : (p r t u : ℕ) → is_non_edge_pair q p r ≡ true
      → is_compatible q p t r u ≡ (is_open q t u && not (is_some (edge q.target t u)))
