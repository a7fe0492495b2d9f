-- Worked examples of the encoding, as the definitions compute them.

use Rattle.std.proofs.Common.{◌≡◌, ℕ, Bool, true, false, List, [], ◌∷◌, length, slice_get, Some, None, ℤ, pos, negsuc, refl}
use Rattle.graph_theory.specs.Lad.{Vertex}
use Rattle.graph_theory.specs.Graph.{Graph, graph_of}
use Rattle.graph_theory.specs.Embedding.{Problem, injective_problem}
use Rattle.graph_theory.specs.declared.embedding.Maps.{Maps}
use Rattle.graph_theory.specs.declared.embedding.Maps.TheVariants.{Injective, Local, Any}
use Rattle.proof_theory.specs.Forms.{Form, put, sorted}
use Rattle.encoding_theory.specs.Variables.{variables, indicator}
use Rattle.encoding_theory.specs.Encoding.{target_group, less_group, encoding}
use Rattle.encoding_theory.specs.Places.{edge_place}

-- a vertex without label that lists these neighbours
abbrev to : List ℕ → Vertex
to [] = record { label = 0; listed = [] }
to (a ∷ []) = record { label = 0; listed = (a, 0) ∷ [] }
to (a ∷ b ∷ _) = record { label = 0; listed = (a, 0) ∷ (b, 0) ∷ [] }

abbrev problem : List Vertex → List Vertex → Bool → Problem
problem ps ts induced = injective_problem (graph_of ps) (graph_of ts) induced

-- the problem of maps of another kind
abbrev mapped : List Vertex → List Vertex → Maps → Problem
mapped ps ts maps = record { pattern = graph_of ps; target = graph_of ts; induced = false; maps = maps; less = [] }

abbrev form : List (ℕ × ℤ) → ℤ → Form
form ts b = record { terms = ts; bound = b }

abbrev edge : List Vertex
edge = to (1 ∷ []) ∷ to (0 ∷ []) ∷ []

-- one edge into one edge: ten forms
edge_into_edge : encoding (problem edge edge false) ≡
    form ((1, pos 1) ∷ (2, pos 1) ∷ []) (pos 1)
    ∷ form ((1, negsuc 0) ∷ (2, negsuc 0) ∷ []) (negsuc 0)
    ∷ form ((3, pos 1) ∷ (4, pos 1) ∷ []) (pos 1)
    ∷ form ((3, negsuc 0) ∷ (4, negsuc 0) ∷ []) (negsuc 0)
    ∷ form ((1, negsuc 0) ∷ (3, negsuc 0) ∷ []) (negsuc 0)
    ∷ form ((2, negsuc 0) ∷ (4, negsuc 0) ∷ []) (negsuc 0)
    ∷ form ((1, negsuc 0) ∷ (4, pos 1) ∷ []) (pos 0)
    ∷ form ((2, negsuc 0) ∷ (3, pos 1) ∷ []) (pos 0)
    ∷ form ((2, pos 1) ∷ (3, negsuc 0) ∷ []) (pos 0)
    ∷ form ((1, pos 1) ∷ (4, negsuc 0) ∷ []) (pos 0)
    ∷ []
unfolding sorted put
edge_into_edge = refl

-- the list of the map that turns the edge round
turned : indicator (problem edge edge false) (1 ∷ 0 ∷ []) ≡ false ∷ true ∷ true ∷ false ∷ []
turned = refl

-- nothing into nothing: no form
nothing_into_nothing : encoding (problem [] [] false) ≡ []
nothing_into_nothing = refl

-- one vertex into nothing: two forms without terms
vertex_into_nothing : encoding (problem (to [] ∷ []) [] false) ≡ form [] (pos 1) ∷ form [] (negsuc 0) ∷ []
unfolding sorted put
vertex_into_nothing = refl

-- three vertices into two: six variables, eight forms
abbrev three_into_two : Problem
three_into_two = problem (to [] ∷ to [] ∷ to [] ∷ []) (to [] ∷ to [] ∷ []) false

three_into_two_variables : variables three_into_two ≡ 6
three_into_two_variables = refl

three_into_two_forms : encoding three_into_two ≡
    form ((1, pos 1) ∷ (2, pos 1) ∷ []) (pos 1)
    ∷ form ((1, negsuc 0) ∷ (2, negsuc 0) ∷ []) (negsuc 0)
    ∷ form ((3, pos 1) ∷ (4, pos 1) ∷ []) (pos 1)
    ∷ form ((3, negsuc 0) ∷ (4, negsuc 0) ∷ []) (negsuc 0)
    ∷ form ((5, pos 1) ∷ (6, pos 1) ∷ []) (pos 1)
    ∷ form ((5, negsuc 0) ∷ (6, negsuc 0) ∷ []) (negsuc 0)
    ∷ form ((1, negsuc 0) ∷ (3, negsuc 0) ∷ (5, negsuc 0) ∷ []) (negsuc 0)
    ∷ form ((2, negsuc 0) ∷ (4, negsuc 0) ∷ (6, negsuc 0) ∷ []) (negsuc 0)
    ∷ []
unfolding sorted put
three_into_two_forms = refl

-- a loop into two vertices, the second with a loop: the place without one is refused
abbrev loop_second : List Vertex
loop_second = to [] ∷ to (1 ∷ []) ∷ []

loop_into_two : encoding (problem (to (0 ∷ []) ∷ []) loop_second false) ≡
    form ((1, pos 1) ∷ (2, pos 1) ∷ []) (pos 1)
    ∷ form ((1, negsuc 0) ∷ (2, negsuc 0) ∷ []) (negsuc 0)
    ∷ form ((1, negsuc 0) ∷ []) (negsuc 0)
    ∷ form ((2, negsuc 0) ∷ []) (negsuc 0)
    ∷ form ((1, negsuc 0) ∷ []) (pos 0)
    ∷ []
unfolding sorted put
loop_into_two = refl

-- a vertex without a loop into the same, in the induced kind: the loop is refused
vertex_into_two : encoding (problem (to [] ∷ []) loop_second true) ≡
    form ((1, pos 1) ∷ (2, pos 1) ∷ []) (pos 1)
    ∷ form ((1, negsuc 0) ∷ (2, negsuc 0) ∷ []) (negsuc 0)
    ∷ form ((1, negsuc 0) ∷ []) (negsuc 0)
    ∷ form ((2, negsuc 0) ∷ []) (negsuc 0)
    ∷ form ((2, negsuc 0) ∷ []) (pos 0)
    ∷ []
unfolding sorted put
vertex_into_two = refl

-- a triangle into a cycle of four: twelve variables, 34 forms, of which these are numbers 6, 15 and 24
abbrev triangle_into_cycle : Problem
triangle_into_cycle = problem (to (1 ∷ 2 ∷ []) ∷ to (0 ∷ 2 ∷ []) ∷ to (0 ∷ 1 ∷ []) ∷ [])
    (to (1 ∷ 3 ∷ []) ∷ to (0 ∷ 2 ∷ []) ∷ to (1 ∷ 3 ∷ []) ∷ to (0 ∷ 2 ∷ []) ∷ []) false

triangle_variables : variables triangle_into_cycle ≡ 12
triangle_variables = refl

triangle_forms : length (encoding triangle_into_cycle) ≡ 34
triangle_forms = refl

triangle_sixth : slice_get (encoding triangle_into_cycle) 5 ≡ Some (form ((9, negsuc 0) ∷ (10, negsuc 0) ∷ (11, negsuc 0) ∷ (12, negsuc 0) ∷ []) (negsuc 0))
unfolding sorted put
triangle_sixth = refl

triangle_fifteenth : slice_get (encoding triangle_into_cycle) 14 ≡ Some (form ((1, negsuc 0) ∷ (10, pos 1) ∷ (12, pos 1) ∷ []) (pos 0))
unfolding sorted put
triangle_fifteenth = refl

triangle_twenty_fourth : slice_get (encoding triangle_into_cycle) 23 ≡ Some (form ((6, negsuc 0) ∷ (9, pos 1) ∷ (11, pos 1) ∷ []) (pos 0))
unfolding sorted put
triangle_twenty_fourth = refl

-- the fifteenth form is that of vertices 0 and 2 at place 0
triangle_place : edge_place triangle_into_cycle 0 2 0 ≡ 14
triangle_place = refl

-- an edge in one direction into itself: where the edge leaves, it has to arrive
abbrev arrow : Graph
arrow = record { labels = 0 ∷ 0 ∷ []; rows = (None ∷ Some 0 ∷ []) ∷ (None ∷ None ∷ []) ∷ [] }

arrow_into_arrow : encoding (injective_problem arrow arrow false) ≡
    form ((1, pos 1) ∷ (2, pos 1) ∷ []) (pos 1)
    ∷ form ((1, negsuc 0) ∷ (2, negsuc 0) ∷ []) (negsuc 0)
    ∷ form ((3, pos 1) ∷ (4, pos 1) ∷ []) (pos 1)
    ∷ form ((3, negsuc 0) ∷ (4, negsuc 0) ∷ []) (negsuc 0)
    ∷ form ((1, negsuc 0) ∷ (3, negsuc 0) ∷ []) (negsuc 0)
    ∷ form ((2, negsuc 0) ∷ (4, negsuc 0) ∷ []) (negsuc 0)
    ∷ form ((1, negsuc 0) ∷ (4, pos 1) ∷ []) (pos 0)
    ∷ form ((2, negsuc 0) ∷ []) (pos 0)
    ∷ form ((3, negsuc 0) ∷ []) (pos 0)
    ∷ form ((1, pos 1) ∷ (4, negsuc 0) ∷ []) (pos 0)
    ∷ []
unfolding sorted put
arrow_into_arrow = refl

-- by any maps an edge may go to a loop: two variables, six forms, of which the last two are these
edge_into_loop : encoding (mapped edge (to (0 ∷ []) ∷ []) Any) ≡
    form ((1, pos 1) ∷ []) (pos 1)
    ∷ form ((1, negsuc 0) ∷ []) (negsuc 0)
    ∷ form ((2, pos 1) ∷ []) (pos 1)
    ∷ form ((2, negsuc 0) ∷ []) (negsuc 0)
    ∷ form ((1, negsuc 0) ∷ (2, pos 1) ∷ []) (pos 0)
    ∷ form ((1, pos 1) ∷ (2, negsuc 0) ∷ []) (pos 0)
    ∷ []
unfolding sorted put
edge_into_loop = refl

-- of a path of three vertices into one edge local maps have the block of its two ends alone
path_into_edge : target_group (mapped (to (1 ∷ []) ∷ to (0 ∷ 2 ∷ []) ∷ to (1 ∷ []) ∷ []) edge Local) ≡
    form ((1, negsuc 0) ∷ (5, negsuc 0) ∷ []) (negsuc 0)
    ∷ form ((2, negsuc 0) ∷ (6, negsuc 0) ∷ []) (negsuc 0)
    ∷ []
unfolding sorted put
path_into_edge = refl

-- one edge into one edge, with the first vertex below the second: the last four of fourteen forms
abbrev edge_in_order : Problem
edge_in_order = record { pattern = graph_of edge; target = graph_of edge; induced = false; maps = Injective; less = (0, 1) ∷ [] }

edge_in_order_forms : length (encoding edge_in_order) ≡ 14
edge_in_order_forms = refl

edge_in_order_group : less_group edge_in_order ≡
    form ((1, negsuc 0) ∷ (4, pos 1) ∷ []) (pos 0)
    ∷ form ((2, negsuc 0) ∷ []) (pos 0)
    ∷ form ((3, negsuc 0) ∷ []) (pos 0)
    ∷ form ((1, pos 1) ∷ (4, negsuc 0) ∷ []) (pos 0)
    ∷ []
unfolding sorted put
edge_in_order_group = refl
