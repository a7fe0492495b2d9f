-- The pseudo-Boolean encoding of a problem, a list of forms in a fixed order, group after group. (The encoding is that of
-- Gocht, McCreesh, Nordström, "Subgraph isomorphism meets cutting planes", IJCAI 2020; order and details are this project's.)
-- Example: of one edge into one edge the forms for the pair of vertices 0 and 1 at t = 0 are -x1 + x4 >= 0.

use Rattle.std.specs.Prelude.{ℕ, nat_lt, Bool, true, ◌&&◌, not, List, [], ◌∷◌, ◌++◌, length, Option, Some, None, slice_get, ℤ, pos, negsuc}
use Rattle.graph_theory.specs.Graph.{size}
use Rattle.graph_theory.specs.Embedding.{Problem}
use Rattle.graph_theory.specs.Blocks.{in_block, has_near}
use Rattle.graph_theory.specs.declared.embedding.Maps.{Maps}
use Rattle.graph_theory.specs.declared.embedding.Maps.TheVariants.{Injective, Local, Any}
use Rattle.proof_theory.specs.Forms.{Form, form_of}
use Rattle.encoding_theory.specs.Variables.{variable, collect, when}
use Rattle.encoding_theory.specs.Pairs.{is_allowed, is_compatible, is_edge_pair, is_non_edge_pair}

-- Every number passes.
abbrev pub every : ℕ → Bool
every i = true

-- A term with this coefficient for the variable of each number below n that passes the test.
abbrev pub terms_where : ℤ → (ℕ → Bool) → (ℕ → ℕ) → ℕ → List (ℕ × ℤ)
terms_where c test number n = collect (λ i. when (test i) ((number i, c) ∷ [])) n

-- ---- group 1: each pattern vertex goes to one target vertex

-- The pattern vertex goes somewhere: the sum of its variables is at least 1.
abbrev pub at_least : Problem → ℕ → Form
at_least q p = form_of (terms_where (pos 1) every (variable q p) (size q.target)) (pos 1)

-- It goes to one place at most: their sum is at most 1.
abbrev pub at_most : Problem → ℕ → Form
at_most q p = form_of (terms_where (negsuc 0) every (variable q p) (size q.target)) (negsuc 0)

abbrev pub vertex_forms : Problem → ℕ → List Form
vertex_forms q p = at_least q p ∷ at_most q p ∷ []

-- For each pattern vertex: at least one, then at most one.
abbrev pub vertex_group : Problem → List Form
vertex_group q = collect (vertex_forms q) (size q.pattern)

-- ---- group 2: each target vertex is the image of one pattern vertex at most of each block

-- Of the vertices of a block one at most goes to t.
abbrev pub at_most_in : Problem → Option ℕ → ℕ → Form
at_most_in q b t = form_of (terms_where (negsuc 0) (in_block q b) (λ p. variable q p t)
    (size q.pattern)) (negsuc 0)

-- Of all pattern vertices.
abbrev pub at_most_target : Problem → ℕ → Form
at_most_target q t = at_most_in q None t

abbrev pub block_at : Problem → Option ℕ → ℕ → List Form
block_at q b t = at_most_in q b t ∷ []

-- This for each target vertex.
abbrev pub block_forms : Problem → Option ℕ → List Form
block_forms q b = collect (block_at q b) (size q.target)

-- The forms of the block around c, where there is one.
abbrev pub near_forms : Problem → ℕ → List Form
near_forms q c = when (has_near q.pattern c) (block_forms q (Some c))

-- For each block, and each target vertex: at most one.
-- Example: of a path of three vertices, whose middle is 1, local maps have for t = 0 the form -x(0,0) - x(2,0) >= -1.
abbrev pub target_group_in : Maps → Problem → List Form
target_group_in Injective q = block_forms q None
target_group_in Local q = collect (near_forms q) (size q.pattern)
target_group_in Any q = []

abbrev pub target_group : Problem → List Form
target_group q = target_group_in q.maps q

-- ---- group 3: the pairs that are not allowed by themselves

-- The pattern vertex does not go there.
abbrev pub refusal : Problem → ℕ → ℕ → Form
refusal q p t = form_of ((variable q p t, negsuc 0) ∷ []) (pos 0)

abbrev pub is_refused : Problem → ℕ → ℕ → Bool
is_refused q p t = not (is_allowed q p t)

abbrev pub refused_at : Problem → ℕ → ℕ → List Form
refused_at q p t = when (is_refused q p t) (refusal q p t ∷ [])

abbrev pub refused_of : Problem → ℕ → List Form
refused_of q p = collect (refused_at q p) (size q.target)

-- For each pattern vertex and each target vertex: a refusal where the pair is not allowed.
abbrev pub refused_group : Problem → List Form
refused_group q = collect (refused_of q) (size q.pattern)

-- ---- groups 4 and 5: the pairs of pattern vertices with an edge, then in the induced kind those without

-- Where p goes to t, r goes to one of the places that pass the test.
abbrev pub leads_form : Problem → ℕ → ℕ → ℕ → (ℕ → Bool) → Form
leads_form q p t r test = form_of ((variable q p t, negsuc 0) ∷ terms_where (pos 1) test
    (variable q r) (size q.target)) (pos 0)

-- Where p goes to t, another vertex r goes to one of the places that are compatible with it.
abbrev pub pair_form : Problem → ℕ → ℕ → ℕ → Form
pair_form q p r t = leads_form q p t r (is_compatible q p t r)

abbrev pub pair_at : Problem → ℕ → ℕ → ℕ → List Form
pair_at q p r t = pair_form q p r t ∷ []

-- This for each place of p.
abbrev pub pair_forms : Problem → ℕ → ℕ → List Form
pair_forms q p r = collect (pair_at q p r) (size q.target)

-- The forms of the ordered pairs from p on that pass the test.
abbrev pub pairs_at : (ℕ → ℕ → Bool) → Problem → ℕ → ℕ → List Form
pairs_at test q p r = when (test p r) (pair_forms q p r)

abbrev pub pairs_of : (ℕ → ℕ → Bool) → Problem → ℕ → List Form
pairs_of test q p = collect (pairs_at test q p) (size q.pattern)

-- For each ordered pair that passes the test, and each target vertex: the pair's form there.
abbrev pub pair_group : (ℕ → ℕ → Bool) → Problem → List Form
pair_group test q = collect (pairs_of test q) (size q.pattern)

abbrev pub edge_group : Problem → List Form
edge_group q = pair_group (is_edge_pair q) q

abbrev pub non_edge_group : Problem → List Form
non_edge_group q = pair_group (is_non_edge_pair q) q

-- ---- group 6: the pairs whose images are to be in order

-- Where the first vertex of a pair goes to t, the second goes past it.
abbrev pub less_from : Problem → ℕ × ℕ → ℕ → Form
less_from q x t = leads_form q x.0 t x.1 (λ u. nat_lt t u)

-- Where the second goes to t, the first goes below it.
abbrev pub less_to : Problem → ℕ × ℕ → ℕ → Form
less_to q x t = leads_form q x.1 t x.0 (λ u. nat_lt u t)

abbrev pub less_from_at : Problem → ℕ × ℕ → ℕ → List Form
less_from_at q x t = less_from q x t ∷ []

abbrev pub less_to_at : Problem → ℕ × ℕ → ℕ → List Form
less_to_at q x t = less_to q x t ∷ []

-- The first for each place, then the second for each place.
abbrev pub less_forms : Problem → ℕ × ℕ → List Form
less_forms q x = collect (less_from_at q x) (size q.target)
    ++ collect (less_to_at q x) (size q.target)

-- Both of the pair are pattern vertices.
abbrev pub is_inside : Problem → ℕ × ℕ → Bool
is_inside q x = nat_lt x.0 (size q.pattern) && nat_lt x.1 (size q.pattern)

abbrev pub less_of : Problem → Option (ℕ × ℕ) → List Form
less_of q None = []
less_of q (Some x) = when (is_inside q x) (less_forms q x)

abbrev pub less_at : Problem → ℕ → List Form
less_at q k = less_of q (slice_get q.less k)

-- For each pair whose images are to be in order: its forms.
-- Example: of one edge into one edge with vertex 0 below vertex 1 they are -x1 + x4 >= 0, -x2 >= 0, -x3 >= 0 and x1 - x4 >= 0.
abbrev pub less_group : Problem → List Form
less_group q = collect (less_at q) (length q.less)

-- ---- the whole

-- The encoding: its groups in this order.
abbrev pub encoding : Problem → List Form
encoding q = vertex_group q ++ (target_group q ++ (refused_group q ++ (edge_group q
    ++ (non_edge_group q ++ less_group q))))
