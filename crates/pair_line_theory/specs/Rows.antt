-- The lines for a pair of pattern vertices p and r, where p is at t. Each is one form that takes from r all values that do not go with
-- this: those that are not compatible, and those that share too few neighbours with t. Neighbours are those that edges lead to; for those
-- that they lead from it is the lines of the reversed problem, whose encoding is the same.
-- (Counting shared neighbours in cutting planes follows Gocht, McCreesh, Nordström, "Subgraph isomorphism meets cutting planes", 2020.)

use Rattle.std.specs.Prelude.{ℕ, ◌+◌, nat_lt, Bool, false, true, not, ◌&&◌, ◌||◌, List, [], ◌∷◌, ◌++◌, Option, None, pos, negsuc}
use Rattle.graph_theory.specs.Graph.{Graph, size}
use Rattle.graph_theory.specs.Embedding.{Problem, is_injective, differ}
use Rattle.graph_theory.specs.Neighbours.{count, is_neighbour, degree, common}
use Rattle.graph_theory.specs.Asked.{asked_shared}
use Rattle.graph_theory.specs.Reversed.{reversed, reversed_problem}
use Rattle.proof_theory.specs.declared.literal.Literal.{Literal}
use Rattle.proof_theory.specs.Forms.{Form, form_of}
use Rattle.proof_theory.specs.Rules.{sum_of, times_of}
use Rattle.proof_theory.specs.Slack.{clause_form}
use Rattle.log_theory.specs.declared.step.Ref.{Ref}
use Rattle.log_theory.specs.declared.step.Ref.TheVariants.{Line}
use Rattle.log_theory.specs.declared.step.Op.{Op}
use Rattle.log_theory.specs.declared.step.Op.TheVariants.{Push, Axiom, Add, Times, Divide}
use Rattle.encoding_theory.specs.Variables.{variable, collect, when}
use Rattle.encoding_theory.specs.Pairs.{is_compatible, is_edge_pair, is_non_edge_pair}
use Rattle.encoding_theory.specs.Encoding.{terms_where, at_most, at_most_in, at_most_target, pair_form}
use Rattle.encoding_theory.specs.Places.{at_least_place, at_most_place, at_most_place_in, edge_place, non_edge_place}
use Rattle.explanation_theory.specs.Reasons.{not_there}
use Rattle.pair_line_theory.specs.Operations.{sum_where, adds_where}

-- ---- lines of the encoding

abbrev pub at_least_line : Problem → ℕ → Ref
at_least_line q r = Line (at_least_place q r + 1)

abbrev pub at_most_line : Problem → ℕ → Ref
at_most_line q r = Line (at_most_place q r + 1)

-- The line of a block at t, and of all vertices.
abbrev pub block_line : Problem → Option ℕ → ℕ → Ref
block_line q b t = Line (at_most_place_in q b t + 1)

abbrev pub target_line : Problem → ℕ → Ref
target_line q t = block_line q None t

abbrev pub edge_line : Problem → ℕ → ℕ → ℕ → Ref
edge_line q p r t = Line (edge_place q p r t + 1)

abbrev pub non_edge_line : Problem → ℕ → ℕ → ℕ → Ref
non_edge_line q p r t = Line (non_edge_place q p r t + 1)

-- The two vertices have lines of their own: an edge joins them, or in the induced kind none does.
abbrev pub is_paired : Problem → ℕ → ℕ → Bool
is_paired q p r = is_edge_pair q p r || is_non_edge_pair q p r

-- ---- no shared neighbour is asked for

-- Two vertices with lines of their own: r goes to one place at most, and that is compatible.
abbrev pub beside_form : Problem → ℕ → ℕ → ℕ → Form
beside_form q p t r = sum_of (pair_form q p r t) (at_most q r)

-- `own` is the pair's line at t.
abbrev pub beside_ops : Problem → Ref → ℕ → List Op
beside_ops q own r = Push own ∷ Push (at_most_line q r) ∷ Add ∷ []

-- The places of the two are apart, and their own line does not say so.
abbrev pub needs_block : Problem → ℕ → ℕ → Bool
needs_block q p r = not (is_injective q.maps) && differ q p r

-- Then the line of a block that has both says so, added to it.
abbrev pub near_form : Problem → Option ℕ → ℕ → ℕ → ℕ → Form
near_form q b p t r = sum_of (beside_form q p t r) (at_most_in q b t)

abbrev pub near_ops : Problem → Option ℕ → Ref → ℕ → ℕ → List Op
near_ops q b own t r = Push own ∷ Push (at_most_line q r) ∷ Add ∷ Push (block_line q b t)
    ∷ Add ∷ []

-- Others in one block: nothing but t itself is refused, and the block's line at t does so.
abbrev pub alone_ops : Problem → Option ℕ → ℕ → List Op
alone_ops q b t = Push (block_line q b t) ∷ []

-- ---- shared neighbours that are asked for, at one place

-- The vertex m is a neighbour of both.
abbrev pub is_shared : Graph → ℕ → ℕ → ℕ → Bool
is_shared g a b m = is_neighbour g a m && is_neighbour g b m

-- Some vertex shared by p and r lets r be at u where it is at w itself. (In a plain graph each does where u is a neighbour of w.)
abbrev pub lets : Problem → ℕ → ℕ → ℕ → ℕ → Bool
lets q p r w u = nat_lt 0 (count (λ m. is_shared q.pattern p r m
    && is_compatible q m w r u) (size q.pattern))

-- Those shared by p and r are at w no more often than r is where some of them let it be. It names neither p's place nor r's, so
-- that it serves for all of them.
abbrev pub spread_form : Problem → ℕ → ℕ → ℕ → Form
spread_form q p r w =
    form_of (terms_where (negsuc 0) (is_shared q.pattern p r) (λ m. variable q m w)
    (size q.pattern) ++ terms_where (pos 1) (lets q p r w) (variable q r) (size q.target))
    (pos 0)

-- That v is at w, as a literal.
abbrev pub there : Problem → ℕ → ℕ → Literal
there q w v = record { variable = variable q v w; negated = false }

-- For two or more shared neighbours, `less` and one: one vertex at most is at w, those that are not shared left out, so many times; for each shared
-- one that r is then beside w; divided.
abbrev pub spread_ops : Problem → ℕ → ℕ → ℕ → ℕ → List Op
spread_ops q p r w less =
    (Push (target_line q w) ∷ adds_where (λ v. not (is_shared q.pattern p r v)) (λ v. Axiom
    (there q w v)) (size q.pattern))
    ++ ((Times less ∷ adds_where (is_shared q.pattern p r) (λ m. Push (edge_line q m r w))
    (size q.pattern)) ++ Divide (less + 1) ∷ [])

-- ---- two shared neighbours

-- That m and n are not both at w, as literals.
abbrev pub not_both : Problem → ℕ → ℕ → ℕ → List Literal
not_both q m n w = not_there q (m, w) ∷ not_there q (n, w) ∷ []

-- Their clause. It names neither p nor r, so that it serves for all vertices that share these two.
abbrev pub not_both_form : Problem → ℕ → ℕ → ℕ → Form
not_both_form q m n w = clause_form (not_both q m n w)

-- Where two are shared, `clause` names theirs at w. It says that one of them at most is there; for each r is then beside w; divided.
abbrev pub two_ops : Problem → Ref → ℕ → ℕ → ℕ → List Op
two_ops q clause p r w = Push clause ∷ (adds_where (is_shared q.pattern p r) (λ m. Push
    (edge_line q m r w)) (size q.pattern) ++ Divide 2 ∷ [])

-- ---- shared neighbours that are asked for, where p is at t

-- To a form: each shared neighbour is at a neighbour of t, and there no more often than r is around.
abbrev pub around_form : Problem → ℕ → ℕ → ℕ → Form → Form
around_form q p t r base =
    sum_where (is_neighbour q.target t) (spread_form q p r) (sum_where (is_shared q.pattern p r)
    (λ m. pair_form q p m t) base (size q.pattern)) (size q.target)

-- `spread` names the line of each neighbour of t.
abbrev pub around_ops : Problem → (ℕ → Ref) → ℕ → ℕ → ℕ → List Op
around_ops q spread p t r =
    adds_where (is_shared q.pattern p r) (λ m. Push (edge_line q p m t)) (size q.pattern)
    ++ adds_where (is_neighbour q.target t) (λ w. Push (spread w)) (size q.target)

-- More than t has neighbours: so often a value is refused before those that share enough can make up for it.
abbrev pub weight : Problem → ℕ → ℕ
weight q t = degree q.target t + 1

-- Two vertices with lines of their own.
abbrev pub joined_form : Problem → ℕ → ℕ → ℕ → Form
joined_form q p t r = around_form q p t r (times_of (weight q t) (sum_of (times_of 2
    (at_most q r)) (pair_form q p r t)))

abbrev pub joined_ops : Problem → Ref → (ℕ → Ref) → ℕ → ℕ → ℕ → List Op
joined_ops q own spread p t r = (Push (at_most_line q r) ∷ Times 2 ∷ Push own ∷ Add ∷ Times
    (weight q t) ∷ []) ++ around_ops q spread p t r

-- Two vertices without.
abbrev pub apart_form : Problem → ℕ → ℕ → ℕ → Form
apart_form q p t r = around_form q p t r (times_of (weight q t) (sum_of (at_most q r)
    (at_most_target q t)))

abbrev pub apart_ops : Problem → (ℕ → Ref) → ℕ → ℕ → ℕ → List Op
apart_ops q spread p t r = (Push (at_most_line q r) ∷ Push (target_line q t) ∷ Add ∷ Times
    (weight q t) ∷ []) ++ around_ops q spread p t r

-- ---- shared neighbours that are asked for in both directions

-- Vertex r at u is consistent with p at t, as a test that computes.
abbrev pub is_consistent : Problem → ℕ → ℕ → ℕ → ℕ → Bool
is_consistent q p t r u =
    is_compatible q p t r u
    && (not (nat_lt (common q.target t u) (asked_shared q p r))
    && not (nat_lt (common (reversed q.target) t u) (asked_shared (reversed_problem q) p r)))

-- That p is not at t, or r at one of the values that are consistent with this, as literals.
abbrev pub consistent_places : Problem → ℕ → ℕ → ℕ → List Literal
consistent_places q p t r = not_there q (p, t) ∷ collect (λ u. when (is_consistent q p t r u)
    (there q u r ∷ [])) (size q.target)

-- Their clause, which follows from a line of each direction.
abbrev pub consistent_clause : Problem → ℕ → ℕ → ℕ → Form
consistent_clause q p t r = clause_form (consistent_places q p t r)

-- The clause, and that r goes to one place at most. It is made as a line without shared neighbours is, of the clause in place of an own line.
abbrev pub consistent_form : Problem → ℕ → ℕ → ℕ → Form
consistent_form q p t r = sum_of (consistent_clause q p t r) (at_most q r)
