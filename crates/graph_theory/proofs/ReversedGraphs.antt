-- Graphs with their edges turned round.

use Rattle.std.proofs.Common.{◌≡◌, ℕ, ◌<◌, ◌==◌, nat_lt, Bool, true, false, ◌&&◌, ◌||◌, not, List, [], ◌∷◌, ◌++◌, map, Option, is_some, slice_index, if◌then◌else◌, zero, suc, refl, sym, ap, ◌∙◌, arith}
use Rattle.std.proofs.lemmas.List.{map-append}
use Rattle.graph_theory.specs.Graph.{Graph, size, edge, row_edge, entry_edge, tabulate}
use Rattle.graph_theory.specs.Embedding.{Problem, near_both, differ_in, differ, Embeds, Matches}
use Rattle.graph_theory.specs.Neighbours.{members, is_near, is_neighbour, is_in_neighbour, degree, falling}
use Rattle.graph_theory.specs.declared.embedding.Maps.{Maps}
use Rattle.graph_theory.specs.declared.embedding.Maps.TheVariants.{Injective, Local, Any}
use Rattle.graph_theory.specs.Reversed.{reversed, IsMutual, EdgesAreBack, EmbedsReversed, DeadReversed, reversed_problem, turned, turned_problem, DegreesAreBack, MutualDegrees, MutualSequences, MutualShared, PlainIsMutual, ReversedLaws}
use Rattle.graph_theory.specs.declared.direction.Direction.{Direction}
use Rattle.graph_theory.specs.declared.direction.Direction.TheVariants.{Out, In}
use Rattle.graph_theory.proofs.Tables.{slice_get-tabulate}
use Rattle.graph_theory.proofs.Counts.{count-same}

-- an edge of the reversed graph is the edge back
pub edge-reversed : EdgesAreBack
edge-reversed g a b a_in b_in =
    ap (λ (row : Option (List (Option ℕ))). row_edge row b) (slice_get-tabulate (size g) (λ (c : ℕ). tabulate (size g) (λ (d : ℕ). edge g d c)) a a_in)
    ∙ ap entry_edge (slice_get-tabulate (size g) (λ (d : ℕ). edge g d a) b b_in)

-- what is near stays so, and with it the images that differ
or_swapped : (a b : Bool) → (a || b) ≡ (b || a)
or_swapped true true = refl
or_swapped true false = refl
or_swapped false true = refl
or_swapped false false = refl

pub near-reversed : (g : Graph) (a b : ℕ) → a < size g → b < size g → is_near (reversed g) a b ≡ is_near g a b
near-reversed g a b a_in b_in =
    ap (λ (o : Option ℕ). not (a == b) && (is_some o || is_some (edge (reversed g) b a))) (edge-reversed g a b a_in b_in)
    ∙ ap (λ (o : Option ℕ). not (a == b) && (is_some (edge g b a) || is_some o)) (edge-reversed g b a b_in a_in)
    ∙ ap (λ (t : Bool). not (a == b) && t) (or_swapped (is_some (edge g b a)) (is_some (edge g a b)))

near_both-reversed : (g : Graph) (p r c : ℕ) → p < size g → r < size g → c < size g → near_both (reversed g) p r c ≡ near_both g p r c
near_both-reversed g p r c p_in r_in c_in =
    rw (near-reversed g c p c_in p_in) (ap (λ (t : Bool). is_near g c p && t) (near-reversed g c r c_in r_in))

differ_in-reversed : (maps : Maps) (g : Graph) (p r : ℕ) → p < size g → r < size g → differ_in maps (reversed g) p r ≡ differ_in maps g p r
differ_in-reversed Injective g p r p_in r_in = refl
differ_in-reversed Local g p r p_in r_in =
    ap (nat_lt 0) (count-same (near_both (reversed g) p r) (near_both g p r) (size g) (λ c c_in. near_both-reversed g p r c p_in r_in c_in))
differ_in-reversed Any g p r p_in r_in = refl

pub differ-reversed : (q : Problem) (p r : ℕ) → p < size q.pattern → r < size q.pattern → differ (reversed_problem q) p r ≡ differ q p r
differ-reversed q p r p_in r_in = differ_in-reversed q.maps q.pattern p r p_in r_in

-- what embeds embeds the reversed pattern into the reversed target
pub embeds_reversed : EmbedsReversed
embeds_reversed q m e = record {
  size_is = e.size_is;
  values = e.values;
  distinct = λ p r p_in r_in two. e.distinct p r p_in r_in (sym (differ-reversed q p r p_in r_in) ∙ two);
  labels = e.labels;
  edges = λ p r p_in r_in. matched p r p_in r_in;
  order = e.order;
}
  where
    matched : (p r : ℕ) → p < size q.pattern → r < size q.pattern
        → Matches q.induced (edge (reversed q.pattern) p r) (edge (reversed q.target) (slice_index m p) (slice_index m r))
    matched p r p_in r_in =
        rw (edge-reversed q.pattern p r p_in r_in)
        (rw (edge-reversed q.target (slice_index m p) (slice_index m r) (e.values p p_in) (e.values r r_in)) (e.edges r p r_in p_in))

-- a path that is dead in the reversed problem is dead
pub dead_reversed : DeadReversed
dead_reversed q path dead m e extends = dead m (embeds_reversed q m e) extends

-- in the direction of its edges a graph stays as it is, against it it is the reversed one
pub turned-out : (g : Graph) → turned Out g ≡ g
turned-out g = refl

pub turned-in : (g : Graph) → turned In g ≡ reversed g
turned-in g = refl

-- turning a graph round leaves its vertices
pub size-turned : (direction : Direction) (g : Graph) → size (turned direction g) ≡ size g
size-turned direction g = refl

-- what embeds embeds
pub embeds_turned : (direction : Direction) (q : Problem) (m : List ℕ) → Embeds q m → Embeds (turned_problem direction q) m
embeds_turned Out q m e = e
embeds_turned In q m e = embeds_reversed q m e

-- an in-neighbour is a neighbour in the reversed graph
pub in_neighbour-reversed : (g : Graph) (a b : ℕ) → a < size g → b < size g → is_in_neighbour g a b ≡ is_neighbour (reversed g) a b
in_neighbour-reversed g a b a_in b_in = ap (λ (o : Option ℕ). not (a == b) && is_some o) (sym (edge-reversed g a b a_in b_in))

pub in_degree-reversed : DegreesAreBack
in_degree-reversed g a a_in = count-same (is_in_neighbour g a) (is_neighbour (reversed g) a) (size g) (λ b b_in. in_neighbour-reversed g a b a_in b_in)

-- where edges stand both ways these are the neighbours
pub neighbour-mutual : (g : Graph) (a b : ℕ) → IsMutual g → a < size g → b < size g → is_neighbour (reversed g) a b ≡ is_neighbour g a b
neighbour-mutual g a b ways a_in b_in =
    ap (λ (o : Option ℕ). not (a == b) && is_some o) (edge-reversed g a b a_in b_in) ∙ ap (λ (t : Bool). not (a == b) && t) (ways.both b a b_in a_in)

pub degree-mutual : MutualDegrees
degree-mutual g a ways a_in = count-same (is_neighbour (reversed g) a) (is_neighbour g a) (size g) (λ b b_in. neighbour-mutual g a b ways a_in b_in)

pub common-mutual : MutualShared
common-mutual g a b ways a_in b_in =
    count-same (λ c. is_neighbour (reversed g) a c && is_neighbour (reversed g) b c) (λ c. is_neighbour g a c && is_neighbour g b c) (size g)
    (λ c c_in. rw (neighbour-mutual g a c ways a_in c_in) (ap (λ (t : Bool). is_neighbour g a c && t) (neighbour-mutual g b c ways b_in c_in)))

-- numbers that pass equal tests have equal values where these agree
values-same : (f g : ℕ → Bool) (x y : ℕ → ℕ) (n : ℕ) → ((v : ℕ) → v < n → f v ≡ g v) → ((v : ℕ) → v < n → x v ≡ y v) → map x (members f n) ≡ map y (members g n)
values-same f g x y zero same equal = refl
values-same f g x y (suc n) same equal =
    map-append x (members f n) (if f n then n ∷ [] else [])
    ∙ ap (λ (l : List ℕ). l ++ map x (if f n then n ∷ [] else [])) (values-same f g x y n (λ v v_in. same v (omega arith)) (λ v v_in. equal v (omega arith)))
    ∙ ap (λ (l : List ℕ). map y (members g n) ++ l) (last (f n) (g n) (same n (omega arith)) (equal n (omega arith)))
    ∙ sym (map-append y (members g n) (if g n then n ∷ [] else []))
  where
    last : (s t : Bool) → s ≡ t → x n ≡ y n → map x (if s then n ∷ [] else []) ≡ map y (if t then n ∷ [] else [])
    last true true _ e = ap (λ (v : ℕ). v ∷ []) e
    last false false _ e = refl
    last true false is e = cc
    last false true is e = cc

pub sequence-mutual : MutualSequences
sequence-mutual g a ways a_in =
    ap falling (values-same (is_neighbour (reversed g) a) (is_neighbour g a) (degree (reversed g)) (degree g) (size g)
    (λ b b_in. neighbour-mutual g a b ways a_in b_in) (λ b b_in. degree-mutual g b ways b_in))

pub mutual_of_plain : PlainIsMutual
mutual_of_plain g plain = record { both = λ a b _ _. ap is_some (plain.both a b) }

pub reversed_laws_hold : ReversedLaws
reversed_laws_hold = record {
  edges = edge-reversed;
  embeds = embeds_reversed;
  dead = dead_reversed;
  in_degrees = in_degree-reversed;
  degrees = degree-mutual;
  sequences = sequence-mutual;
  shared = common-mutual;
  plain = mutual_of_plain;
}
