-- Where edges stand both ways the reversed problem asks what the problem asks.

use Rattle.std.proofs.Common.{◌≡◌, ℕ, ◌+◌, ◌<◌, Bool, is_some, if◌then◌else◌, List, Option, refl, ap}
use Rattle.graph_theory.specs.Graph.{Graph, size, edge}
use Rattle.graph_theory.specs.Neighbours.{degree}
use Rattle.graph_theory.specs.Embedding.{Problem}
use Rattle.graph_theory.specs.Asked.{asked_degree_in, asked_degree, room_in, room, asked_sequence_in, asked_sequence, asked_shared_in, asked_shared}
use Rattle.graph_theory.specs.Reversed.{reversed, reversed_problem, IsMutual}
use Rattle.graph_theory.specs.declared.embedding.Maps.{Maps}
use Rattle.graph_theory.specs.declared.embedding.Maps.TheVariants.{Injective, Local, Any}
use Rattle.graph_theory.proofs.ReversedGraphs.{edge-reversed, degree-mutual, sequence-mutual, common-mutual}

degree_by : (k : Maps) (g : Graph) (p : ℕ) → IsMutual g → p < size g → asked_degree_in k (reversed g) p ≡ asked_degree_in k g p
degree_by Injective g p ways p_in = degree-mutual g p ways p_in
degree_by Local g p ways p_in = degree-mutual g p ways p_in
degree_by Any g p ways p_in = refl

pub asked_degree-mutual : (q : Problem) (p : ℕ) → IsMutual q.pattern → p < size q.pattern → asked_degree (reversed_problem q) p ≡ asked_degree q p
asked_degree-mutual q p ways p_in = degree_by q.maps q.pattern p ways p_in

-- a loop turned round is a loop, so that there is as much room
looped : (g : Graph) (t : ℕ) → IsMutual g → t < size g
    → (if is_some (edge (reversed g) t t) then 1 else 0) + degree (reversed g) t ≡ (if is_some (edge g t t) then 1 else 0) + degree g t
looped g t ways t_in =
    rw (degree-mutual g t ways t_in) (ap (λ (e : Option ℕ). (if is_some e then 1 else 0) + degree g t) (edge-reversed g t t t_in t_in))

room_by : (k : Maps) (g : Graph) (t : ℕ) → IsMutual g → t < size g → room_in k (reversed g) t ≡ room_in k g t
room_by Injective g t ways t_in = degree-mutual g t ways t_in
room_by Local g t ways t_in = looped g t ways t_in
room_by Any g t ways t_in = looped g t ways t_in

pub room-mutual : (q : Problem) (t : ℕ) → IsMutual q.target → t < size q.target → room (reversed_problem q) t ≡ room q t
room-mutual q t ways t_in = room_by q.maps q.target t ways t_in

sequence_by : (k : Maps) (g : Graph) (p : ℕ) → IsMutual g → p < size g → asked_sequence_in k (reversed g) p ≡ asked_sequence_in k g p
sequence_by Injective g p ways p_in = sequence-mutual g p ways p_in
sequence_by Local g p ways p_in = refl
sequence_by Any g p ways p_in = refl

pub asked_sequence-mutual : (q : Problem) (p : ℕ) → IsMutual q.pattern → p < size q.pattern → asked_sequence (reversed_problem q) p ≡ asked_sequence q p
asked_sequence-mutual q p ways p_in = sequence_by q.maps q.pattern p ways p_in

shared_by : (k : Maps) (g : Graph) (p r : ℕ) → IsMutual g → p < size g → r < size g → asked_shared_in k (reversed g) p r ≡ asked_shared_in k g p r
shared_by Injective g p r ways p_in r_in = common-mutual g p r ways p_in r_in
shared_by Local g p r ways p_in r_in = refl
shared_by Any g p r ways p_in r_in = refl

pub asked_shared-mutual : (q : Problem) (p r : ℕ) → IsMutual q.pattern → p < size q.pattern → r < size q.pattern
    → asked_shared (reversed_problem q) p r ≡ asked_shared q p r
asked_shared-mutual q p r ways p_in r_in = shared_by q.maps q.pattern p r ways p_in r_in
