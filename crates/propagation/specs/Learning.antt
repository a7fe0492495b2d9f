-- The nogoods of a search, and what follows from them.

use Rattle.std.specs.Prelude.{◌≡◌, ℕ, ◌<◌, Bool, true, false, List, [], ◌∷◌, length, slice_index, Option, Some, None}
use Rattle.graph_theory.specs.Graph.{size}
use Rattle.graph_theory.specs.Embedding.{Problem, Embeds}
use Rattle.graph_theory.specs.Path.{Dead}
use Rattle.search_theory.specs.Claims.{Inside, NoneInside}
use Rattle.domain_bits.specs.Removals.{State, in_domain, size_of}
use Rattle.nogood_watch.specs.Nogoods as watched
use Rattle.nogood_watch.specs.Watching.{forced_at}
use Rattle.all_different.specs.Memory.{Memory}
use Rattle.propagation.specs.Edges.{RoomSize, IsRoomFor}
use Rattle.propagation.specs.Propagation.{IsFor, AreNeighbourhoods, Narrows, Shrinks, waits_at}

-- These pairs are a nogood: no vertex has two of them, and no embedding has all of them.
pub record IsNogood (q : Problem) (xs : List (ℕ × ℕ)) : Type 0 where
  pub literals : watched.AreLiterals (size q.pattern) (size q.target) xs
  pub dead : Dead q xs

-- All that is kept is a nogood: the lists of pairs, each with its two watches, and the single pairs.
pub record AreNogoods (q : Problem) (s : watched.State) : Type 0 where
  pub vertices_is : s.vertices ≡ size q.pattern
  pub values_is : s.values ≡ size q.target
  pub watches : watched.AreWatches s.nogoods s.watches
  pub lists : (i : ℕ) → i < length s.nogoods → IsNogood q (watched.nogood s.nogoods i).literals
  pub units : (i : ℕ) → i < length s.units
      → IsNogood q (((forced_at s.units i).0, (forced_at s.units i).1) ∷ [])

-- Where nogoods are kept, they are nogoods.
abbrev pub AreKept : Problem → Option watched.State → Type 0
AreKept q None = Unit {0}
AreKept q (Some s) = AreNogoods q s

-- ---- what propagation makes of it

-- What propagation works with is of the problem: the memory for counting and that for edges are made for it, by local maps these are its
-- neighbourhoods, and what is kept are nogoods.
pub record Works (q : Problem) (memory : Memory) (near : List (List ℕ)) (edges : RoomSize)
    (nogoods : Option watched.State) : Type 0 where
  pub is_for : IsFor q memory
  pub lists : AreNeighbourhoods q near
  pub room : IsRoomFor q edges
  pub kept : AreKept q nogoods

-- What propagation works with, as its callers see it: the problem, and the nogoods, once some are kept.
pub record Filtering : Type 0 where
  pub problem : Problem
  pub nogoods : Option watched.State

-- No nogoods are kept.
abbrev pub unlearned : Problem → Filtering
unlearned q = record { problem = q; nogoods = None }

-- The pair is one of vertices of the problem, and no embedding within the domains has it.
pub record IsUnused (q : Problem) (d : State) (e : ℕ × ℕ × ℕ) : Type 0 where
  pub vertex_in : e.0 < size q.pattern
  pub value_in : e.1 < size q.target
  pub none : (m : List ℕ) → Embeds q m → Inside q (in_domain d) m → slice_index m e.0 ≡ e.1 → ⊥

-- What nogoods leave: fewer values, or none that an embedding is within.
abbrev pub Forces : Bool → Problem → State → List Bool → State → List Bool → Type 0
Forces true q old before new after = Shrinks q old before new after
Forces false q old before new after = Narrows q old new × NoneInside q (in_domain old)

-- Each vertex below n that does not wait has not one value only.
abbrev pub DecidedWait : State → List Bool → ℕ → Type 0
DecidedWait d waiting n = (p : ℕ) → p < n → waits_at waiting p ≡ false → size_of d p ≡ 1 → ⊥
