-- Propagation: what taking consequences does to domains, and which vertices still wait for theirs to be taken.

use Rattle.std.specs.Prelude.{◌≡◌, ℕ, ◌+◌, ◌-◌, ◌*◌, ◌<◌, ◌≤◌, Bool, true, false, ◌⊎◌, if◌then◌else◌, List, [], ◌∷◌, ◌++◌, length, slice_index_or, slice_set, Result, Ok, Err, Option}
use Rattle.graph_theory.specs.Graph.{Graph, size}
use Rattle.graph_theory.specs.Neighbours.{is_near, members}
use Rattle.graph_theory.specs.declared.embedding.Maps.TheVariants.{Local}
use Rattle.graph_theory.specs.Embedding.{Problem}
use Rattle.graph_theory.specs.Blocks.{has_block}
use Rattle.search_theory.specs.Consistency.{AreConsistent}
use Rattle.search_theory.specs.Claims.{KeepsEmbeddings, NoneInside, Single, Settled, Quiet, Ordered}
use Rattle.domain_bits.specs.Removals.{State, in_domain, size_of}
use Rattle.sparse_set.specs.Removals as sparse
use Rattle.all_different.specs.Memory.{Memory}
use Rattle.all_different.specs.Prefixes.{Balanced}
use Rattle.all_different.specs.declared.Pruned.{Pruned}
use Rattle.all_different.specs.declared.Pruned.TheVariants as pruned
use Rattle.recorder.specs.declared.change.Failure.{Failure}
use Rattle.recorder.specs.Telling.{block_state}

-- The memory for counting is made for the domains of the problem.
pub record IsFor (q : Problem) (memory : Memory) : Type 0 where
  pub vertices_is : memory.vertices ≡ size q.pattern
  pub values_is : memory.values ≡ size q.target

-- The vertices near each of the first n vertices, rising.
pub record AreListed (g : Graph) (lists : List (List ℕ)) (n : ℕ) : Type 0 where
  pub long : length lists ≡ n
  pub each : (c : ℕ) → c < n → slice_index_or lists c [] ≡ members (is_near g c) (size g)

-- By local maps these are the vertices near each pattern vertex.
pub record AreNeighbourhoods (q : Problem) (lists : List (List ℕ)) : Type 0 where
  pub listed : q.maps ≡ Local → AreListed q.pattern lists (size q.pattern)

-- Values were removed, and no embedding was lost.
pub record Narrows (q : Problem) (old new : State) : Type 0 where
  pub vertices_same : new.vertices ≡ old.vertices
  pub values_same : new.values ≡ old.values
  pub rest : List (ℕ × ℕ)
  pub front : new.removed ≡ old.removed ++ rest
  pub less : (p t : ℕ) → in_domain new p t ≡ true → in_domain old p t ≡ true
  pub keeps : KeepsEmbeddings q (in_domain old) (in_domain new)

-- Whether vertex p waits.
abbrev pub waits_at : List Bool → ℕ → Bool
waits_at waiting p = slice_index_or waiting p false

-- How many wait.
abbrev pub waiting_count : List Bool → ℕ
waiting_count [] = 0
waiting_count (b ∷ bs) = (if b then 1 else 0) + waiting_count bs

-- What is left to do: it falls with each removal, and with each vertex that is taken up.
abbrev pub work : State → List Bool → ℕ
work d waiting = 2 * (d.vertices * d.values - length d.removed) + waiting_count waiting

-- The domain of p has a value, and not only one.
pub record HasTwo (d : State) (p : ℕ) : Type 0 where
  pub value : ℕ
  pub here : in_domain d p value ≡ true
  pub not_single : (t : ℕ) → Single (in_domain d) p t → ⊥

-- The domain of p is as it was, and p waits as it did.
pub record IsSame (old : State) (before : List Bool) (new : State) (after : List Bool)
    (p : ℕ) : Type 0 where
  pub domain : (t : ℕ) → in_domain new p t ≡ in_domain old p t
  pub flag : waits_at after p ≡ waits_at before p

-- The domain of p has a value.
abbrev pub HasValue : State → ℕ → Type 0
HasValue d p = (t : ℕ) × (in_domain d p t ≡ true)

-- Each domain has one.
abbrev pub HaveValues : Problem → State → Type 0
HaveValues q d = (p : ℕ) → p < size q.pattern → HasValue d p

-- Values were removed, no domain was emptied, and each vertex waits, or has two values, or is as it was.
pub record Shrinks (q : Problem) (old : State) (before : List Bool) (new : State)
    (after : List Bool) : Type 0 where
  pub narrows : Narrows q old new
  pub long : length after ≡ length before
  pub noted : (p : ℕ) → p < size q.pattern
      → (waits_at after p ≡ true) ⊎ (HasTwo new p ⊎ IsSame old before new after p)
  pub some : (p : ℕ) → HasValue old p → HasValue new p
  pub bounded : length new.removed ≤ new.vertices * new.values
  pub less_work : work new after ≤ work old before

-- The domain of p has a value, and where it has one only, this has taken its consequences.
pub record Rests (q : Problem) (d : State) (p : ℕ) : Type 0 where
  pub some : (t : ℕ) × (in_domain d p t ≡ true)
  pub settled : (t : ℕ) → Single (in_domain d) p t → Settled q (in_domain d) p t

-- The vertex p is past: at most one value is left for it, and the other domains hold only what is consistent with this one. So it stays while values leave.
pub record IsPast (q : Problem) (d : State) (p : ℕ) : Type 0 where
  pub one : (t u : ℕ) → in_domain d p t ≡ true → in_domain d p u ≡ true → t ≡ u
  pub settled : (t : ℕ) → in_domain d p t ≡ true → Settled q (in_domain d) p t

-- The set is one of the pattern's vertices, and those that have left it are past.
pub record LeavesPast (q : Problem) (d : State) (s : sparse.State) : Type 0 where
  pub count_is : s.count ≡ size q.pattern
  pub past : (p : ℕ) → sparse.among s.removed p ≡ true → IsPast q d p

-- Members may have left the set.
pub record Fewer (old new : sparse.State) : Type 0 where
  pub count_same : new.count ≡ old.count
  pub rest : List ℕ
  pub front : new.removed ≡ old.removed ++ rest

-- Each vertex has a value, and waits or rests.
pub record Ready (q : Problem) (d : State) (waiting : List Bool) : Type 0 where
  pub long : length waiting ≡ size q.pattern
  pub some : HaveValues q d
  pub each : (p : ℕ) → p < size q.pattern → (waits_at waiting p ≡ true) ⊎ Rests q d p

-- Each vertex has a value, and each but p waits or rests.
pub record ReadyBut (q : Problem) (d : State) (waiting : List Bool) (p : ℕ) : Type 0 where
  pub long : length waiting ≡ size q.pattern
  pub some : HaveValues q d
  pub each : (r : ℕ) → r < size q.pattern → (p ≡ r → ⊥) → (waits_at waiting r ≡ true) ⊎ Rests q d r

-- After a true answer r has a value: it waits where it has only one, and else no flag has changed. After a false one it has none.
abbrev pub NotesSize : Bool → State → List Bool → List Bool → ℕ → Type 0
NotesSize true new before after r = ((v : ℕ) × Single (in_domain new) r v
    × (after ≡ slice_set before r true)) ⊎ (HasTwo new r × (after ≡ before))
NotesSize false new before after r = ((v : ℕ) → in_domain new r v ≡ true → ⊥) × (after ≡ before)

-- Nothing has changed; or t was in the domain of r, and the size that it has left is noted.
abbrev pub NotesTaken : Bool → State → List Bool → State → List Bool → ℕ → ℕ → Type 0
NotesTaken answer old before new after r t = ((answer ≡ true) × (new ≡ old)
    × (after ≡ before)) ⊎ ((in_domain old r t ≡ true) × NotesSize answer new before after r)

-- After a true answer the values of r are consistent with p at t; after a false one r has no value.
abbrev pub Swept : Bool → Problem → State → ℕ → ℕ → ℕ → Type 0
Swept true q new p t r = (u : ℕ) → (p ≡ r → ⊥) → in_domain new r u ≡ true → AreConsistent q p t r u
Swept false q new p t r = (u : ℕ) → in_domain new r u ≡ true → ⊥

-- What the step at r leaves: fewer values, none of p's taken, and those of r swept; what left was of r, and does not go together with p at t.
pub record Sweeps (answer : Bool) (q : Problem) (old : State) (before : List Bool) (new : State)
    (after : List Bool) (p t r : ℕ) : Type 0 where
  pub narrows : Narrows q old new
  pub swept : Swept answer q new p t r
  pub own : (v : ℕ) → in_domain new p v ≡ in_domain old p v
  pub gone : (s u : ℕ) → in_domain old s u ≡ true → in_domain new s u ≡ false
      → (s ≡ r) × (AreConsistent q p t r u → ⊥)
  pub shrinks : answer ≡ true → Shrinks q old before new after

-- After steps that have swept the vertices below r.
pub record Settling (q : Problem) (old : State) (before : List Bool) (new : State)
    (after : List Bool) (p t r : ℕ) : Type 0 where
  pub shrinks : Shrinks q old before new after
  pub own : (v : ℕ) → in_domain new p v ≡ in_domain old p v
  pub past : (s : ℕ) → s < r → Swept true q new p t s

-- What the steps at all vertices leave.
abbrev pub Settles : Bool → Problem → State → List Bool → State → List Bool → ℕ → ℕ → Type 0
Settles true q old before new after p t = Settling q old before new after p t (size q.pattern)
Settles false q old before new after p t = Narrows q old new × NoneInside q (in_domain new)

-- What a visit of a vertex that waited leaves: domains in which each vertex waits or rests, or none that an embedding is within.
abbrev pub Visited : Bool → Problem → State → List Bool → State → List Bool → Type 0
Visited true q old before new after = Narrows q old new × Ready q new after
    × (work new after < work old before)
Visited false q old before new after = Narrows q old new × NoneInside q (in_domain old)

-- What is left once no vertex waits: domains that are quiet as far as vertices and pairs of them tell, or none that an embedding is within.
abbrev pub TakenUp : Bool → Problem → State → State → Type 0
TakenUp true q old new = Narrows q old new × Quiet q (in_domain new)
TakenUp false q old new = Narrows q old new × NoneInside q (in_domain old)

-- Each vertex below n that does not wait has one value.
abbrev pub UndecidedWait : State → List Bool → ℕ → Type 0
UndecidedWait d waiting n = (p : ℕ) → p < n → waits_at waiting p ≡ false → size_of d p ≡ 1

-- After a true answer p has one value and its flag is as it was, or more and its flag is lowered; after a false one it has none.
abbrev pub NotesDecided : Bool → State → List Bool → List Bool → ℕ → Type 0
NotesDecided true d before after p = ((size_of d p ≡ 1) × (after ≡ before)) ⊎ (HasTwo d p
    × (after ≡ slice_set before p false))
NotesDecided false d before after p = (t : ℕ) → in_domain d p t ≡ true → ⊥

-- After these steps at the vertices below n.
pub record Noting (d : State) (before after : List Bool) (n : ℕ) : Type 0 where
  pub long : length after ≡ length before
  pub noted : (p : ℕ) → p < n → ((size_of d p ≡ 1)
      × (waits_at after p ≡ waits_at before p)) ⊎ HasTwo d p
  pub rest : (p : ℕ) → n ≤ p → waits_at after p ≡ waits_at before p

-- What these steps at all vertices leave; after a false answer one of them has no value.
abbrev pub Notes : Bool → State → List Bool → List Bool → Type 0
Notes true d before after = Noting d before after d.vertices
Notes false d before after = (p : ℕ) × (p < d.vertices) × ((t : ℕ) → in_domain d p t ≡ true → ⊥)

-- Each vertex waits, or has two values, or its domain is as it was.
abbrev pub DecidedOnesWait : Problem → State → State → List Bool → Type 0
DecidedOnesWait q old new after = (p : ℕ) → p < size q.pattern
    → (waits_at after p ≡ true) ⊎ (HasTwo new p ⊎ ((t : ℕ) → in_domain new p t ≡ in_domain old p t))

-- What counting found: nothing, or a set that left all other domains, or one with too few values.
abbrev pub pruned_of : Result Bool Failure → Pruned
pruned_of (Ok false) = pruned.Quiet
pruned_of (Ok true) = pruned.Hall
pruned_of (Err failure) = pruned.Fail

-- The domains of each block are balanced.
abbrev pub AreBalanced : Problem → State → Type 0
AreBalanced q d = (centre : Option ℕ) → has_block q centre ≡ true → Balanced (block_state q d centre)

-- The domains are balanced, and in the order that is asked of images.
pub record AreCalm (q : Problem) (d : State) : Type 0 where
  pub balanced : AreBalanced q d
  pub ordered : Ordered q (in_domain d)

-- What counting over a block, or over all of them, tells: the domains have what it looks for; or values left that no embedding needs; or no
-- embedding is within them.
abbrev pub Counts : (State → Type 0) → Result Bool Failure → Problem → State → State → Type 0
Counts Has (Ok false) q old new = (new ≡ old) × Has new
Counts Has (Ok true) q old new = Narrows q old new × (length old.removed < length new.removed)
Counts Has (Err failure) q old new = (new ≡ old) × NoneInside q (in_domain old)

-- What a filter tells of a problem: its domains have what it looks for; or values left that no embedding needs, each vertex waits or rests, and each that is decided by it waits; or no embedding is within them.
abbrev pub PrunesFor : (State → Type 0) → Result Bool Failure → Problem → State → State
    → List Bool → Type 0
PrunesFor Has (Ok false) q old new after = (new ≡ old) × Has new
PrunesFor Has (Ok true) q old new after = Narrows q old new × Ready q new after
    × (length old.removed < length new.removed) × DecidedOnesWait q old new after
PrunesFor Has (Err failure) q old new after = Narrows q old new × NoneInside q (in_domain old)

-- What propagation answers: domains at rest, those of unions of them and the order of images included, or none that an embedding is within.
abbrev pub Propagates : Bool → Problem → State → State → Type 0
Propagates true q old new = Narrows q old new × Quiet q (in_domain new) × AreCalm q new
Propagates false q old new = Narrows q old new × NoneInside q (in_domain old)
