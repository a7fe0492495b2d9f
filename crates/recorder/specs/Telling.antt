-- What is told of the values that leave, and that it is true.

use Rattle.std.specs.Prelude.{◌≡◌, ℕ, ◌<◌, ◌≤◌, nat_lt, Bool, true, false, ◌⊎◌, List, [], ◌∷◌, ◌++◌, length, is_some, Option, Some, None, slice_get}
use Rattle.graph_theory.specs.Graph.{size, edge}
use Rattle.graph_theory.specs.Embedding.{Problem, is_injective}
use Rattle.graph_theory.specs.Neighbours.{members, is_near}
use Rattle.graph_theory.specs.Blocks.{in_block, has_block}
use Rattle.graph_theory.specs.Reversed.{turned}
use Rattle.graph_theory.specs.declared.direction.Direction.{Direction}
use Rattle.search_theory.specs.Consistency.{IsFirstValue, AreConsistent}
use Rattle.bit_rows.specs.BitRows.{has}
use Rattle.domain_bits.specs.Removals.{State, in_domain, full, undone}
use Rattle.all_different.specs.Prefixes.{Short}
use Rattle.all_different.specs.Pruning.{among}
use Rattle.all_different.specs.Members.{part}
use Rattle.nogood_watch.specs.Nogoods as watched
use Rattle.nogood_watch.specs.Nogoods.{literal}
use Rattle.nogood_watch.specs.Watching.{forced_at}
use Rattle.recorder.specs.declared.change.Cause.{Cause}
use Rattle.recorder.specs.declared.change.Cause.TheVariants as cause
use Rattle.recorder.specs.declared.change.Side.{Side}
use Rattle.recorder.specs.declared.change.Side.TheVariants.{Lesser, Greater}
use Rattle.recorder.specs.declared.change.Failure.{Failure}
use Rattle.recorder.specs.declared.change.Failure.TheVariants as failure
use Rattle.recorder.specs.Recording.{Change, LeftOne, LeftOthers, LeftOver, from_of, CountedSet, cut_at}

-- The domains have a vertex for each pattern vertex and a value for each target vertex.
pub record IsOf (q : Problem) (d : State) : Type 0 where
  pub vertices_is : d.vertices ≡ size q.pattern
  pub values_is : d.values ≡ size q.target

-- No value but t is left for p.
abbrev pub HasAtMost : State → ℕ → ℕ → Type 0
HasAtMost d p t = (u : ℕ) → in_domain d p u ≡ true → u ≡ t

-- The row has each value of the first domain of p.
abbrev pub HasFirst : Problem → ℕ → List ℕ → Type 0
HasFirst q p row = (t : ℕ) → IsFirstValue q p t → t < size q.target → has row t ≡ true

-- ---- nogoods by name

-- One of these lists has the name, and these pairs.
pub record NamesList (nogoods : List watched.Nogood) (name : ℕ) (pairs : List (ℕ
    × ℕ)) : Type 0 where
  pub place : ℕ
  pub within : place < length nogoods
  pub name_is : (watched.nogood nogoods place).name ≡ name
  pub pairs_are : (watched.nogood nogoods place).literals ≡ pairs

-- One of these single pairs has the name.
pub record NamesUnit (units : List (ℕ × ℕ × ℕ)) (name : ℕ) (pairs : List (ℕ × ℕ)) : Type 0 where
  pub place : ℕ
  pub within : place < length units
  pub name_is : (forced_at units place).2 ≡ name
  pub pair_is : ((forced_at units place).0, (forced_at units place).1) ∷ [] ≡ pairs

-- A kept nogood of this name has these pairs.
abbrev pub IsNamed : Option watched.State → ℕ → List (ℕ × ℕ) → Type 0
IsNamed None name pairs = ⊥
IsNamed (Some s) name pairs = NamesList s.nogoods name pairs ⊎ NamesUnit s.units name pairs

-- What was named is named still.
abbrev pub KeepsNames : Option watched.State → Option watched.State → Type 0
KeepsNames old new = (name : ℕ) (pairs : List (ℕ × ℕ)) → IsNamed old name pairs
    → IsNamed new name pairs

-- ---- what a change stands by

-- No value but t is left for p, and r is another vertex.
pub record Faces (q : Problem) (d : State) (p t r : ℕ) : Type 0 where
  pub vertex_in : p < size q.pattern
  pub value_in : t < size q.target
  pub other_in : r < size q.pattern
  pub apart : p ≡ r → ⊥
  pub decided : HasAtMost d p t

-- In this direction an edge leads from p to another vertex r.
pub record Joins (q : Problem) (direction : Direction) (p r : ℕ) : Type 0 where
  pub vertex_in : p < size q.pattern
  pub other_in : r < size q.pattern
  pub apart : p ≡ r → ⊥
  pub joined : is_some (edge (turned direction q.pattern) p r) ≡ true

-- An edge leads from p to r, but from no value that is left for p one with the same label to u: so r, which goes where p's edge leads, does not go to u.
pub record IsUnsupported (q : Problem) (d : State) (direction : Direction)
    (p r u : ℕ) : Type 0 where
  pub joins : Joins q direction p r
  pub value_in : u < size q.target
  pub none : (w : ℕ) → in_domain d p w ≡ true
      → edge (turned direction q.target) w u ≡ edge (turned direction q.pattern) p r → ⊥

-- Of a pair whose images are to be in order, the vertex at this end.
abbrev pub end_at : Side → ℕ × ℕ → ℕ
end_at Lesser x = x.0
end_at Greater x = x.1

-- The vertex at the other end.
abbrev pub end_beside : Side → ℕ × ℕ → ℕ
end_beside Lesser x = x.1
end_beside Greater x = x.0

-- With u at this end the other may have w.
abbrev pub is_beside : Side → ℕ → ℕ → Bool
is_beside Lesser u w = nat_lt u w
is_beside Greater u w = nat_lt w u

-- The vertex r is at this end of pair k, and no value that is left for the other end is on its side of u: so r does not go to u.
pub record IsOutOfOrder (q : Problem) (d : State) (k : ℕ) (side : Side) (r u : ℕ) : Type 0 where
  pub pair : ℕ × ℕ
  pub pair_is : slice_get q.less k ≡ Some pair
  pub end_is : end_at side pair ≡ r
  pub vertex_in : r < size q.pattern
  pub other_in : end_beside side pair < size q.pattern
  pub value_in : u < size q.target
  pub none : (w : ℕ) → in_domain d (end_beside side pair) w ≡ true → is_beside side u w ≡ false

-- A nogood of this name has the pair of r and u, and of each other pair the value is all that is left.
pub record IsForbidden (s : Option watched.State) (d : State) (name r u : ℕ) : Type 0 where
  pub pairs : List (ℕ × ℕ)
  pub named : IsNamed s name pairs
  pub place : ℕ
  pub within : place < length pairs
  pub here : literal pairs place ≡ (r, u)
  pub rest : (k : ℕ) → k < length pairs → (literal pairs k ≡ (r, u))
      ⊎ HasAtMost d (literal pairs k).0 (literal pairs k).1

-- So it is of each of these pairs with the name beside it.
abbrev pub AreForbidden : Option watched.State → State → List (ℕ × ℕ × ℕ) → Type 0
AreForbidden s d pairs = (k : ℕ) → k < length pairs
    → IsForbidden s d (forced_at pairs k).2 (forced_at pairs k).0 (forced_at pairs k).1

-- No number stands twice in the list.
abbrev pub AreDistinct : List ℕ → Type 0
AreDistinct [] = Unit {0}
AreDistinct (x ∷ xs) = (among xs x ≡ false) × AreDistinct xs

-- The problem has the block of this centre, or of all vertices; these are vertices of it, none twice; and together they have no other
-- values than these.
pub record HaveOnly (q : Problem) (centre : Option ℕ) (d : State) (vertices values : List
    ℕ) : Type 0 where
  pub block : has_block q centre ≡ true
  pub members : (p : ℕ) → among vertices p ≡ true → in_block q centre p ≡ true
  pub vertices_in : (p : ℕ) → among vertices p ≡ true → p < size q.pattern
  pub values_in : (t : ℕ) → among values t ≡ true → t < size q.target
  pub distinct : AreDistinct vertices
  pub within : (p t : ℕ) → among vertices p ≡ true → in_domain d p t ≡ true → among values t ≡ true

-- In this direction edges lead from p to these vertices, none of which is twice here; but among the values to which edges lead from t, t itself aside, they have only these, which
-- are fewer. So p does not go to t where any two images have to differ.
pub record IsCrowded (q : Problem) (d : State) (direction : Direction) (p t : ℕ) (vertices
    values : List ℕ) : Type 0 where
  pub injective : is_injective q.maps ≡ true
  pub vertex_in : p < size q.pattern
  pub value_in : t < size q.target
  pub joins : (r : ℕ) → among vertices r ≡ true → Joins q direction p r
  pub distinct : AreDistinct vertices
  pub values_in : (u : ℕ) → among values u ≡ true → u < size q.target
  pub within : (r u : ℕ) → among vertices r ≡ true → in_domain d r u ≡ true → (t ≡ u → ⊥)
      → is_some (edge (turned direction q.target) t u) ≡ true → among values u ≡ true
  pub fewer : length values < length vertices

-- What the cause of a change says of the domains before it.
abbrev pub StandsBy : Cause → Problem → State → ℕ → Type 0
StandsBy cause.First q d r = r < size q.pattern
StandsBy (cause.Guess t) q d r = (r < size q.pattern) × (in_domain d r t ≡ true)
StandsBy (cause.Vertex p t) q d r = Faces q d p t r
StandsBy (cause.Nogood name) q d r = r < size q.pattern
StandsBy (cause.Edge p u direction) q d r = IsUnsupported q d direction p r u
StandsBy (cause.Order k u side) q d r = IsOutOfOrder q d k side r u

abbrev pub Stands : Change → Problem → State → Type 0
Stands (LeftOne r why from) q d = StandsBy why q d r
Stands (LeftOthers centre vertices values from) q d = HaveOnly q centre d vertices values
    × (length values ≤ length vertices)
Stands (LeftOver p t direction vertices values from) q d = IsCrowded q d direction p t vertices
    values

-- The cause refuses u for r.
abbrev pub RefusesBy : Cause → Problem → Option watched.State → State → ℕ → ℕ → Type 0
RefusesBy cause.First q s d r u = IsFirstValue q r u → ⊥
RefusesBy (cause.Guess t) q s d r u = u ≡ t → ⊥
RefusesBy (cause.Vertex p t) q s d r u = AreConsistent q p t r u → ⊥
RefusesBy (cause.Nogood name) q s d r u = IsForbidden s d name r u
RefusesBy (cause.Edge p v direction) q s d r u = u ≡ v
RefusesBy (cause.Order k v side) q s d r u = u ≡ v

-- So does a change: of its vertex by its cause, or of all vertices of a block but those of a set the values of these, or of one vertex one value.
abbrev pub Refuses : Change → Problem → Option watched.State → State → ℕ → ℕ → Type 0
Refuses (LeftOne p why from) q s d r u = (r ≡ p) × RefusesBy why q s d p u
Refuses (LeftOthers centre vertices values from) q s d r u = (r < size q.pattern)
    × (in_block q centre r ≡ true) × (among vertices r ≡ false) × (among values u ≡ true)
Refuses (LeftOver p t direction vertices values from) q s d r u = (r ≡ p) × (u ≡ t)

-- What leaves, if anything does, leaves by the change.
pub record Leaves (q : Problem) (s : Option watched.State) (old new : State)
    (c : Change) : Type 0 where
  pub vertices_same : new.vertices ≡ old.vertices
  pub values_same : new.values ≡ old.values
  pub rest : List (ℕ × ℕ)
  pub front : new.removed ≡ old.removed ++ rest
  pub from_is : from_of c ≡ length old.removed
  pub stands : Stands c q old
  pub refused : (r u : ℕ) → in_domain old r u ≡ true → in_domain new r u ≡ false
      → Refuses c q s old r u

-- The change has taken place.
pub record Changed (q : Problem) (s : Option watched.State) (old new : State)
    (c : Change) : Type 0 where
  pub leaves : Leaves q s old new c
  pub some : length old.removed < length new.removed

-- ---- what is told is true

-- These changes, the last one first, have led from full domains to these.
pub data Told (q : Problem) (s : Option watched.State) : State → List Change → Type 0 where
  begins : (vertices values : ℕ) → Told q s (full vertices values) []
  goes_on : (old new : State) (cs : List Change) (c : Change) → Told q s old cs
      → Changed q s old new c → Told q s new (c ∷ cs)

-- So it is where changes are kept.
abbrev pub Tells : Problem → Option watched.State → State → Option (List Change) → Type 0
Tells q s d None = Unit {0}
Tells q s d (Some cs) = Told q s d cs

-- Where what was told of the old domains is true, so is what is told of the new ones, whatever names nogoods have.
abbrev pub TellsOn : Problem → State → Option (List Change) → State → Option (List Change) → Type 0
TellsOn q old before new after = (s : Option watched.State) → Tells q s old before
    → Tells q s new after

-- ---- failures

-- The vertex has no value.
abbrev pub HasNone : Problem → State → ℕ → Type 0
HasNone q d p = (p < size q.pattern) × ((t : ℕ) → in_domain d p t ≡ true → ⊥)

-- The failure is that of an empty domain.
abbrev pub IsEmptied : Problem → State → Failure → Type 0
IsEmptied q d (failure.Empty p) = HasNone q d p
IsEmptied q d (failure.Whole name) = ⊥
IsEmptied q d (failure.Short n) = ⊥

-- Of each pair of a nogood of this name the value is all that is left.
pub record IsDecided (s : Option watched.State) (d : State) (name : ℕ) : Type 0 where
  pub pairs : List (ℕ × ℕ)
  pub named : IsNamed s name pairs
  pub all : (k : ℕ) → k < length pairs → HasAtMost d (literal pairs k).0 (literal pairs k).1

-- The domains of the vertices near a centre, at their places, or of all.
abbrev pub block_state : Problem → State → Option ℕ → State
block_state q d None = d
block_state q d (Some c) = part d (members (is_near q.pattern c) (size q.pattern))

-- The first n domains of a block have too few values.
pub record HasShort (q : Problem) (d : State) (n : ℕ) : Type 0 where
  pub centre : Option ℕ
  pub block : has_block q centre ≡ true
  pub short : Short (block_state q d centre) n

-- The set is kept, and its vertices have only its values, which are fewer.
pub record IsShown (q : Problem) (d : State) (short : Option CountedSet) : Type 0 where
  pub set : CountedSet
  pub set_is : short ≡ Some set
  pub only : HaveOnly q set.centre d set.vertices set.values
  pub fewer : length set.values < length set.vertices

-- What each failure says of the domains.
abbrev pub Fails : Problem → Option watched.State → State → Option (List Change)
    → Option CountedSet → Failure → Type 0
Fails q s d changes short (failure.Empty p) = HasNone q d p
Fails q s d changes short (failure.Whole name) = IsDecided s d name
Fails q s d changes short (failure.Short n) = HasShort q d n
    × ((changes ≡ None) ⊎ IsShown q d short)

-- ---- laws

-- What is told stays true where domains are undone, to whichever mark, and where nogoods keep their names.
pub record TellingLaws : Type 0 where
  pub undone : (q : Problem) (s : Option watched.State) (d : State) (told : Option (List Change))
      (k : ℕ) → Tells q s d told → Tells q s (undone d k) (cut_at k told)
  pub named : (q : Problem) (old new : Option watched.State) (d : State) (told : Option
      (List Change)) → KeepsNames old new → Tells q old d told → Tells q new d told
