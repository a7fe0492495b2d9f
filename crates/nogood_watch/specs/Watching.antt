-- What follows where a vertex is assigned.
use Rattle.std.specs.Prelude.{◌≡◌, ℕ, ◌<◌, ◌⊎◌, true, false, List, [], length, slice_index_or}
use Rattle.domain_bits.specs.Removals as removals
use Rattle.domain_bits.specs.Changes.{Single}
use Rattle.nogood_watch.specs.Nogoods.{Nogood, State, literal, partner, nogood, nogood_of, AreWatches}
use Rattle.nogood_watch.specs.declared.watched.WatchAnswer.{WatchAnswer}
use Rattle.nogood_watch.specs.declared.watched.WatchAnswer.TheVariants.{Quiet, Forced, Fail}

-- the literal's value is all of its vertex's domain
abbrev pub IsAssigned : removals.State → ℕ × ℕ → Type 0
IsAssigned d l = Single d l.0 l.1

-- each literal is l or is assigned
abbrev pub AllBut : removals.State → List (ℕ × ℕ) → ℕ × ℕ → Type 0
AllBut d xs l = (k : ℕ) → k < length xs → (literal xs k ≡ l) ⊎ IsAssigned d (literal xs k)

-- what was forced at a place
abbrev pub forced_at : List (ℕ × ℕ × ℕ) → ℕ → ℕ × ℕ × ℕ
forced_at forced k = slice_index_or forced k (0, 0, 0)

-- the watch is at a literal that is not assigned
abbrev pub IsFree : removals.State → List (ℕ × ℕ) → ℕ → Type 0
IsFree d watches x = IsAssigned d (literal watches x) → ⊥

-- it is watched at l as before, and its other watch is forced
pub record IsForced (watches : List (ℕ × ℕ)) (forced : List (ℕ × ℕ × ℕ)) (l : ℕ
    × ℕ) (x : ℕ) : Type 0 where
  pub this : literal watches x ≡ l
  pub place : ℕ
  pub within : place < length forced
  pub vertex : (forced_at forced place).0 ≡ (literal watches (partner x)).0
  pub value : (forced_at forced place).1 ≡ (literal watches (partner x)).1

-- it is watched at l as before, and its other watch has left its domain
pub record HasLeft (d : removals.State) (watches : List (ℕ × ℕ)) (l : ℕ × ℕ) (x : ℕ) : Type 0 where
  pub this : literal watches x ≡ l
  pub other : removals.in_domain d (literal watches (partner x)).0 (literal watches
      (partner x)).1 ≡ false

-- what holds of a nogood with the watch x that was at l, once l is assigned
abbrev pub IsGuarded : removals.State → List (ℕ × ℕ) → List (ℕ × ℕ × ℕ) → ℕ × ℕ → ℕ → Type 0
IsGuarded d watches forced l x = IsFree d watches x
    ⊎ (IsForced watches forced l x ⊎ HasLeft d watches l x)

-- a pair with a name is in its domain, and all other literals of a nogood of that name, with a watch x that was and is at l, are assigned
pub record Follows (d : removals.State) (nogoods : List Nogood) (old new : List (ℕ × ℕ)) (l : ℕ
    × ℕ) (e : ℕ × ℕ × ℕ) : Type 0 where
  pub watch : ℕ
  pub within : watch < length old
  pub was : literal old watch ≡ l
  pub is : literal new watch ≡ l
  pub other : literal new (partner watch) ≡ (e.0, e.1)
  pub name : (nogood_of nogoods watch).name ≡ e.2
  pub here : removals.in_domain d e.0 e.1 ≡ true
  pub rest : AllBut d (nogood_of nogoods watch).literals (e.0, e.1)

-- each nogood that was watched at l is guarded now
abbrev pub GuardsAll : removals.State → State → State → ℕ × ℕ → Type 0
GuardsAll d old new l = (x : ℕ) → x < length old.watches → literal old.watches x ≡ l
    → IsGuarded d new.watches new.forced l x

-- every other watch keeps its literal
abbrev pub KeepsOthers : State → State → ℕ × ℕ → Type 0
KeepsOthers old new l = (x : ℕ) → x < length old.watches → (literal old.watches x ≡ l → ⊥)
    → literal new.watches x ≡ literal old.watches x

-- a watch keeps its literal, or that one is assigned and the new one is not
abbrev pub KeepsOrFrees : removals.State → ℕ × ℕ → ℕ × ℕ → Type 0
KeepsOrFrees d old new = (new ≡ old) ⊎ (IsAssigned d old × (IsAssigned d new → ⊥))

-- no watch moves but from a literal that is assigned to one that is not
abbrev pub MovesToFree : removals.State → List (ℕ × ℕ) → List (ℕ × ℕ) → Type 0
MovesToFree d old new = (x : ℕ) → x < length old → KeepsOrFrees d (literal old x) (literal new x)

-- nothing is forced that does not follow
abbrev pub AllFollow : removals.State → State → State → ℕ × ℕ → Type 0
AllFollow d old new l = (k : ℕ) → k < length new.forced
    → Follows d old.nogoods old.watches new.watches l (forced_at new.forced k)

-- all literals of a nogood of this name are assigned
pub record IsWhole (d : removals.State) (nogoods : List Nogood) (name : ℕ) : Type 0 where
  pub place : ℕ
  pub within : place < length nogoods
  pub named : (nogood nogoods place).name ≡ name
  pub all : (k : ℕ) → k < length (nogood nogoods place).literals
      → IsAssigned d (literal (nogood nogoods place).literals k)

-- what each answer says
abbrev pub Answers : WatchAnswer → removals.State → State → Type 0
Answers Quiet d s = s.forced ≡ []
Answers Forced d s = (0 < length s.forced) × ((k : ℕ) → k < length s.forced
    → IsAssigned d ((forced_at s.forced k).0, (forced_at s.forced k).1) → ⊥)
Answers (Fail name) d s = IsWhole d s.nogoods name

-- all nogoods that were watched at l have been visited, with this answer
pub record Visits (d : removals.State) (old new : State) (l : ℕ
    × ℕ) (answer : WatchAnswer) : Type 0 where
  pub guarded : GuardsAll d old new l
  pub others : KeepsOthers old new l
  pub moves : MovesToFree d old.watches new.watches
  pub forced : AllFollow d old new l
  pub answers : Answers answer d new
  pub watches : AreWatches new.nogoods new.watches
  pub nogoods : new.nogoods ≡ old.nogoods
  pub units : new.units ≡ old.units
  pub vertices : new.vertices ≡ old.vertices
  pub values : new.values ≡ old.values
