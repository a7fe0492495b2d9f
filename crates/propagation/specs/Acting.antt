-- Nogoods that are acted on: which watches wait, how watches move, and that nothing follows where none waits.

use Rattle.std.specs.Prelude.{◌≡◌, ℕ, ◌<◌, Bool, true, false, ◌⊎◌, List, length, Option, Some, None, IfSome}
use Rattle.domain_bits.specs.Removals.{State, in_domain}
use Rattle.nogood_watch.specs.Nogoods as watched
use Rattle.nogood_watch.specs.Nogoods.{literal}
use Rattle.nogood_watch.specs.Watching.{forced_at}
use Rattle.nogood_watch.specs.InForce.{IsInForce, InForce, NothingFollows}
use Rattle.propagation.specs.Propagation.{waits_at}

-- ---- within propagation

-- The vertex of the watch waits, or the watch is in force.
abbrev pub WaitsOrIsInForce : State → List Bool → List (ℕ × ℕ) → ℕ → Type 0
WaitsOrIsInForce d waiting watches x = (waits_at waiting (literal watches x).0 ≡ true)
    ⊎ IsInForce d watches x

-- Each watch waits or is in force.
abbrev pub WatchesWait : State → List Bool → watched.State → Type 0
WatchesWait d waiting s = (x : ℕ) → x < length s.watches → WaitsOrIsInForce d waiting s.watches x

-- Each watch at another vertex than p does.
abbrev pub WatchesWaitBut : State → List Bool → ℕ → watched.State → Type 0
WatchesWaitBut d waiting p s = (x : ℕ) → x < length s.watches → ((literal s.watches x).0 ≡ p → ⊥)
    → WaitsOrIsInForce d waiting s.watches x

-- After a true answer each watch waits or is in force.
abbrev pub WaitAfter : Bool → State → List Bool → Option watched.State → Type 0
WaitAfter true d waiting nogoods = IfSome nogoods (WatchesWait d waiting)
WaitAfter false d waiting nogoods = Unit {0}

-- After a true answer each watch is in force.
abbrev pub InForceAfter : Bool → State → Option watched.State → Type 0
InForceAfter true d nogoods = IfSome nogoods (λ s. InForce d s.watches)
InForceAfter false d nogoods = Unit {0}

-- Each of these pairs is out of its domain.
abbrev pub AreOut : State → List (ℕ × ℕ × ℕ) → Type 0
AreOut d pairs = (k : ℕ) → k < length pairs
    → in_domain d (forced_at pairs k).0 (forced_at pairs k).1 ≡ false

-- After a true answer they are.
abbrev pub OutAfter : Bool → State → List (ℕ × ℕ × ℕ) → Type 0
OutAfter true d pairs = AreOut d pairs
OutAfter false d pairs = Unit {0}

-- After a true answer each nogood of one pair is out of the domains.
abbrev pub UnitsOutAfter : Bool → State → Option watched.State → Type 0
UnitsOutAfter true d nogoods = IfSome nogoods (λ s. AreOut d s.units)
UnitsOutAfter false d nogoods = Unit {0}

-- Each value of the domains d is in those of e.
abbrev pub IsPart : State → State → Type 0
IsPart d e = (p t : ℕ) → in_domain d p t ≡ true → in_domain e p t ≡ true

-- The nogoods are the same, and what was in force in domains of which d is a part is so after watches have moved.
pub record Move (d : State) (old new : watched.State) : Type 0 where
  pub nogoods_same : new.nogoods ≡ old.nogoods
  pub units_same : new.units ≡ old.units
  pub watches_are : watched.AreWatches new.nogoods new.watches
  pub stays : (e : State) → IsPart d e → InForce e old.watches → InForce e new.watches

-- So it is where nogoods are kept; where none are, none are after it.
abbrev pub HaveMoved : State → Option watched.State → Option watched.State → Type 0
HaveMoved d None None = Unit {0}
HaveMoved d (Some old) (Some new) = Move d old new
HaveMoved d None (Some new) = ⊥
HaveMoved d (Some old) None = ⊥

-- ---- at rest

-- Each nogood is in force in the domains: each watch of the longer ones, and those of one pair are out.
pub record IsActedOn (d : State) (s : watched.State) : Type 0 where
  pub watches_are : watched.AreWatches s.nogoods s.watches
  pub watches : InForce d s.watches
  pub units : AreOut d s.units

-- So it is where nogoods are kept.
abbrev pub AreActedOn : State → Option watched.State → Type 0
AreActedOn d nogoods = IfSome nogoods (IsActedOn d)

-- After a true answer it is.
abbrev pub ActedAfter : Bool → State → Option watched.State → Type 0
ActedAfter true d nogoods = AreActedOn d nogoods
ActedAfter false d nogoods = Unit {0}

-- Nothing is left to follow from what is kept: from the longer nogoods, and those of one pair are out of their domains.
pub record NothingLeft (d : State) (s : watched.State) : Type 0 where
  pub follows : NothingFollows d s.nogoods
  pub units : AreOut d s.units
