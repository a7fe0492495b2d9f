-- Domains in which each watch that is assigned has had its say, and what that tells of all nogoods.
use Rattle.std.specs.Prelude.{◌≡◌, ℕ, ◌<◌, true, false, List, length}
use Rattle.domain_bits.specs.Removals as removals
use Rattle.domain_bits.specs.Changes.{IsEmptyDomain}
use Rattle.nogood_watch.specs.Nogoods.{Nogood, literal, partner, nogood, AreLiterals, AreWatches}
use Rattle.nogood_watch.specs.Watching.{IsAssigned, AllBut, MovesToFree, IsWhole}

-- where the watch x is assigned, the other one of its nogood has left its domain
abbrev pub IsInForce : removals.State → List (ℕ × ℕ) → ℕ → Type 0
IsInForce d watches x = IsAssigned d (literal watches x)
    → removals.in_domain d (literal watches (partner x)).0 (literal watches (partner x)).1 ≡ false

-- each watch is in force
abbrev pub InForce : removals.State → List (ℕ × ℕ) → Type 0
InForce d watches = (x : ℕ) → x < length watches → IsInForce d watches x

-- no nogood has all its literals assigned, and where all but one are, that one has left its domain
pub record NothingFollows (d : removals.State) (nogoods : List Nogood) : Type 0 where
  pub none_whole : (name : ℕ) → IsWhole d nogoods name → ⊥
  pub last_gone : (i : ℕ) (l : ℕ × ℕ) → i < length nogoods
      → AllBut d (nogood nogoods i).literals l → removals.in_domain d l.0 l.1 ≡ false

-- where all watches are in force, nothing follows
abbrev pub ForceIsEnough : Type 0
ForceIsEnough = (d : removals.State) (nogoods : List Nogood) (watches : List (ℕ × ℕ))
    → AreWatches nogoods watches → InForce d watches → NothingFollows d nogoods

-- the domains of d are not empty, and each is within that of e
pub record IsWithin (d e : removals.State) : Type 0 where
  pub less : (p t : ℕ) → removals.in_domain d p t ≡ true → removals.in_domain e p t ≡ true
  pub some : (p : ℕ) → p < d.vertices → IsEmptyDomain d p → ⊥

-- watches have moved as `on_assign` moves them at the domains d
pub record AreMoved (d : removals.State) (nogoods : List Nogood) (old new : List (ℕ
    × ℕ)) : Type 0 where
  pub literals_are : (i : ℕ) → i < length nogoods
      → AreLiterals d.vertices d.values (nogood nogoods i).literals
  pub before : AreWatches nogoods old
  pub after : AreWatches nogoods new
  pub moves : MovesToFree d old new

-- a watch that is in force in wider domains is so after watches have moved
abbrev pub EachStaysInForce : Type 0
EachStaysInForce = (d e : removals.State) (nogoods : List Nogood) (old new : List (ℕ × ℕ))
    → AreMoved d nogoods old new → IsWithin d e
    → (x : ℕ) → x < length new → IsInForce e old x → IsInForce e new x

-- so where all are, all are
abbrev pub StaysInForce : Type 0
StaysInForce = (d e : removals.State) (nogoods : List Nogood) (old new : List (ℕ × ℕ))
    → AreMoved d nogoods old new → IsWithin d e
    → InForce e old → InForce e new

pub record WatchLaws : Type 0 where
  pub enough : ForceIsEnough
  pub each_stays : EachStaysInForce
  pub stays : StaysInForce
