-- A walk along the watches of a literal.
use Rattle.std.specs.Prelude.{◌≡◌, ℕ, ◌+◌, ◌-◌, ◌*◌, ◌<◌, ◌≤◌, ◌⊎◌, ◌==◌, ◌++◌, Bool, true, false, List, [], length, slice_index}
use Rattle.graph_theory.specs.Neighbours.{count}
use Rattle.domain_bits.specs.Removals as removals
use Rattle.nogood_watch.specs.Lists.{no_watch, times, followed, Chained}
use Rattle.nogood_watch.specs.Nogoods.{Nogood, literal, nogood, AreLiterals, AreWatches}
use Rattle.nogood_watch.specs.Watching.{IsAssigned, IsGuarded, MovesToFree, Follows, forced_at}
use Rattle.nogood_watch.specs.Inside.{cell, is_live}
use Rattle.nogood_watch.specs.declared.watched.WatchAnswer.{WatchAnswer}
use Rattle.nogood_watch.specs.declared.watched.WatchAnswer.TheVariants.{Quiet, Forced, Fail}

-- every literal of other vertices than p and q is assigned
abbrev pub NoneFree : removals.State → List (ℕ × ℕ) → ℕ → ℕ → Type 0
NoneFree d xs p q = (k : ℕ) → k < length xs
    → ((literal xs k).0 ≡ p) ⊎ (((literal xs k).0 ≡ q) ⊎ IsAssigned d (literal xs k))

-- a literal of the list, of another vertex than p and q, that is not assigned
pub record IsFreeLiteral (d : removals.State) (xs : List (ℕ × ℕ)) (p q : ℕ) (l : ℕ
    × ℕ) : Type 0 where
  pub place : ℕ
  pub within : place < length xs
  pub is : literal xs place ≡ l
  pub not_p : l.0 ≡ p → ⊥
  pub not_q : l.0 ≡ q → ⊥
  pub free : IsAssigned d l → ⊥

-- the lists and watches are in order for a visit of x, the first one in hand
pub record Ready (d : removals.State) (nogoods : List Nogood) (watches : List (ℕ
    × ℕ)) (heads next : List ℕ) (x : ℕ) : Type 0 where
  pub heads_long : length heads ≡ d.vertices * d.values + 1
  pub next_long : length next ≡ length watches
  pub literals_are : (i : ℕ) → i < length nogoods
      → AreLiterals d.vertices d.values (nogood nogoods i).literals
  pub watches_are : AreWatches nogoods watches
  pub few : length next ≤ no_watch
  pub x_in : x < length watches
  pub first : slice_index heads (d.vertices * d.values) ≡ x
  pub assigned : IsAssigned d (literal watches x)

-- what has been forced, and one more at most
pub record Forces (d : removals.State) (nogoods : List Nogood) (old new : List (ℕ
    × ℕ)) (x : ℕ) (forced forced' : List (ℕ × ℕ × ℕ)) : Type 0 where
  pub more : List (ℕ × ℕ × ℕ)
  pub after : forced' ≡ forced ++ more
  pub few : length more ≤ 1
  pub follows : (k : ℕ) → k < length more
      → (f : Follows d nogoods old new (literal old x) (forced_at more k)) × (f.watch ≡ x)

-- what a visit of x does
pub record Visited (d : removals.State) (nogoods : List Nogood) (old new : List (ℕ
    × ℕ)) (forced forced' : List (ℕ × ℕ × ℕ)) (x : ℕ) : Type 0 where
  pub long : length new ≡ length old
  pub watches_are : AreWatches nogoods new
  pub guarded : IsGuarded d new forced' (literal old x) x
  pub others : (y : ℕ) → (y ≡ x → ⊥) → literal new y ≡ literal old y
  pub moves : MovesToFree d old new
  pub forces : Forces d nogoods old new x forced forced'

-- how many watches are still to be visited
abbrev pub to_visit : List ℕ → List ℕ → ℕ
to_visit heads next = count (λ y. times (followed (length next) next (slice_index heads
    (length heads - 1))) y == 1) (length next)

-- what holds on the way: a watch that waits is as it was, those of the other live nogoods are in their lists, and the nogoods visited are guarded
pub record Walking (d : removals.State) (nogoods : List Nogood) (live : List Bool) (start : List (ℕ × ℕ)) (l : ℕ
    × ℕ) (watches : List (ℕ × ℕ)) (heads next : List ℕ) (forced : List (ℕ × ℕ × ℕ)) : Type 0 where
  pub heads_long : length heads ≡ d.vertices * d.values + 1
  pub next_long : length next ≡ length watches
  pub start_long : length start ≡ length watches
  pub watches_are : AreWatches nogoods watches
  pub home : ℕ → ℕ
  pub chained : Chained home heads next
  pub waits : (x : ℕ) → x < length watches → home x ≡ d.vertices * d.values
      → (literal watches x ≡ l) × (literal start x ≡ l)
  pub rests : (x : ℕ) → x < length watches → is_live live x ≡ true
      → (home x ≡ d.vertices * d.values → ⊥) → home x ≡ cell d.values (literal watches x)
  pub nowhere : (x : ℕ) → x < length watches → is_live live x ≡ false
      → home x ≡ d.vertices * d.values + 1
  pub done : (x : ℕ) → x < length watches → is_live live x ≡ true → literal start x ≡ l
      → (home x ≡ d.vertices * d.values → ⊥) → IsGuarded d watches forced l x
  pub others : (x : ℕ) → x < length watches → (literal start x ≡ l → ⊥)
      → literal watches x ≡ literal start x
  pub moves : MovesToFree d start watches
  pub follows : (k : ℕ) → k < length forced
      → (f : Follows d nogoods start watches l (forced_at forced k))
      × (home f.watch ≡ d.vertices * d.values → ⊥) × (is_live live f.watch ≡ true)
  pub room : length forced + count (λ x. home x == d.vertices * d.values)
      (length next) ≤ length nogoods

-- what a walk has done
pub record Walked (d : removals.State) (nogoods : List Nogood) (live : List Bool) (old new : List (ℕ
    × ℕ)) (l : ℕ × ℕ) (forced : List (ℕ × ℕ × ℕ)) : Type 0 where
  pub guarded : (x : ℕ) → x < length old → is_live live x ≡ true → literal old x ≡ l
      → IsGuarded d new forced l x
  pub others : (x : ℕ) → x < length old → (literal old x ≡ l → ⊥) → literal new x ≡ literal old x
  pub moves : MovesToFree d old new
  pub follows : (k : ℕ) → k < length forced
      → (f : Follows d nogoods old new l (forced_at forced k)) × (is_live live f.watch ≡ true)

-- what an answer says of the forced pairs
abbrev pub Tells : WatchAnswer → removals.State → List (ℕ × ℕ × ℕ) → Type 0
Tells Quiet d forced = forced ≡ []
Tells Forced d forced = (0 < length forced) × ((k : ℕ) → k < length forced
    → IsAssigned d ((forced_at forced k).0, (forced_at forced k).1) → ⊥)
Tells (Fail name) d forced = (k : ℕ) × (k < length forced) × ((forced_at forced k).2 ≡ name)
    × IsAssigned d ((forced_at forced k).0, (forced_at forced k).1)
