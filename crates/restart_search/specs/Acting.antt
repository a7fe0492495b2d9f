-- Nogoods that are acted on at each moment of a search.

use Rattle.std.specs.Prelude.{List, [], ◌∷◌, Option}
use Rattle.domain_bits.specs.Removals.{State, undone}
use Rattle.nogood_watch.specs.Nogoods as watched
use Rattle.propagation.specs.Acting.{AreActedOn}
use Rattle.restart_search.specs.declared.position.Moment.{Moment}

-- What is kept was acted on at each of these moments.
abbrev pub AtMoments : State → Option watched.State → List Moment → Type 0
AtMoments d nogoods [] = Unit {0}
AtMoments d nogoods (k ∷ ks) = AreActedOn (undone d k.domains) nogoods × AtMoments d nogoods ks

-- So it was at the root's moment and at each level's.
pub record WereActedOn (d : State) (nogoods : Option watched.State) (marks : List Moment)
    (root : Moment) : Type 0 where
  pub at_root : AreActedOn (undone d root.domains) nogoods
  pub at_levels : AtMoments d nogoods marks

-- So it was then and is now: what holds of the nogoods of a search before each step.
pub record Acting (d : State) (nogoods : Option watched.State) (marks : List Moment)
    (root : Moment) : Type 0 where
  pub past : WereActedOn d nogoods marks root
  pub here : AreActedOn d nogoods
