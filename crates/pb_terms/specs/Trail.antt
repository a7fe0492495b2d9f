-- What a set of literals keeps beside its values: the trail of the variables that were set, with room for all of them.
use Rattle.std.specs.Prelude.{◌≡◌, ℕ, ◌+◌, ◌<◌, ◌≤◌, ◌⊎◌, Bool, List, [], ◌∷◌, Option, Some, None, length, get_or}

-- How many places have no value.
abbrev pub unset_count : List (Option Bool) → ℕ
unset_count [] = 0
unset_count (None ∷ os) = 1 + unset_count os
unset_count (Some b ∷ os) = unset_count os

-- The number stands in the list.
abbrev pub Among : ℕ → List ℕ → Type 0
Among v [] = ⊥
Among v (x ∷ xs) = (v ≡ x) ⊎ Among v xs

-- Each number of the list is below n.
abbrev pub AllBelow : ℕ → List ℕ → Type 0
AllBelow n [] = Unit {0}
AllBelow n (x ∷ xs) = (x < n) × AllBelow n xs

-- The trail names the places that have a value, and no others' room is used up.
pub record IsTrailOf (values : List (Option Bool)) (trail : List ℕ) (capacity : ℕ) : Type 0 where
  pub named : (v : ℕ) (b : Bool) → get_or values v None ≡ Some b → Among v trail
  pub range : AllBelow (length values) trail
  pub counted : unset_count values + length trail ≡ length values
  pub room : length values ≤ capacity
