-- The worked numbers: the sequence's first terms, and budgets that are enough.

use Rattle.std.proofs.Common.{◌≡◌, [], ◌∷◌, refl}
use Rattle.search_theory.specs.Bounds.{luby_list, luby, cutoff, most, enough}

luby_begins : luby_list 3 ≡ 1 ∷ 1 ∷ 2 ∷ 1 ∷ 1 ∷ 2 ∷ 4 ∷ []
luby_begins = refl

luby_third : luby 3 ≡ 2
luby_third = refl

luby_seventh : luby 7 ≡ 4
luby_seventh = refl

third_cutoff : cutoff 3 ≡ 256
third_cutoff = refl

paths_of_three_into_four : most 3 4 ≡ 84
paths_of_three_into_four = refl

enough_for_three_into_four : enough 3 4 ≡ 128
enough_for_three_into_four = refl

enough_for_three_into_six : enough 3 6 ≡ 1536
enough_for_three_into_six = refl
