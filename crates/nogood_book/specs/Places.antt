-- Beginnings of lists of rows, and the places of the rows of an owner.

use Rattle.std.specs.Prelude.{◌≡◌, ℕ, ◌+◌, ◌==◌, ◌&&◌, Bool, true, false, cond, List, [], ◌∷◌, ◌++◌, Some, slice_get}
use Rattle.nogood_book.specs.declared.row.Row.{Row}
use Rattle.nogood_book.specs.declared.row.RowKind.{RowKind}
use Rattle.nogood_book.specs.declared.row.RowKind.TheVariants.{Step, Nogood}

-- The rows begin with those that were seen.
abbrev pub StartsWith : List Row → List Row → Type 0
StartsWith rows seen = (rest : List Row) × (rows ≡ seen ++ rest)

abbrev pub place_or : Bool → ℕ → List ℕ → List ℕ
place_or false at rest = rest
place_or true at rest = at ∷ rest

abbrev pub places_from : ℕ → ℕ → List Row → List ℕ
places_from at owner [] = []
places_from at owner (r ∷ rs) = place_or (r.owner == owner) at (places_from (at + 1) owner rs)

-- The places of an owner's rows, in order.
abbrev pub places : ℕ → List Row → List ℕ
places owner rows = places_from 0 owner rows

abbrev pub is_nogood : RowKind → Bool
is_nogood Step = false
is_nogood Nogood = true

-- How many nogoods of an owner there are.
abbrev pub nogoods_by : ℕ → List Row → ℕ
nogoods_by owner [] = 0
nogoods_by owner (r ∷ rs) = cond (is_nogood r.kind && (r.owner == owner)) 1 0 + nogoods_by owner rs

-- Row k is a nogood.
abbrev pub IsNogoodRow : List Row → ℕ → Type 0
IsNogoodRow rows k = (r : Row) × (slice_get rows k ≡ Some r) × (r.kind ≡ Nogood)
