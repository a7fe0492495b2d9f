-- Walking back over changes that are kept as entries.

use Rattle.std.specs.Prelude.{◌≡◌, ℕ, ◌<◌, ◌⊎◌, ◌&&◌, ◌||◌, not, nat_lt, Bool, true, false, List, [], ◌∷◌, map, length, slice_index, Option}
use Rattle.graph_theory.specs.Embedding.{Problem}
use Rattle.graph_theory.specs.Blocks.{in_block}
use Rattle.log_theory.specs.Lookups.{is_among}
use Rattle.bit_rows.specs.BitRows.{has}
use Rattle.needed_values.specs.Needed.{needs}
use Rattle.nogood_book.specs.declared.row.Row.{Row}
use Rattle.nogood_book.specs.Places.{IsNogoodRow}
use Rattle.recorder.specs.declared.change.Cause.TheVariants as cause
use Rattle.recorder.specs.Recording.{Change, LeftOne, LeftOthers, LeftOver, change_of}
use Rattle.dead_theory.specs.Changes.{Chosen, IsOneOf, IsInProblem}
use Rattle.dead_theory.specs.Walks.{MayPass, RestsOn, IsWithin, Walked}
use Rattle.dead_paths.specs.declared.room.ChosenEntry.{ChosenEntry}
use Rattle.dead_paths.specs.declared.takes.Choice.{Choice}
use Rattle.dead_paths.specs.declared.takes.Choice.TheVariants as choice

-- ---- needed values

-- Of a target of n vertices a value is needed that is kept as one. What is no vertex of the target is needed everywhere: nothing is asked of it.
abbrev pub values_of : ℕ → List Bool → List ℕ → ℕ → ℕ → Bool
values_of n marked needed r u = not (nat_lt u n) || needs n marked needed r u

-- ---- pairs by their vertices

-- No value.
abbrev pub no_value : ℕ
no_value = 65535

-- Where a value stands at a vertex, both are one of the pairs.
abbrev pub AreAt : List ℕ → List (ℕ × ℕ) → Type 0
AreAt at pairs = (p t : ℕ) → p < length at → slice_index at p ≡ t → (t ≡ no_value → ⊥)
    → IsOneOf pairs (p, t)

-- ---- changes of entries

-- A change with what is asked of it.
abbrev pub asked_of : Bool → Change → Chosen
asked_of by_edges c = record { change = c; by_edges = by_edges }

-- That of a chosen entry; and so for all of them, in their order.
abbrev pub chosen_of : List ℕ → ChosenEntry → Chosen
chosen_of numbers c = asked_of c.by_edges (change_of numbers c.entry)

abbrev pub chosen_in : List ℕ → List ChosenEntry → List Chosen
chosen_in numbers entries = map (chosen_of numbers) entries

-- A change by a nogood is by one that is a row.
abbrev pub IsOfRow : List Row → Change → Type 0
IsOfRow rows (LeftOne r (cause.Nogood name) from) = IsNogoodRow rows name
IsOfRow rows (LeftOne r cause.First from) = Unit {0}
IsOfRow rows (LeftOne r (cause.Guess t) from) = Unit {0}
IsOfRow rows (LeftOne r (cause.Vertex p t) from) = Unit {0}
IsOfRow rows (LeftOne r (cause.Edge p u direction) from) = Unit {0}
IsOfRow rows (LeftOne r (cause.Order k u side) from) = Unit {0}
IsOfRow rows (LeftOthers centre vertices values from) = Unit {0}
IsOfRow rows (LeftOver p t direction vertices values from) = Unit {0}

-- Lines can be named for these changes.
abbrev pub AreNameable : Problem → List Row → List Chosen → Type 0
AreNameable q rows [] = Unit {0}
AreNameable q rows (c ∷ cs) = (IsInProblem q c.change × IsOfRow rows c.change)
    × AreNameable q rows cs

-- One step back from a change. A true answer: it is chosen, and a line can be named for it. A false one: it may be passed, and all that was
-- needed still is.
abbrev pub IsStep : Bool → Problem → List Row → List (ℕ × ℕ) → Change → (ℕ → ℕ → Bool) → (ℕ → ℕ
    → Bool) → Type 0
IsStep true q rows path c old now = RestsOn q rows path (asked_of false c) old now × IsOfRow rows c
IsStep false q rows path c old now = MayPass q rows c old × IsWithin old now

-- So it is of what comes of a step.
abbrev pub IsMade : Choice → Problem → List Row → List (ℕ × ℕ) → Change → (ℕ → ℕ → Bool) → (ℕ → ℕ
    → Bool) → Type 0
IsMade choice.Passed q rows path c old now = IsStep false q rows path c old now
IsMade choice.AsTold q rows path c old now = IsStep true q rows path c old now
IsMade choice.ByEdges q rows path c old now =
    RestsOn q rows path (asked_of true c) old now × IsOfRow rows c

-- The vertex is in the block, and none of these.
abbrev pub is_other : Problem → Option ℕ → List ℕ → ℕ → Bool
is_other q b vertices r = in_block q b r && not (is_among r vertices)

-- Of what was needed the rest is what a set takes from a vertex that passes the test: a value that its row has not.
abbrev pub AreLeft : ℕ → (ℕ → Bool) → List ℕ → (ℕ → ℕ → Bool) → (ℕ → ℕ → Bool) → Type 0
AreLeft n test set old new =
    (r u : ℕ) → u < n → old r u ≡ true → (new r u ≡ true) ⊎ ((test r ≡ true)
    × (has set u ≡ false))

-- Of what was needed the rest is one value of one vertex.
abbrev pub AreLeftBut : ℕ → ℕ → ℕ → (ℕ → ℕ → Bool) → (ℕ → ℕ → Bool) → Type 0
AreLeftBut n p t old new = (r u : ℕ) → u < n → old r u ≡ true → (new r u ≡ true)
    ⊎ ((r ≡ p) × (u ≡ t))

-- Each needed value of a vertex that passes the test is in the row.
abbrev pub AreInside : ℕ → (ℕ → Bool) → List ℕ → (ℕ → ℕ → Bool) → Type 0
AreInside n test set needed = (r u : ℕ) → test r ≡ true → u < n → needed r u ≡ true
    → has set u ≡ true

-- The walk has come so far, and lines can be named for what it chose.
pub record HasCome (q : Problem) (rows : List Row) (path : List (ℕ
    × ℕ)) (seen : List Change) (chosen : List Chosen) (needed now : ℕ → ℕ → Bool) : Type 0 where
  pub walked : Walked q rows path seen chosen needed now
  pub nameable : AreNameable q rows chosen
