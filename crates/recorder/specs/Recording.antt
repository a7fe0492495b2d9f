-- What a recorder keeps of the changes that it is told: the changes in order, the last one first, up to where domains were undone to.

use Rattle.std.specs.Prelude.{◌≡◌, ℕ, ◌*◌, ◌≤◌, nat_lt, Bool, true, false, cond, ◌⊎◌, List, [], ◌∷◌, ◌++◌, length, map, reverse, slice_range, Option, Some, None}
use Rattle.bit_rows.specs.BitRows.{has}
use Rattle.domain_bits.specs.Removals.{State}
use Rattle.all_different.specs.Pruning.{in_one_of}
use Rattle.graph_theory.specs.Neighbours.{members}
use Rattle.graph_theory.specs.declared.direction.Direction.{Direction}
use Rattle.recorder.specs.declared.change.Cause.{Cause}
use Rattle.recorder.specs.declared.change.Cause.TheVariants.{Guess}
use Rattle.recorder.specs.declared.change.Place.{Place}
use Rattle.recorder.specs.declared.change.What.{What}
use Rattle.recorder.specs.declared.change.What.TheVariants.{One, Others, Over}
use Rattle.recorder.specs.declared.change.Entry.{Entry}

-- A change of the domains, and how much had left before it: values left the domain of one vertex by a cause; or the values that some
-- vertices of a block have together left the domains of all others of the block, which is that of a centre or of all vertices; or a value
-- left that of one vertex, whose neighbours in a direction, these vertices, would have too few, these values.
pub data Change : Type 0 where
  LeftOne : ℕ → Cause → ℕ → Change
  LeftOthers : Option ℕ → List ℕ → List ℕ → ℕ → Change
  LeftOver : ℕ → ℕ → Direction → List ℕ → List ℕ → ℕ → Change

-- How much had left before it.
abbrev pub from_of : Change → ℕ
from_of (LeftOne p cause from) = from
from_of (LeftOthers centre vertices values from) = from
from_of (LeftOver p t direction vertices values from) = from

-- Vertices of the block of a centre, or of that of all vertices, and the values that they have together.
pub record CountedSet : Type 0 where
  pub centre : Option ℕ
  pub vertices : List ℕ
  pub values : List ℕ

-- The values of a row, rising.
abbrev pub members_of : List ℕ → List ℕ
members_of row = members (has row) (64 * length row)

-- ---- what a recorder answers

-- The change is kept, where changes are.
abbrev pub with_change : Option (List Change) → Change → Option (List Change)
with_change None c = None
with_change (Some cs) c = Some (c ∷ cs)

-- The change is kept, or nothing is from now on.
abbrev pub Took : Option (List Change) → Option (List Change) → Change → Type 0
Took old new c = (new ≡ with_change old c) ⊎ (new ≡ None)

-- What was kept is kept, or nothing is from now on.
abbrev pub KeepsSame : Option (List Change) → Option (List Change) → Type 0
KeepsSame old new = (new ≡ old) ⊎ (new ≡ None)

-- The set is kept, or nothing is.
abbrev pub KeepsShort : Option (List Change) → Option CountedSet → CountedSet → Type 0
KeepsShort changes short set = (short ≡ Some set) ⊎ (changes ≡ None)

-- So is the set with the values that its vertices have together.
abbrev pub KeepsUnited : Option (List Change) → Option CountedSet → State → Option ℕ → List ℕ
    → Type 0
KeepsUnited changes short d centre set = (changes ≡ None) ⊎ ((row : List ℕ) × ((t : ℕ)
    → has row t ≡ in_one_of d set t) × (short ≡ Some (record {
      centre = centre;
      vertices = set;
      values = members_of row;
    })))

-- The change is kept, or it was none, or nothing is kept from now on.
abbrev pub MayTake : Option (List Change) → Option (List Change) → Change → Type 0
MayTake old new c = Took old new c ⊎ (new ≡ old)

-- The change is one of these.
abbrev pub IsAmong : Change → List Change → Type 0
IsAmong c [] = ⊥
IsAmong c (e ∷ es) = (e ≡ c) ⊎ IsAmong c es

-- Among the changes is the guess of t for p, before which so much had left.
abbrev pub HasGuess : Option (List Change) → ℕ → ℕ → ℕ → Type 0
HasGuess None p t from = ⊥
HasGuess (Some cs) p t from = IsAmong (LeftOne p (Guess t) from) cs

-- No guess is new among the changes.
abbrev pub NoNewGuess : Option (List Change) → Option (List Change) → Type 0
NoNewGuess old new = (p t from : ℕ) → HasGuess new p t from → HasGuess old p t from

-- Only the changes before which less had left than the mark.
abbrev pub cut : ℕ → List Change → List Change
cut mark [] = []
cut mark (c ∷ cs) = cond (nat_lt (from_of c) mark) (c ∷ cs) (cut mark cs)

abbrev pub cut_at : ℕ → Option (List Change) → Option (List Change)
cut_at mark None = None
cut_at mark (Some cs) = Some (cut mark cs)

-- ---- how changes are kept

-- What is told, as its readers see it: the changes, and the set that was found short; nothing where memory was refused.
pub record Recorded : Type 0 where
  pub changes : Option (List Change)
  pub short : Option CountedSet

-- The change that an entry is, with its numbers.
abbrev pub change_by : List ℕ → What → ℕ → Change
change_by numbers (One p cause) from = LeftOne p cause from
change_by numbers (Others centre k) from = LeftOthers centre (slice_range numbers k.start k.middle)
    (slice_range numbers k.middle k.end) from
change_by numbers (Over p t direction k) from = LeftOver p t direction (slice_range numbers k.start
    k.middle) (slice_range numbers k.middle k.end) from

abbrev pub change_of : List ℕ → Entry → Change
change_of numbers e = change_by numbers e.what e.from

-- The changes of the entries, the last one first.
abbrev pub changes_of : List ℕ → List Entry → List Change
changes_of numbers entries = map (change_of numbers) (reverse entries)

abbrev pub when_whole : Bool → List Change → Option (List Change)
when_whole true cs = Some cs
when_whole false cs = None

abbrev pub set_at : List ℕ → Option (Option ℕ × Place) → Option CountedSet
set_at numbers None = None
set_at numbers (Some k) = Some (record {
  centre = k.0;
  vertices = slice_range numbers k.1.start k.1.middle;
  values =
      slice_range numbers k.1.middle k.1.end;
})

abbrev pub recorded : Bool → List Entry → List ℕ → Option (Option ℕ × Place) → Recorded
recorded whole entries numbers short = record {
  changes = when_whole whole
      (changes_of numbers entries);
  short = set_at numbers short;
}

-- The set stands among the first n numbers, from the first of these places on.
pub record IsIn (k : Place) (n : ℕ) : Type 0 where
  pub first : k.start ≤ k.middle
  pub second : k.middle ≤ k.end
  pub within : k.end ≤ n

-- The sets of the entries, the last one first, stand among the first n numbers, each behind those before it.
abbrev pub LaidBy : What → (ℕ → Type 0) → ℕ → Type 0
LaidBy (One p cause) Before n = Before n
LaidBy (Others centre k) Before n = IsIn k n × Before k.start
LaidBy (Over p t direction k) Before n = IsIn k n × Before k.start

abbrev pub Laid : List Entry → ℕ → Type 0
Laid [] n = Unit {0}
Laid (e ∷ es) n = LaidBy e.what (Laid es) n

abbrev pub AreLaid : List Entry → List ℕ → Type 0
AreLaid entries numbers = Laid (reverse entries) (length numbers)

-- More numbers may stand behind the old ones.
pub record Adds (old new : List ℕ) : Type 0 where
  pub more : List ℕ
  pub front : new ≡ old ++ more

-- The set stands behind the old numbers.
pub record IsPlaced (old new vertices values : List ℕ) (k : Place) : Type 0 where
  pub start_is : k.start ≡ length old
  pub is_in : IsIn k (length new)
  pub vertices_are : slice_range new k.start k.middle ≡ vertices
  pub values_are : slice_range new k.middle k.end ≡ values

-- The entry is the last one, and not before the mark.
pub record IsLast (entries : List Entry) (e : Entry) (mark : ℕ) : Type 0 where
  pub before : List Entry
  pub are : entries ≡ before ++ e ∷ []
  pub since : nat_lt e.from mark ≡ false

-- The last entry is before the mark, if there is one.
abbrev pub EndsBefore : List Entry → ℕ → Type 0
EndsBefore [] mark = Unit {0}
EndsBefore (e ∷ es) mark = nat_lt e.from mark ≡ true

-- How many of so many numbers stand before those of a change that is the last one.
abbrev pub left_by : What → ℕ → ℕ
left_by (One p cause) n = n
left_by (Others centre k) n = k.start
left_by (Over p t direction k) n = k.start
