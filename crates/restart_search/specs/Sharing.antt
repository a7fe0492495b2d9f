-- What a worker shares by a book of nogoods: what it publishes, which rows are in force in its domains, and that it keeps up.

use Rattle.std.specs.Prelude.{◌≡◌, ℕ, zero, suc, ◌+◌, ◌<◌, ◌≤◌, ◌⊎◌, false, List, [], ◌∷◌, ◌++◌, length, map, take, Contains, Option, Some, None, slice_get}
use Rattle.graph_theory.specs.Embedding.{Problem}
use Rattle.search_theory.specs.Bounds.{cutoff}
use Rattle.search_theory.specs.Account.{Account, Event, Leads, path, level_at, restarted}
use Rattle.domain_bits.specs.Removals.{State, in_domain}
use Rattle.nogood_watch.specs.Nogoods.{literal}
use Rattle.nogood_watch.specs.Watching.{IsAssigned, AllBut}
use Rattle.nogood_book.specs.declared.row.Row.{Row}
use Rattle.nogood_book.specs.declared.row.RowKind.{RowKind}
use Rattle.nogood_book.specs.declared.row.RowKind.TheVariants.{Step, Nogood}
use Rattle.nogood_book.specs.Rows.{Pairs, path_at}
use Rattle.nogood_book.specs.Places.{IsNogoodRow, nogoods_by, places}
use Rattle.nogood_book.specs.Facts.{Facts, Grew, HasEnded}

-- The seat is one of this owner, for this problem.
pub record IsSeatFor (q : Problem) (owner : ℕ) (f : Facts) : Type 0 where
  pub problem : f.problem ≡ q
  pub owner_is : f.owner ≡ owner

-- ---- what is published

-- These pairs are the path of a nogood of this owner, at a place from the given one on.
pub record IsRowOf (owner from : ℕ) (rows : List Row) (xs : Pairs) : Type 0 where
  pub place : ℕ
  pub past : from ≤ place
  pub row : Row
  pub row_is : slice_get rows place ≡ Some row
  pub kind : row.kind ≡ Nogood
  pub owner_is : row.owner ≡ owner
  pub path_is : path_at rows place ≡ xs

-- What the account's position has refuted is published: at each level that has a vertex, each value refuted there, with the path above.
pub record IsPublished (a : Account) (owner from : ℕ) (rows : List Row) : Type 0 where
  pub each : (i p t : ℕ) → (level_at a i).vertex ≡ Some p → Contains (level_at a i).refuted t
      → IsRowOf owner from rows (take i (path a) ++ (p, t) ∷ [])

-- The path of a row, where it is a nogood.
abbrev pub if_nogood : RowKind → Pairs → List Pairs
if_nogood Step xs = []
if_nogood Nogood xs = xs ∷ []

abbrev pub nogood_of : Option Row → Pairs → List Pairs
nogood_of None xs = []
nogood_of (Some r) xs = if_nogood r.kind xs

-- The paths of the nogoods among the rows at these places.
abbrev pub nogoods_at : List Row → List ℕ → List Pairs
nogoods_at rows [] = []
nogoods_at rows (k ∷ ks) = nogood_of (slice_get rows k) (path_at rows k) ++ nogoods_at rows ks

-- What an owner has learned: the paths of all nogoods that it has written among the rows, in the order of their places.
abbrev pub learned_by : ℕ → List Row → List Pairs
learned_by owner rows = nogoods_at rows (places owner rows)

-- What a level has refuted: the decisions above it, and then each value refuted for its vertex.
abbrev pub refuted_at : Pairs → Option ℕ → List ℕ → List Pairs
refuted_at above None us = []
refuted_at above (Some p) us = map (λ t. above ++ (p, t) ∷ []) us

-- What the first n levels have refuted, in their order, and the values of each rising.
abbrev pub refuted_below : Account → ℕ → List Pairs
refuted_below a zero = []
refuted_below a (suc n) = refuted_below a n
    ++ refuted_at (take n (path a)) (level_at a n).vertex (level_at a n).refuted

-- What the position has refuted: at the levels of the path, and at the one after it.
abbrev pub refuted_in : Account → List Pairs
refuted_in a = refuted_below a (length (path a) + 1)

-- Of these paths the owner has learned, from the one list of rows to the other, the first ones in order, and nothing else.
abbrev pub LearnsFirst : ℕ → List Row → List Row → List Pairs → Type 0
LearnsFirst owner rows more xs = (rest : List Pairs)
    × (learned_by owner rows ++ xs ≡ learned_by owner more ++ rest)

-- From the first to the second of these the seat's owner has learned exactly these paths, in order; or the first ones of them, and the seat takes no further row.
abbrev pub Learns : Facts → Facts → List Pairs → Type 0
Learns s t xs = (learned_by s.owner t.seen ≡ learned_by s.owner s.seen ++ xs)
    ⊎ (HasEnded t × LearnsFirst s.owner s.seen t.seen xs)

-- It has learned what the position had refuted.
abbrev pub HasLearned : Account → Facts → Facts → Type 0
HasLearned a s t = Learns s t (refuted_in a)

-- The same seat has seen no less, and has not looked again.
pub record Went (s t : Facts) : Type 0 where
  pub grew : Grew s t
  pub looks : t.looks ≡ s.looks

-- ---- what a worker learns over its runs

-- Lawful events, none of which is a restart, lead from the first account to the second.
pub record GoesWithinRun (q : Problem) (a b : Account) : Type 0 where
  pub events : List Event
  pub lead : Leads q a events b
  pub run : b.run ≡ a.run

-- From a the search came to its cutoff at each of these accounts in turn, began the next run there, and came to b in the last.
abbrev pub RestartsAt : Problem → Account → List Account → Account → Type 0
RestartsAt q a [] b = GoesWithinRun q a b
RestartsAt q a (c ∷ cs) b = GoesWithinRun q a c × (c.count ≡ cutoff c.run)
    × RestartsAt q (restarted c) cs b

-- What positions have refuted, one after the other.
abbrev pub refuted_in_all : List Account → List Pairs
refuted_in_all [] = []
refuted_in_all (a ∷ rest) = refuted_in a ++ refuted_in_all rest

-- From the old account to the new one, and from the first to the second of these facts, the seat's owner has learned all that its position had refuted at each of its restarts, in order, and nothing else; or the first ones of that, and the seat takes no further row.
pub record LearnedInRuns (q : Problem) (old new : Account) (s t : Facts) : Type 0 where
  pub ends : List Account
  pub restarts : RestartsAt q old ends new
  pub run : new.run ≡ old.run + length ends
  pub learned : Learns s t (refuted_in_all ends)

-- Where memory is refused, the account too has come from the old one by lawful events, with a restart at each of these accounts. Of what these had refuted the first ones are learned, in order, and nothing else; or the account stands at its cutoff, and what it holds refuted comes after that of these.
pub record LearnedPart (q : Problem) (old new : Account) (s t : Facts) : Type 0 where
  pub ends : List Account
  pub restarts : RestartsAt q old ends new
  pub run : new.run ≡ old.run + length ends
  pub learned : LearnsFirst s.owner s.seen t.seen (refuted_in_all ends)
      ⊎ ((new.count ≡ cutoff new.run) × LearnsFirst s.owner s.seen t.seen (refuted_in_all (ends
      ++ new ∷ [])))

-- ---- which rows are in force

-- Not all pairs of the path are assigned, and where all but one are, that one has left its domain.
pub record IsPathInForce (d : State) (xs : Pairs) : Type 0 where
  pub not_whole : ((k : ℕ) → k < length xs → IsAssigned d (literal xs k)) → ⊥
  pub last_gone : (l : ℕ × ℕ) → AllBut d xs l → in_domain d l.0 l.1 ≡ false

-- So it is with the path of each nogood among the rows.
abbrev pub RowsInForce : State → List Row → Type 0
RowsInForce d rows = (k : ℕ) → IsNogoodRow rows k → IsPathInForce d (path_at rows k)

-- ---- keeping up

-- There were so many looks, where looks are told.
abbrev pub HasLooked : Option (List ℕ) → ℕ → Type 0
HasLooked None n = Unit {0}
HasLooked (Some looks) n = n ≤ length looks

-- All runs before this one have left a nogood of the seat's owner, or the seat takes no further row; and each run has begun with a look, or
-- every row of the book is used and seen.
abbrev pub KeepsUp : Facts → ℕ → Type 0
KeepsUp f run = (HasEnded f ⊎ (run ≤ nogoods_by f.owner f.seen + 1))
    × ((f.size ≤ length f.seen) ⊎ HasLooked f.looks run)
