-- What the first seat of a book knows as it takes in the seats that were split from it.

use Rattle.std.specs.Prelude.{◌≡◌, ℕ, true, List, [], All}
use Rattle.nogood_book.specs.declared.row.Row.{Row}
use Rattle.nogood_book.specs.Places.{StartsWith, places}
use Rattle.nogood_book.specs.Seats.{SeatName}
use Rattle.nogood_book.specs.Views.{HasPart, parts}
use Rattle.restart_search.specs.Searching.{Search}
use Rattle.proof_logger.specs.Logging.{EndsInOwn, GrowsBeside}
use Rattle.parallel_solve.specs.Teaming.{AreBelow}

-- The first seat, which is of owner 0, has written no row and keeps none for itself, has made no owner from n on.
pub record HasMade (n : ℕ) (s : SeatName) : Type 0 where
  pub first : s.view.first ≡ true
  pub owner_is : s.view.owner ≡ 0
  pub none_own : s.view.mine ≡ []
  pub alone : s.own ≡ []
  pub below : AreBelow s.view.made n

-- A seat was taken in: its owner is answered for, and all that it has seen of the book is seen, with no further row of its owner. What it
-- kept for itself, all of it its owner's, is not there.
pub record TookIn (from s : SeatName) : Type 0 where
  pub seen : StartsWith s.view.seen from.view.seen
  pub part : HasPart from.view.owner (parts s.view)
  pub none_own : places from.view.owner s.view.seen ≡ places from.view.owner from.view.seen
  pub own : All (λ r. r.owner ≡ from.view.owner) from.own

-- No more owners were made, and what was taken in still is.
pub record Keeps (old new : SeatName) : Type 0 where
  pub made : (n : ℕ) → HasMade n old → HasMade n new
  pub taken : (from : SeatName) → TookIn from old → TookIn from new

-- To the rows of the book that the worker has seen these may have come beside it: no nogood among them is its own. The other rows that it
-- has are its own.
pub record RowsCame {K : Type 0} (rows : List Row) (w : Search SeatName K) : Type 0 where
  pub own : EndsInOwn w.number w.seat.view.seen w.facts.seen
  pub came : GrowsBeside w.number w.seat.view.seen rows
