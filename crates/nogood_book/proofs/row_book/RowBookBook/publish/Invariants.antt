-- Rows of others have come into sight, up to this place, and nothing else has changed.
use Rattle.std.proofs.Common.{◌≡◌, length}
use Rattle.nogood_book.specs.Seats.{SawMore}
use Rattle.nogood_book.proofs.row_book.RowBookBook.publish.Given as goal

abbrev pub invariant-loop-at : goal.invariant-loop-at
invariant-loop-at l = SawMore l.fn.seat l.seat × (length l.seat.view.seen ≡ l.at)
