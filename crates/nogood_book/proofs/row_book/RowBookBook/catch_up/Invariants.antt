-- Rows of others have come into sight, up to this number, and nothing else has changed.
use Rattle.std.proofs.Common.{◌≡◌, length}
use Rattle.nogood_book.specs.Seats.{SawMore}
use Rattle.nogood_book.proofs.row_book.RowBookBook.catch_up.Given as goal

abbrev pub invariant-loop-seen : goal.invariant-loop-seen
invariant-loop-seen l = SawMore l.fn.seat l.seat × (length l.seat.view.seen ≡ l._seen)
