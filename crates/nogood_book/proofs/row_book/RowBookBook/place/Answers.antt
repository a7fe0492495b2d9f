-- Where no row is left in the book, what might follow may follow all that the seat has.
use Rattle.nogood_book.proofs.Trying.{may_follow_all, placed_by_keep}
use Rattle.nogood_book.proofs.row_book.RowBookBook.place.Goals as goal

pub keep-requires-clause-row : goal.keep-requires-clause-row
keep-requires-clause-row c = may_follow_all c.args.seat.now c.publish.new.seat c.args.row c.in-Full.ensures.rest.1 c.in-Full.ensures.rest.0 c.requires.row

pub returns-in-Full-clause-placed : goal.returns-in-Full-clause-placed
returns-in-Full-clause-placed c =
    (placed_by_keep c.args.seat.now c.publish.new.seat c.keep.new.self c.args.row c.keep.result c.in-Full.ensures.rest.1 c.in-Full.ensures.rest.0 c.keep.ensures.kept c.keep.ensures.honest c.requires.owner).0
