use Rattle.std.proofs.Common.{◌≡◌, ◌++◌, length, take}
use Rattle.nogood_book.specs.Reaching.{Reaches}
use Rattle.restart_search.specs.Sharing.{IsRowOf, Went, learned_by, refuted_below}
use Rattle.restart_search.proofs.Publishing.{PublishedBelow}
use Rattle.restart_search.proofs.sharing.publish_position.Given as goal

abbrev pub invariant-loop-i : goal.invariant-loop-i
invariant-loop-i g l = record {
  fits : g.B.Book.fits l.author.book.now l.seat;
  went : Went (g.B.Seat.RowSeat.shows l.fn.seat) (g.B.Seat.RowSeat.shows l.seat);
  parent : Reaches (g.B.Seat.RowSeat.shows l.seat).seen l.parent (take l.i l.path);
  published : PublishedBelow l.account (IsRowOf l.author.owner (length (g.B.Seat.RowSeat.shows l.fn.seat).seen) (g.B.Seat.RowSeat.shows l.seat).seen) l.i;
  learned : learned_by l.author.owner (g.B.Seat.RowSeat.shows l.seat).seen ≡ learned_by l.author.owner (g.B.Seat.RowSeat.shows l.fn.seat).seen ++ refuted_below l.account l.i;
  owner : g.L.ProofLogger.owner l.log ≡ g.L.ProofLogger.owner l.fn.log;
  writes : g.L.ProofLogger.writes l.log l.author.problem.now (g.B.Seat.RowSeat.shows l.seat).seen l.account;
}
