use Rattle.std.proofs.Common.{◌≡◌, ℕ, ◌-◌, ◌*◌, ◌<◌, ◌≤◌, true, [], ◌∷◌, ◌++◌, length, Some}
use Rattle.graph_theory.specs.Neighbours.{members}
use Rattle.bit_rows.specs.BitRows.{has}
use Rattle.restart_search.specs.Sharing.{IsRowOf, Went, learned_by, refuted_at}
use Rattle.restart_search.proofs.sharing.publish_level.Given as goal

abbrev pub invariant-loop-t : goal.invariant-loop-t
invariant-loop-t g l = record {
  fits : g.B.Book.fits l.author.book.now l.seat;
  went : Went (g.B.Seat.RowSeat.shows l.fn.seat) (g.B.Seat.RowSeat.shows l.seat);
  below : (u : ℕ) → u < l.t → has l.refuted u ≡ true
      → IsRowOf l.author.owner (length (g.B.Seat.RowSeat.shows l.fn.seat).seen) (g.B.Seat.RowSeat.shows l.seat).seen (l.level.above.now ++ (l.p, u) ∷ []);
  learned : learned_by l.author.owner (g.B.Seat.RowSeat.shows l.seat).seen ≡ learned_by l.author.owner (g.B.Seat.RowSeat.shows l.fn.seat).seen ++ refuted_at l.level.above.now (Some l.p) (members (has l.refuted) l.t);
  within : l.t ≤ 64 * length l.refuted;
  member : l.t < 64 * length l.refuted → has l.refuted l.t ≡ true;
  owner : g.L.ProofLogger.owner l.log ≡ g.L.ProofLogger.owner l.fn.log;
  writes : g.L.ProofLogger.writes l.log l.author.problem.now (g.B.Seat.RowSeat.shows l.seat).seen l.account;
}

abbrev pub decreases-loop-t : goal.decreases-loop-t
decreases-loop-t g l = 64 * length l.refuted - l.t
