use Rattle.std.proofs.Common.{◌≡◌, ◌≤◌, length, vec_capacity}
use Rattle.graph_theory.specs.Graph.{size}
use Rattle.bit_rows.specs.BitRows.{words_for}
use Rattle.search_theory.specs.Remaining.{remaining}
use Rattle.restart_search.specs.Sharing.{IsSeatFor, LearnedInRuns}
use Rattle.restart_search.specs.Positions.{GoesOn, LogsAt}
use Rattle.restart_search.proofs.search.run.Given as goal

abbrev pub invariant-loop-p : goal.invariant-loop-p
invariant-loop-p g l = record {
  fits : g.B.Book.fits l.author.book.now l.seat;
  seat : IsSeatFor l.author.problem.now l.author.owner (g.B.Seat.RowSeat.shows l.seat);
  problem : l.walk.propagator.filters.problem ≡ l.author.problem.now;
  begun : GoesOn l.author.problem.now l.walk.propagator.filters.nogoods l.walk.position (g.B.Seat.RowSeat.shows l.seat);
  budget : l.walk.position.account.budget ≡ l.fn.walk.position.account.budget;
  learned : LearnedInRuns l.author.problem.now l.fn.walk.position.account l.walk.position.account (g.B.Seat.RowSeat.shows l.fn.seat) (g.B.Seat.RowSeat.shows l.seat);
  long : length l.walk.propagator.waiting.items ≡ size l.author.problem.now.pattern;
  words : length l.walk.untried.items ≡ words_for (size l.author.problem.now.target);
  choice : l.walk.choice ≡ size l.author.problem.now.target;
  owner : g.L.ProofLogger.owner l.log ≡ l.author.owner;
  logged : LogsAt l.author.problem.now (g.B.Seat.RowSeat.shows l.seat).seen l.walk.propagator.filters.nogoods l.walk.position (g.L.Told.Recorder.changes l.walk.position.told) (g.L.ProofLogger.writes l.log);
  room : size l.author.problem.now.pattern ≤ vec_capacity l.walk.position.marks;
}

abbrev pub decreases-loop-p : goal.decreases-loop-p
decreases-loop-p g l = remaining l.walk.position.account
