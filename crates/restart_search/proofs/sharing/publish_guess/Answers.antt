use Rattle.restart_search.proofs.Positions.{may_stand_at}
use Rattle.restart_search.proofs.Noting.{beside_none}
use Rattle.restart_search.proofs.sharing.publish_guess.Goals as goal

pub publish_step-requires-clause-stands : goal.publish_step-requires-clause-stands
publish_step-requires-clause-stands g c = may_stand_at c.args.author.now.problem.now c.args.path.now c.args.at _ c.requires.path c.requires.range c.if-at-path.false

pub returns-then-at-path-clause-beside : goal.returns-then-at-path-clause-beside
returns-then-at-path-clause-beside g c = beside_none c.args.author.now.owner (g.B.Seat.RowSeat.shows c.args.seat.now).seen
