use Rattle.std.proofs.Common.{[], Option, subst, sym, ◌∙◌}
use Rattle.search_theory.specs.Account.{Account}
use Rattle.nogood_watch.specs.Nogoods as watched
use Rattle.recorder.specs.Holding.{HoldsRows}
use Rattle.propagation.proofs.Holding.{holds_none}
use Rattle.restart_search.specs.Sharing.{KeepsUp}
use Rattle.restart_search.proofs.KeepingUp.{keeps_first}
use Rattle.restart_search.proofs.Learning.{learned_caught}
use Rattle.restart_search.proofs.BetweenRuns.{began_again, fresh_of, halfway_of}
use Rattle.restart_search.proofs.restarting.begin.Goals as goal

pub take_up_book-requires-clause-holds : goal.take_up_book-requires-clause-holds
take_up_book-requires-clause-holds g c =
    subst (λ (n : Option watched.State). HoldsRows [] n) (sym (fresh_of c.args.stage _ _ _ _ _ _ _ _ c.in-Fresh.is c.requires.stands).none) holds_none

pub take_up_book-requires-clause-at_root : goal.take_up_book-requires-clause-at_root
take_up_book-requires-clause-at_root g c = (fresh_of c.args.stage _ _ _ _ _ _ _ _ c.in-Fresh.is c.requires.stands).at_root

pub take_up_book-requires-clause-owner : goal.take_up_book-requires-clause-owner
take_up_book-requires-clause-owner g c = c.requires.owner ∙ sym c.requires.seat.owner_is

pub returns-in-Fresh-clause-seat : goal.returns-in-Fresh-clause-seat
returns-in-Fresh-clause-seat g c = record {
  problem = c.take_up_book.ensures.caught.grew.problem ∙ c.requires.seat.problem;
  owner_is = c.take_up_book.ensures.caught.grew.owner ∙ c.requires.seat.owner_is;
}

pub returns-in-Fresh-clause-begun : goal.returns-in-Fresh-clause-begun
returns-in-Fresh-clause-begun g c =
    began_again c.take_up_book.result c.args.author.now.problem.now c.take_up_book.new.propagator.filters.nogoods c.take_up_book.new.position.domains c.take_up_book.new.position.undecided
    c.take_up_book.new.position.account c.take_up_book.new.position.marks.items c.take_up_book.new.position.root (g.B.Seat.RowSeat.shows c.take_up_book.new.seat) c.take_up_book.ensures.took
    (subst (λ (a : Account). KeepsUp (g.B.Seat.RowSeat.shows c.take_up_book.new.seat) a.run) (sym c.take_up_book.ensures.account)
    (keeps_first (g.B.Seat.RowSeat.shows c.args.seat.now) (g.B.Seat.RowSeat.shows c.take_up_book.new.seat) c.args.position.now.account
    (fresh_of c.args.stage _ _ _ _ _ _ _ _ c.in-Fresh.is c.requires.stands).first c.take_up_book.ensures.caught))

pub returns-in-Halfway-clause-begun : goal.returns-in-Halfway-clause-begun
returns-in-Halfway-clause-begun g c = halfway_of c.args.stage _ _ _ _ _ _ _ _ c.in-Halfway.is c.requires.stands

pub returns-in-Halfway-clause-steps : goal.returns-in-Halfway-clause-steps
returns-in-Halfway-clause-steps g c = c.stays.ensures.steps _ _ _ c.requires.logged.writes

pub returns-in-Fresh-clause-learned : goal.returns-in-Fresh-clause-learned
returns-in-Fresh-clause-learned g c = learned_caught c.args.author.now.owner _ _ c.requires.seat.owner_is c.take_up_book.ensures.caught
