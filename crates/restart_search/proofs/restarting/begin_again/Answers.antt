use Rattle.std.proofs.Common.{List, ◌<◌, length, refl, sym, ap, subst, ◌∙◌, inl, inr, arith}
use Rattle.search_theory.specs.Account.{Account, Honest}
use Rattle.search_theory.specs.Remaining.{remaining}
use Rattle.nogood_book.specs.declared.row.Row.{Row}
use Rattle.nogood_book.proofs.Lists.{starts_length}
use Rattle.recorder.specs.Holding.{HoldsRows}
use Rattle.restart_search.specs.Sharing.{KeepsUp}
use Rattle.restart_search.proofs.KeepingUp.{keeps_again}
use Rattle.restart_search.proofs.Learning.{has_learned, first_caught, on_ok}
use Rattle.restart_search.proofs.BetweenRuns.{began_again, take_all_seen}
use Rattle.restart_search.proofs.Publishing.{seat_went, grew_on}
use Rattle.restart_search.proofs.restarting.begin_again.Goals as goal

pub take_up_book-requires-clause-seat : goal.take_up_book-requires-clause-seat
take_up_book-requires-clause-seat g c = c.publish_position-published.ensures.went.grew.problem ∙ c.requires.seat.problem

pub take_up_book-requires-clause-begun : goal.take_up_book-requires-clause-begun
take_up_book-requires-clause-begun g c =
    omega (arith, starts_length _ _ c.publish_position-published.ensures.went.grew.seen, ap length c.rows-taken.ensures.seen)

pub take_up_book-requires-clause-holds : goal.take_up_book-requires-clause-holds
take_up_book-requires-clause-holds g c =
    subst (λ (rows : List Row). HoldsRows rows c.args.propagator.now.filters.nogoods)
    (sym (take_all_seen (g.B.Seat.RowSeat.shows c.publish_position-published.new.seat).seen (g.B.Seat.RowSeat.shows c.args.seat.now).seen (length c.rows-taken.result.now) c.publish_position-published.ensures.went.grew.seen (ap length c.rows-taken.ensures.seen)))
    c.requires.begun.holds

pub returns-clause-seat : goal.returns-clause-seat
returns-clause-seat g c = record {
  problem = c.take_up_book.ensures.caught.grew.problem ∙ c.publish_position-published.ensures.went.grew.problem ∙ c.requires.seat.problem;
  owner_is = c.take_up_book.ensures.caught.grew.owner ∙ c.publish_position-published.ensures.went.grew.owner ∙ c.requires.seat.owner_is;
}

pub returns-clause-begun : goal.returns-clause-begun
returns-clause-begun g c =
    let keeps = keeps_again c.args.author.now.problem.now c.args.author.now.owner (g.B.Seat.RowSeat.shows c.args.seat.now) (g.B.Seat.RowSeat.shows c.publish_position-published.new.seat) (g.B.Seat.RowSeat.shows c.take_up_book.new.seat)
    c.args.position.now.account c.in_ok-_whole._whole c.requires.seat c.requires.begun.sound.based.honest c.requires.due c.requires.begun.keeps c.publish_position-published.ensures.went c.in_ok-_whole.ensures.all
    c.in_ok-_whole.ensures.full c.take_up_book.ensures.caught in
    began_again c.take_up_book.result c.args.author.now.problem.now c.take_up_book.new.propagator.filters.nogoods c.take_up_book.new.position.domains c.take_up_book.new.position.undecided
    c.take_up_book.new.position.account c.take_up_book.new.position.marks.items c.take_up_book.new.position.root (g.B.Seat.RowSeat.shows c.take_up_book.new.seat) c.take_up_book.ensures.took
    (subst (λ (a : Account). KeepsUp (g.B.Seat.RowSeat.shows c.take_up_book.new.seat) a.run) (sym (c.take_up_book.ensures.account ∙ c.restart.ensures.restarted)) keeps)

pub returns-clause-budget : goal.returns-clause-budget
returns-clause-budget g c = ap (λ (a : Account). a.budget) (c.take_up_book.ensures.account ∙ c.restart.ensures.restarted)

pub take_up_book-requires-clause-owner : goal.take_up_book-requires-clause-owner
take_up_book-requires-clause-owner g c =
    c.restart-2.ensures.owner ∙ (c.publish_position-published.ensures.owner ∙ (c.requires.owner ∙ sym (c.publish_position-published.ensures.went.grew.owner ∙ c.requires.seat.owner_is)))

pub take_up_book-requires-clause-logged : goal.take_up_book-requires-clause-logged
take_up_book-requires-clause-logged g c = record {
  told = c.restart.ensures.told c.args.propagator.now.filters.nogoods c.requires.logged.told;
  writes = rw (c.restart.ensures.restarted)
      (c.restart-2.ensures.restarted c.args.author.now.problem.now (g.B.Seat.RowSeat.shows c.publish_position-published.new.seat).seen c.args.position.now.account c.publish_position-published.ensures.writes);
}

pub returns-in_err-_whole-clause-steps : goal.returns-in_err-_whole-clause-steps
returns-in_err-_whole-clause-steps g c = c.stays.ensures.steps _ _ _ c.publish_position-published.ensures.writes

pub returns-in_err-_whole-clause-seat : goal.returns-in_err-_whole-clause-seat
returns-in_err-_whole-clause-seat g c = seat_went _ _ _ _ c.publish_position-published.ensures.went c.requires.seat

pub returns-clause-nearer : goal.returns-clause-nearer
returns-clause-nearer g c =
    on_ok c.take_up_book.result _ (subst (λ (a : Account). remaining a < remaining c.args.position.now.account) (sym c.take_up_book.ensures.account) c.restart.ensures.nearer)

pub returns-clause-owner : goal.returns-clause-owner
returns-clause-owner g c = c.take_up_book.ensures.owner ∙ (c.restart-2.ensures.owner ∙ c.publish_position-published.ensures.owner)

pub returns-clause-learned : goal.returns-clause-learned
returns-clause-learned g c =
    on_ok c.take_up_book.result _
    (has_learned c.args.position.now.account c.args.author.now.owner c.in_ok-_whole._whole (g.B.Seat.RowSeat.shows c.args.seat.now) (g.B.Seat.RowSeat.shows c.publish_position-published.new.seat) (g.B.Seat.RowSeat.shows c.take_up_book.new.seat)
    c.requires.seat.owner_is c.publish_position-published.ensures.went c.take_up_book.ensures.caught c.in_ok-_whole.ensures.learned c.publish_position-published.ensures.part c.in_ok-_whole.ensures.full)

pub returns-clause-grew : goal.returns-clause-grew
returns-clause-grew g c = grew_on _ _ _ c.publish_position-published.ensures.went.grew c.take_up_book.ensures.caught.grew

pub returns-clause-part : goal.returns-clause-part
returns-clause-part g c =
    first_caught c.args.author.now.owner (g.B.Seat.RowSeat.shows c.args.seat.now).seen (g.B.Seat.RowSeat.shows c.publish_position-published.new.seat) (g.B.Seat.RowSeat.shows c.take_up_book.new.seat) _
    (c.publish_position-published.ensures.went.grew.owner ∙ c.requires.seat.owner_is) c.take_up_book.ensures.caught c.publish_position-published.ensures.part

pub returns-clause-restarted : goal.returns-clause-restarted
returns-clause-restarted g c = on_ok c.take_up_book.result _ (c.take_up_book.ensures.account ∙ c.restart.ensures.restarted)

pub returns-clause-account : goal.returns-clause-account
returns-clause-account g c = inr (c.take_up_book.ensures.account ∙ c.restart.ensures.restarted)

pub returns-in_err-_whole-clause-account : goal.returns-in_err-_whole-clause-account
returns-in_err-_whole-clause-account g c = inl refl

pub returns-clause-honest : goal.returns-clause-honest
returns-clause-honest g c = subst (λ (a : Account). Honest c.args.author.now.problem.now a) (sym c.take_up_book.ensures.account) c.restart.ensures.at_root.honest

pub returns-in_err-_whole-clause-honest : goal.returns-in_err-_whole-clause-honest
returns-in_err-_whole-clause-honest g c = c.requires.begun.sound.based.honest
