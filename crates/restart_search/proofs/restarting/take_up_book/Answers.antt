use Rattle.std.proofs.Common.{◌≡◌, ◌≤◌, List, length, refl, sym, ap, subst, ◌∙◌, arith}
use Rattle.nogood_book.specs.Facts.{Facts}
use Rattle.graph_theory.specs.Embedding.{Problem}
use Rattle.nogood_book.specs.declared.row.Row.{Row}
use Rattle.nogood_book.specs.Rows.{Sound}
use Rattle.nogood_book.proofs.Lists.{starts_length}
use Rattle.recorder.specs.Holding.{HoldsRows}
use Rattle.propagation.proofs.Holding.{holds_same, same_moved}
use Rattle.restart_search.proofs.Closing.{none_again}
use Rattle.restart_search.proofs.BetweenRuns.{at_root_again, take_seen}
use Rattle.propagation.proofs.Narrowing.{is_of_narrowed}
use Rattle.restart_search.proofs.Logging.{told_on, told_named, ends_path}
use Rattle.restart_search.proofs.Noting.{beside_caught}
use Rattle.restart_search.proofs.Written.{kept_long}
use Rattle.restart_search.proofs.restarting.take_up_book.Goals as goal

pub take_rows-requires-clause-sound : goal.take_rows-requires-clause-sound
take_rows-requires-clause-sound g c =
    rw (c.rows-rows.ensures.seen)
    (subst (λ (p : Problem). Sound p (g.B.Seat.RowSeat.shows c.catch_up.new.seat).seen) (c.catch_up.ensures.caught.grew.problem ∙ c.requires.seat) c.rows-rows.ensures.sound)

pub take_rows-requires-clause-begun : goal.take_rows-requires-clause-begun
take_rows-requires-clause-begun g c =
    let more : length (g.B.Seat.RowSeat.shows c.args.seat.now).seen ≤ length (g.B.Seat.RowSeat.shows c.catch_up.new.seat).seen = starts_length _ _ c.catch_up.ensures.caught.grew.seen in
    omega (arith, more, c.requires.begun, ap length c.rows-rows.ensures.seen)

pub take_rows-requires-clause-holds : goal.take_rows-requires-clause-holds
take_rows-requires-clause-holds g c =
    rw (c.rows-rows.ensures.seen)
    (subst (λ (rows : List Row). HoldsRows rows c.args.propagator.now.filters.nogoods)
    (sym (take_seen (g.B.Seat.RowSeat.shows c.catch_up.new.seat).seen (g.B.Seat.RowSeat.shows c.args.seat.now).seen c.args.taken c.catch_up.ensures.caught.grew.seen c.requires.begun)) c.requires.holds)

pub returns-in_ok-close-in-Err-clause-took : goal.returns-in_ok-close-in-Err-clause-took
returns-in_ok-close-in-Err-clause-took g c = none_again c.args.author.now.problem.now c.args.position.now.domains c.requires.at_root.rest c.in-Err.ensures.propagated.1

pub returns-in-Ok-clause-took : goal.returns-in-Ok-clause-took
returns-in-Ok-clause-took g c =
    let told = c.in-Ok.ensures.propagated in (
      at_root_again c.args.author.now.problem.now c.args.position.now.domains c.propagate_again.new.d c.args.position.now.undecided c.propagate_again.new.undecided c.args.position.now.account c.args.position.now.marks.items c.args.position.now.root c.present-position.result
          c.requires.at_root told.0 told.1 told.2 c.in-Ok.ensures.left c.present-position.ensures,
      c.in-Ok.ensures.acted,
      subst (λ (p : Problem). Sound p (g.B.Seat.RowSeat.shows c.catch_up.new.seat).seen) (c.catch_up.ensures.caught.grew.problem ∙ c.requires.seat) c.rows-rows.ensures.sound,
      holds_same (g.B.Seat.RowSeat.shows c.catch_up.new.seat).seen c.take_rows.new.self.nogoods c.propagate_again.new.filters.nogoods
          (same_moved c.args.position.now.domains c.take_rows.new.self.nogoods c.propagate_again.new.filters.nogoods c.propagate_again.ensures.moved)
          (subst (λ (rows : List Row). HoldsRows rows c.take_rows.new.self.nogoods) c.rows-rows.ensures.seen c.in_ok-take_rows.ensures.holds),
    )

pub close-requires-clause-sound : goal.close-requires-clause-sound
close-requires-clause-sound g c =
    rw (c.rows-rows.ensures.seen)
    (subst (λ (p : Problem). Sound p (g.B.Seat.RowSeat.shows c.catch_up.new.seat).seen) (c.catch_up.ensures.caught.grew.problem ∙ c.requires.seat) c.rows-rows.ensures.sound)

pub close-requires-clause-writes : goal.close-requires-clause-writes
close-requires-clause-writes g c =
    rw (c.rows-rows.ensures.seen)
    (c.stays.ensures.grown c.args.author.now.problem.now (g.B.Seat.RowSeat.shows c.args.seat.now).seen (g.B.Seat.RowSeat.shows c.catch_up.new.seat).seen c.args.position.now.account
    (beside_caught (g.L.ProofLogger.owner c.args.log.now) _ _ (sym c.requires.owner) c.catch_up.ensures.caught) c.requires.logged.writes)

pub close-requires-clause-ends : goal.close-requires-clause-ends
close-requires-clause-ends g c =
    ends_path c.args.author.now.problem.now c.rows-rows.result.now c.propagate_again.new.filters.nogoods c.propagate_again.new.d _ _ _ _ _
    (is_of_narrowed c.args.author.now.problem.now c.args.position.now.domains c.propagate_again.new.d c.in-Err.ensures.propagated.0 c.requires.at_root.is_of)
    (holds_same c.rows-rows.result.now c.take_rows.new.self.nogoods c.propagate_again.new.filters.nogoods
    (same_moved c.args.position.now.domains c.take_rows.new.self.nogoods c.propagate_again.new.filters.nogoods c.propagate_again.ensures.moved) c.in_ok-take_rows.ensures.holds)
    (told_on c.args.author.now.problem.now c.args.propagator.now.filters.nogoods c.propagate_again.new.filters.nogoods c.args.position.now.domains c.propagate_again.new.d _ _ _ _
    (λ t. c.propagate_again.ensures.told
    (told_named c.args.author.now.problem.now c.rows-rows.result.now c.args.taken c.args.propagator.now.filters.nogoods c.take_rows.new.self.nogoods c.args.position.now.domains _ (rw (c.rows-rows.ensures.seen)
    (subst (λ (rows : List Row). HoldsRows rows c.args.propagator.now.filters.nogoods)
    (sym (take_seen (g.B.Seat.RowSeat.shows c.catch_up.new.seat).seen (g.B.Seat.RowSeat.shows c.args.seat.now).seen c.args.taken c.catch_up.ensures.caught.grew.seen c.requires.begun)) c.requires.holds)) c.in_ok-take_rows.ensures.holds t))
    c.propagate_again.ensures.guesses c.requires.logged.told)
    c.in-Err.ensures.fails

pub returns-in-Ok-clause-logged : goal.returns-in-Ok-clause-logged
returns-in-Ok-clause-logged g c = record {
  told = (told_on c.args.author.now.problem.now c.args.propagator.now.filters.nogoods c.propagate_again.new.filters.nogoods c.args.position.now.domains c.propagate_again.new.d _ _ _ _
      (λ t. c.propagate_again.ensures.told
      (told_named c.args.author.now.problem.now c.rows-rows.result.now c.args.taken c.args.propagator.now.filters.nogoods c.take_rows.new.self.nogoods c.args.position.now.domains _ (rw (c.rows-rows.ensures.seen)
      (subst (λ (rows : List Row). HoldsRows rows c.args.propagator.now.filters.nogoods)
      (sym (take_seen (g.B.Seat.RowSeat.shows c.catch_up.new.seat).seen (g.B.Seat.RowSeat.shows c.args.seat.now).seen c.args.taken c.catch_up.ensures.caught.grew.seen c.requires.begun)) c.requires.holds)) c.in_ok-take_rows.ensures.holds t))
      c.propagate_again.ensures.guesses c.requires.logged.told);
  writes = (c.stays.ensures.grown c.args.author.now.problem.now (g.B.Seat.RowSeat.shows c.args.seat.now).seen (g.B.Seat.RowSeat.shows c.catch_up.new.seat).seen c.args.position.now.account
      (beside_caught (g.L.ProofLogger.owner c.args.log.now) _ _ (sym c.requires.owner) c.catch_up.ensures.caught) c.requires.logged.writes);
}

pub returns-in_ok-close-in-Err-clause-logged : goal.returns-in_ok-close-in-Err-clause-logged
returns-in_ok-close-in-Err-clause-logged g c =
    subst (λ (rows : List Row). g.L.ProofLogger.refutes c.close.new.self c.args.author.now.problem.now rows) c.rows-rows.ensures.seen (c.in_ok-close-in-Err.ensures.closed.refuted c.requires.at_root.no_path)

pub returns-in-Ok-clause-steps : goal.returns-in-Ok-clause-steps
returns-in-Ok-clause-steps g c =
    c.stays.ensures.steps _ _ _
    (c.stays.ensures.grown c.args.author.now.problem.now (g.B.Seat.RowSeat.shows c.args.seat.now).seen (g.B.Seat.RowSeat.shows c.catch_up.new.seat).seen c.args.position.now.account
    (beside_caught (g.L.ProofLogger.owner c.args.log.now) _ _ (sym c.requires.owner) c.catch_up.ensures.caught) c.requires.logged.writes)

pub returns-in_err-take_rows-clause-steps : goal.returns-in_err-take_rows-clause-steps
returns-in_err-take_rows-clause-steps g c =
    c.stays.ensures.steps _ _ _
    (c.stays.ensures.grown c.args.author.now.problem.now (g.B.Seat.RowSeat.shows c.args.seat.now).seen (g.B.Seat.RowSeat.shows c.catch_up.new.seat).seen c.args.position.now.account
    (beside_caught (g.L.ProofLogger.owner c.args.log.now) _ _ (sym c.requires.owner) c.catch_up.ensures.caught) c.requires.logged.writes)

pub returns-in_ok-close-in-Err-clause-steps : goal.returns-in_ok-close-in-Err-clause-steps
returns-in_ok-close-in-Err-clause-steps g c =
    subst (λ (rows : List Row). g.L.ProofLogger.steps c.close.new.self c.args.author.now.problem.now rows) c.rows-rows.ensures.seen c.in_ok-close-in-Err.ensures.steps

pub returns-in_err-close-in-Err-clause-steps : goal.returns-in_err-close-in-Err-clause-steps
returns-in_err-close-in-Err-clause-steps g c =
    subst (λ (rows : List Row). g.L.ProofLogger.steps c.close.new.self c.args.author.now.problem.now rows) c.rows-rows.ensures.seen c.in_err-close-in-Err.ensures.steps

pub returns-in_err-take_rows-clause-problem : goal.returns-in_err-take_rows-clause-problem
returns-in_err-take_rows-clause-problem g c = c.take_rows.ensures.problem

pub returns-in-Ok-clause-problem : goal.returns-in-Ok-clause-problem
returns-in-Ok-clause-problem g c = c.propagate_again.ensures.problem

pub returns-in_ok-close-in-Err-clause-problem : goal.returns-in_ok-close-in-Err-clause-problem
returns-in_ok-close-in-Err-clause-problem g c = c.propagate_again.ensures.problem

pub returns-in_err-close-in-Err-clause-problem : goal.returns-in_err-close-in-Err-clause-problem
returns-in_err-close-in-Err-clause-problem g c = c.propagate_again.ensures.problem

pub returns-in_err-take_rows-clause-owner : goal.returns-in_err-take_rows-clause-owner
returns-in_err-take_rows-clause-owner g c = refl

pub returns-in-Ok-clause-owner : goal.returns-in-Ok-clause-owner
returns-in-Ok-clause-owner g c = refl

pub returns-in_ok-close-in-Err-clause-owner : goal.returns-in_ok-close-in-Err-clause-owner
returns-in_ok-close-in-Err-clause-owner g c = c.close.ensures.owner

pub returns-in_err-close-in-Err-clause-owner : goal.returns-in_err-close-in-Err-clause-owner
returns-in_err-close-in-Err-clause-owner g c = c.close.ensures.owner

pub returns-in_err-take_rows-clause-caught : goal.returns-in_err-take_rows-clause-caught
returns-in_err-take_rows-clause-caught g c = c.catch_up.ensures.caught

pub returns-in-Ok-clause-caught : goal.returns-in-Ok-clause-caught
returns-in-Ok-clause-caught g c = c.catch_up.ensures.caught

pub returns-in_ok-close-in-Err-clause-caught : goal.returns-in_ok-close-in-Err-clause-caught
returns-in_ok-close-in-Err-clause-caught g c = c.catch_up.ensures.caught

pub returns-in_err-close-in-Err-clause-caught : goal.returns-in_err-close-in-Err-clause-caught
returns-in_err-close-in-Err-clause-caught g c = c.catch_up.ensures.caught

pub returns-in_err-take_rows-clause-fits : goal.returns-in_err-take_rows-clause-fits
returns-in_err-take_rows-clause-fits g c = c.catch_up.ensures.fits

pub returns-in-Ok-clause-fits : goal.returns-in-Ok-clause-fits
returns-in-Ok-clause-fits g c = c.catch_up.ensures.fits

pub returns-in_ok-close-in-Err-clause-fits : goal.returns-in_ok-close-in-Err-clause-fits
returns-in_ok-close-in-Err-clause-fits g c = c.catch_up.ensures.fits

pub returns-in_err-close-in-Err-clause-fits : goal.returns-in_err-close-in-Err-clause-fits
returns-in_err-close-in-Err-clause-fits g c = c.catch_up.ensures.fits

pub take_rows-requires-clause-few : goal.take_rows-requires-clause-few
take_rows-requires-clause-few g c = omega (arith, c.rows-rows.ensures.few, c.rows-rows.ensures.size)

pub close-requires-clause-few : goal.close-requires-clause-few
close-requires-clause-few g c = omega (arith, c.rows-rows.ensures.few, c.rows-rows.ensures.size)

pub close-requires-clause-honest : goal.close-requires-clause-honest
close-requires-clause-honest g c = c.requires.at_root.honest

pub propagate_again-requires-clause-is_of : goal.propagate_again-requires-clause-is_of
propagate_again-requires-clause-is_of g c = c.requires.at_root.is_of

pub propagate_again-requires-clause-left : goal.propagate_again-requires-clause-left
propagate_again-requires-clause-left g c = c.requires.at_root.left

pub propagate_again-requires-clause-quiet : goal.propagate_again-requires-clause-quiet
propagate_again-requires-clause-quiet g c = c.requires.at_root.rest.quiet

pub take_rows-requires-clause-problem : goal.take_rows-requires-clause-problem
take_rows-requires-clause-problem g c = c.requires.problem

pub returns-in_err-take_rows-clause-account : goal.returns-in_err-take_rows-clause-account
returns-in_err-take_rows-clause-account g c = refl

pub returns-in_err-take_rows-clause-marks : goal.returns-in_err-take_rows-clause-marks
returns-in_err-take_rows-clause-marks g c = refl

pub returns-in-Ok-clause-account : goal.returns-in-Ok-clause-account
returns-in-Ok-clause-account g c = refl

pub returns-in-Ok-clause-marks : goal.returns-in-Ok-clause-marks
returns-in-Ok-clause-marks g c = refl

pub returns-in_ok-close-in-Err-clause-account : goal.returns-in_ok-close-in-Err-clause-account
returns-in_ok-close-in-Err-clause-account g c = refl

pub returns-in_ok-close-in-Err-clause-marks : goal.returns-in_ok-close-in-Err-clause-marks
returns-in_ok-close-in-Err-clause-marks g c = refl

pub returns-in_err-close-in-Err-clause-account : goal.returns-in_err-close-in-Err-clause-account
returns-in_err-close-in-Err-clause-account g c = refl

pub returns-in_err-close-in-Err-clause-marks : goal.returns-in_err-close-in-Err-clause-marks
returns-in_err-close-in-Err-clause-marks g c = refl

pub returns-in_err-take_rows-clause-long : goal.returns-in_err-take_rows-clause-long
returns-in_err-take_rows-clause-long g c = c.requires.long

pub returns-in-Ok-clause-long : goal.returns-in-Ok-clause-long
returns-in-Ok-clause-long g c = kept_long c.args.propagator.now.waiting.len _ _ _ (c.propagate_again.auto.waiting ∙ c.deref_mut.ensures.len) (c.args.propagator.now.waiting.ok.0 ∙ c.requires.long)

pub returns-in_ok-close-in-Err-clause-long : goal.returns-in_ok-close-in-Err-clause-long
returns-in_ok-close-in-Err-clause-long g c = kept_long c.args.propagator.now.waiting.len _ _ _ (c.lower.ensures ∙ c.deref_mut-in-Err.ensures.len) (c.args.propagator.now.waiting.ok.0 ∙ c.requires.long)

pub returns-in_err-close-in-Err-clause-long : goal.returns-in_err-close-in-Err-clause-long
returns-in_err-close-in-Err-clause-long g c = kept_long c.args.propagator.now.waiting.len _ _ _ (c.lower.ensures ∙ c.deref_mut-in-Err.ensures.len) (c.args.propagator.now.waiting.ok.0 ∙ c.requires.long)

pub propagate_again-requires-clause-long : goal.propagate_again-requires-clause-long
propagate_again-requires-clause-long g c = ap length c.deref_mut.ensures.value ∙ c.requires.long
