use Rattle.std.proofs.Common.{◌≤◌, refl, sym, subst, ◌∙◌}
use Rattle.graph_theory.specs.Graph.{Graph, size}
use Rattle.restart_search.proofs.Publishing.{may_publish, went_at, went_full, row_published}
use Rattle.restart_search.proofs.Noting.{beside_full, publishes_at}
use Rattle.restart_search.proofs.Learning.{learned_nogood, learned_full}
use Rattle.restart_search.proofs.sharing.publish_nogood.Goals as goal

pub place-requires-clause-owner : goal.place-requires-clause-owner
place-requires-clause-owner g c = sym c.requires.seat.owner_is

pub place-requires-clause-row : goal.place-requires-clause-row
place-requires-clause-row g c =
    may_publish c.args.author.now.problem.now c.args.author.now.owner (g.B.Seat.RowSeat.shows c.args.seat.now) _ c.args.level.now.above.now c.requires.seat c.requires.parent c.requires.stands c.requires.dead c.requires.narrow
    (subst (λ (h : Graph). size h ≤ 1024) c.pattern-pattern.ensures.pattern c.pattern-pattern.ensures.few)
    (subst (λ (h : Graph). size h ≤ 8192) c.target-target.ensures.target c.target-target.ensures.few)

pub returns-in-At-clause-went : goal.returns-in-At-clause-went
returns-in-At-clause-went g c = went_at _ _ _ _ c.in-At.ensures.placed

pub returns-in-Full-clause-went : goal.returns-in-Full-clause-went
returns-in-Full-clause-went g c = went_full _ _ c.in-Full.ensures.placed

pub returns-in-At-clause-row : goal.returns-in-At-clause-row
returns-in-At-clause-row g c = λ yes. row_published _ _ c.args.author.now.owner _ _ c.args.level.now.above.now c.in-At.ensures.placed c.requires.parent refl refl

pub returns-in-Full-clause-full : goal.returns-in-Full-clause-full
returns-in-Full-clause-full g c = λ no. c.in-Full.ensures.placed.full

pub returns-in-At-clause-writes : goal.returns-in-At-clause-writes
returns-in-At-clause-writes g c =
    c.note.ensures.noted c.args.author.now.problem.now (g.B.Seat.RowSeat.shows c.args.seat.now).seen (g.B.Seat.RowSeat.shows c.place.new.seat).seen c.requires.writes
    (publishes_at c.args.account.now _ _ (g.L.ProofLogger.owner c.args.log.now) c.args.level.now.number _ _ c.args.level.now.above.now (c.requires.seat.owner_is ∙ sym c.requires.owner) refl (sym c.requires.owner)
    c.in-At.ensures.placed c.requires.parent c.requires.above c.requires.level c.requires.refuted)

pub returns-in-Full-clause-writes : goal.returns-in-Full-clause-writes
returns-in-Full-clause-writes g c =
    c.stays.ensures.grown c.args.author.now.problem.now (g.B.Seat.RowSeat.shows c.args.seat.now).seen (g.B.Seat.RowSeat.shows c.place.new.seat).seen c.args.account.now
    (beside_full (g.L.ProofLogger.owner c.args.log.now) _ _ (c.requires.seat.owner_is ∙ sym c.requires.owner) c.in-Full.ensures.placed) c.requires.writes

pub returns-in-At-clause-learned : goal.returns-in-At-clause-learned
returns-in-At-clause-learned g c = λ yes. learned_nogood _ _ c.args.author.now.owner _ _ c.args.level.now.above.now c.in-At.ensures.placed c.requires.parent refl c.requires.seat.owner_is

pub returns-in-Full-clause-kept : goal.returns-in-Full-clause-kept
returns-in-Full-clause-kept g c = λ no. learned_full c.args.author.now.owner _ _ c.in-Full.ensures.placed c.requires.seat.owner_is
