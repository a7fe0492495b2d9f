use Rattle.std.proofs.Common.{◌≤◌, refl, sym, subst, arith}
use Rattle.graph_theory.specs.Graph.{Graph, size}
use Rattle.nogood_book.proofs.Reaching.{reaches_next}
use Rattle.restart_search.proofs.Publishing.{may_publish, went_at, went_full}
use Rattle.restart_search.proofs.Noting.{beside_full, beside_step}
use Rattle.restart_search.proofs.Learning.{learned_step, learned_full}
use Rattle.restart_search.proofs.sharing.publish_step.Goals as goal

pub place-requires-clause-owner : goal.place-requires-clause-owner
place-requires-clause-owner g c = sym c.requires.seat.owner_is

pub place-requires-clause-row : goal.place-requires-clause-row
place-requires-clause-row g c =
    may_publish c.args.author.now.problem.now c.args.author.now.owner (g.B.Seat.RowSeat.shows c.args.seat.now) _ c.args.above.now c.requires.seat c.requires.parent c.requires.stands tt c.requires.narrow
    (subst (λ (h : Graph). size h ≤ 1024) c.pattern-pattern.ensures.pattern c.pattern-pattern.ensures.few)
    (subst (λ (h : Graph). size h ≤ 8192) c.target-target.ensures.target c.target-target.ensures.few)

pub returns-in-At-clause-went : goal.returns-in-At-clause-went
returns-in-At-clause-went g c = went_at _ _ _ _ c.in-At.ensures.placed

pub returns-in-Full-clause-went : goal.returns-in-Full-clause-went
returns-in-Full-clause-went g c = went_full _ _ c.in-Full.ensures.placed

pub returns-in-At-clause-next : goal.returns-in-At-clause-next
returns-in-At-clause-next g c =
    reaches_next _ _ _ _ c.args.above.now c.in-At.ensures.placed refl c.requires.parent

pub returns-in-Full-clause-full : goal.returns-in-Full-clause-full
returns-in-Full-clause-full g c = c.in-Full.ensures.placed.full

pub returns-in-At-clause-beside : goal.returns-in-At-clause-beside
returns-in-At-clause-beside g c = beside_step _ _ c.args.author.now.owner _ _ c.requires.seat.owner_is refl c.in-At.ensures.placed

pub returns-in-Full-clause-beside : goal.returns-in-Full-clause-beside
returns-in-Full-clause-beside g c = beside_full c.args.author.now.owner _ _ c.requires.seat.owner_is c.in-Full.ensures.placed

pub returns-in-At-clause-learned : goal.returns-in-At-clause-learned
returns-in-At-clause-learned g c = learned_step _ _ c.args.author.now.owner _ _ c.args.above.now c.in-At.ensures.placed c.requires.parent refl c.requires.seat.owner_is

pub returns-in-Full-clause-learned : goal.returns-in-Full-clause-learned
returns-in-Full-clause-learned g c = learned_full c.args.author.now.owner _ _ c.in-Full.ensures.placed c.requires.seat.owner_is
