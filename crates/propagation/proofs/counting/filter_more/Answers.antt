use Rattle.std.proofs.Common.{sym, ◌∙◌, subst, arith}
use Rattle.domain_bits.specs.Removals.{State, in_domain}
use Rattle.graph_theory.specs.Embedding.{Problem}
use Rattle.search_theory.specs.Claims.{Quiet, Ordered}
use Rattle.recorder.specs.Telling.{IsOf}
use Rattle.propagation.specs.Propagation.{AreBalanced, AreCalm, LeavesPast}
use Rattle.propagation.proofs.Takes.{prunes_then, prunes_returned, prunes_some}
use Rattle.propagation.proofs.counting.filter_more.Goals as goal

calm : (q : Problem) (d : State) → Ordered q (in_domain d) → AreBalanced q d → AreCalm q d
calm q d ordered balanced = record { balanced = balanced; ordered = ordered }

still : (q : Problem) (d : State) → AreCalm q d → AreCalm q d → AreCalm q d
still q d before after = before

pub prune_order-requires-clause-flagged : goal.prune_order-requires-clause-flagged
prune_order-requires-clause-flagged g c = record { is_of = c.requires.is_of; long = c.requires.long; bounded = omega (arith, c.mark-removed.ensures.within, c.mark-removed.ensures.length) }

pub returns-in_err-in_order-clause-prunes : goal.returns-in_err-in_order-clause-prunes
returns-in_err-in_order-clause-prunes g c = prunes_returned _ _ _ c.from_residual.result _ _ _ _ _ _ _ c.from_residual.ensures.1 c.in_err-in_order.ensures.prunes

pub returns-then-in_order-clause-prunes : goal.returns-then-in_order-clause-prunes
returns-then-in_order-clause-prunes g c = prunes_some _ _ _ _ _ _ _ _ _ (rw c.if-in_order.true at c.in_ok-in_order.ensures.prunes)

pub prune_noting-requires-clause-is_of : goal.prune_noting-requires-clause-is_of
prune_noting-requires-clause-is_of g c =
    let says = rw c.if-in_order.false at c.in_ok-in_order.ensures.prunes in subst (λ (d : State). IsOf c.args.problem.now d) (sym says.pruned.0) c.requires.is_of

pub prune_noting-requires-clause-left : goal.prune_noting-requires-clause-left
prune_noting-requires-clause-left g c =
    let says = rw c.if-in_order.false at c.in_ok-in_order.ensures.prunes in subst (λ (d : State). LeavesPast c.args.problem.now d c.args.undecided.now) (sym says.pruned.0) c.requires.left

pub prune_noting-requires-clause-quiet : goal.prune_noting-requires-clause-quiet
prune_noting-requires-clause-quiet g c =
    let says = rw c.if-in_order.false at c.in_ok-in_order.ensures.prunes in subst (λ (d : State). Quiet c.args.problem.now (in_domain d)) (sym says.pruned.0) c.requires.quiet

pub prune_noting-requires-clause-long : goal.prune_noting-requires-clause-long
prune_noting-requires-clause-long g c = c.prune_order.auto.waiting ∙ c.requires.long

pub returns-in_err-have_left-clause-prunes : goal.returns-in_err-have_left-clause-prunes
returns-in_err-have_left-clause-prunes g c =
    let first = rw c.if-in_order.false at c.in_ok-in_order.ensures.prunes in
    prunes_returned _ _ _ c.from_residual-in_err-have_left.result _ _ _ _ _ _ _ c.from_residual-in_err-have_left.ensures.1
    (prunes_then _ _ _ (calm c.args.problem.now) _ _ _ _ _ _ _ _ _ _ _ _ first c.in_err-have_left.ensures.prunes)

pub returns-then-have_left-clause-prunes : goal.returns-then-have_left-clause-prunes
returns-then-have_left-clause-prunes g c =
    let first = rw c.if-in_order.false at c.in_ok-in_order.ensures.prunes in
    let next = rw c.if-have_left.true at c.in_ok-have_left.ensures.prunes in
    prunes_then _ _ _ (calm c.args.problem.now) _ _ _ _ _ _ _ _ _ _ _ _ first next

pub prune_along_edges-requires-clause-flagged : goal.prune_along_edges-requires-clause-flagged
prune_along_edges-requires-clause-flagged g c =
    let first = rw c.if-in_order.false at c.in_ok-in_order.ensures.prunes in
    let says = rw c.if-have_left.false at c.in_ok-have_left.ensures.prunes in
    record {
      is_of = subst (λ (d : State). IsOf c.args.problem.now d) (sym (says.pruned.0 ∙ first.pruned.0)) c.requires.is_of;
      long = c.prune_noting.auto.waiting ∙ (c.prune_order.auto.waiting ∙ c.requires.long);
      bounded = c.in_ok-have_left.ensures.bounded;
    }

pub prune_along_edges-requires-clause-quiet : goal.prune_along_edges-requires-clause-quiet
prune_along_edges-requires-clause-quiet g c =
    let first = rw c.if-in_order.false at c.in_ok-in_order.ensures.prunes in
    let says = rw c.if-have_left.false at c.in_ok-have_left.ensures.prunes in
    subst (λ (d : State). Quiet c.args.problem.now (in_domain d)) (sym (says.pruned.0 ∙ first.pruned.0)) c.requires.quiet

pub prune_along_edges-requires-clause-calm : goal.prune_along_edges-requires-clause-calm
prune_along_edges-requires-clause-calm g c =
    let first = rw c.if-in_order.false at c.in_ok-in_order.ensures.prunes in
    let next = rw c.if-have_left.false at c.in_ok-have_left.ensures.prunes in
    (prunes_then _ _ _ (calm c.args.problem.now) _ _ _ _ _ _ _ _ _ _ _ _ first next).pruned.1

pub returns-clause-prunes : goal.returns-clause-prunes
returns-clause-prunes g c =
    let first = rw c.if-in_order.false at c.in_ok-in_order.ensures.prunes in
    let next = rw c.if-have_left.false at c.in_ok-have_left.ensures.prunes in
    let both = prunes_then _ _ _ (calm c.args.problem.now) _ _ _ _ _ _ _ _ _ _ _ _ first next in
    prunes_then _ _ _ (still c.args.problem.now) c.prune_along_edges.result _ _ _ _ _ _ _ _ _ _ _ both c.prune_along_edges.ensures.prunes
