use Rattle.std.proofs.Common.{ltb, ap, sym, ◌∙◌}
use Rattle.propagation.specs.Propagation.{AreCalm}
use Rattle.propagation.proofs.Takes.{flagged_on, takes_more, has_still, prunes_taken, prunes_failed}
use Rattle.propagation.proofs.along_edges.prune_along_edges.Goals as goal

pub returns-in_err-supported-clause-prunes : goal.returns-in_err-supported-clause-prunes
returns-in_err-supported-clause-prunes g c = prunes_failed _ _ c.from_residual.result _ _ _ _ _ _ _ _ c.from_residual.ensures.1 c.in_err-supported.ensures.takes

pub returns-then-is_before-clause-prunes : goal.returns-then-is_before-clause-prunes
returns-then-is_before-clause-prunes g c =
    prunes_taken _ _ _ _ _ _ _ _ _ _ _ c.requires.quiet (has_still (AreCalm c.args.problem.now) _ _ _ _ _ _ _ _ c.requires.calm c.in_ok-supported.ensures.takes) c.requires.flagged c.in_ok-supported.ensures.takes
    (sym c.if-is_before.true ∙ c.is_before.ensures ∙ (ap (λ n. ltb n c.mark-after.result) c.mark-from.ensures.length ∙ ap (ltb _) c.mark-after.ensures.length))

pub look_on-matched-requires-clause-flagged : goal.look_on-matched-requires-clause-flagged
look_on-matched-requires-clause-flagged g c = flagged_on _ _ _ _ _ _ _ _ c.requires.flagged c.in_ok-supported.ensures.takes

pub returns-in_err-matched-clause-prunes : goal.returns-in_err-matched-clause-prunes
returns-in_err-matched-clause-prunes g c =
    prunes_failed _ _ c.from_residual-in_err-matched.result _ _ _ _ _ _ _ _ c.from_residual-in_err-matched.ensures.1
    (takes_more _ _ _ _ _ _ _ _ _ _ _ _ c.in_ok-supported.ensures.takes c.in_err-matched.ensures.takes)

pub returns-clause-prunes : goal.returns-clause-prunes
returns-clause-prunes g c =
    let took = takes_more _ _ _ _ _ _ _ _ _ _ _ _ c.in_ok-supported.ensures.takes c.in_ok-matched.ensures.takes in
    prunes_taken _ _ _ _ _ _ _ _ _ _ _ c.requires.quiet (has_still (AreCalm c.args.problem.now) _ _ _ _ _ _ _ _ c.requires.calm took) c.requires.flagged took
    (c.is_before-2.ensures ∙ (ap (λ n. ltb n c.mark-last.result) c.mark-from.ensures.length ∙ ap (ltb _) c.mark-last.ensures.length))
