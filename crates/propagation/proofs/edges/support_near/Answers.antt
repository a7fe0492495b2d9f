use Rattle.propagation.proofs.Supporting.{unites_on}
use Rattle.propagation.proofs.Takes.{flagged_on, takes_none, takes_as, takes_more, takes_failed}
use Rattle.propagation.proofs.edges.support_near.Goals as goal

pub support_at-requires-clause-flagged : goal.support_at-requires-clause-flagged
support_at-requires-clause-flagged g c = flagged_on tt _ _ _ _ _ _ _ c.requires.flagged c.loop-k.invariant.takes

pub support_at-requires-clause-unites : goal.support_at-requires-clause-unites
support_at-requires-clause-unites g c = unites_on c.args.q.now.target c.args.d.now c.loop-k.d _ _ _ c.loop-k.invariant.takes.forces.narrows.less c.requires.unites

pub returns-in_err-support_at-clause-takes : goal.returns-in_err-support_at-clause-takes
returns-in_err-support_at-clause-takes g c = takes_failed tt _ c.from_residual.result _ _ _ _ _ _ _ _ _ _ c.from_residual.ensures.1 c.loop-k.invariant.takes c.in_err-support_at.ensures.takes

pub returns-clause-takes : goal.returns-clause-takes
returns-clause-takes g c = takes_as tt _ _ _ _ _ _ _ _ c.loop-k.invariant.takes

pub loop-k-init : goal.loop-k-init
loop-k-init g c = record {
  takes = takes_none tt _ _ _ _ c.requires.flagged;
  gone = c.requires.gone;
}

pub loop-k-preserved : goal.loop-k-preserved
loop-k-preserved g c = record {
  takes = takes_more tt _ _ _ _ _ _ _ _ _ _ _ c.loop-k.invariant.takes c.in_ok-support_at.ensures.takes;
  gone = c.in_ok-support_at.ensures.gone;
}
