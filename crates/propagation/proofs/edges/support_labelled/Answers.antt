use Rattle.propagation.proofs.Takes.{flagged_on, takes_none, takes_as, takes_more, takes_failed}
use Rattle.propagation.proofs.edges.support_labelled.Goals as goal

pub support_alike-requires-clause-flagged : goal.support_alike-requires-clause-flagged
support_alike-requires-clause-flagged g c = flagged_on tt _ _ _ _ _ _ _ c.requires.flagged c.loop-k.invariant.takes

pub returns-in_err-support_alike-clause-takes : goal.returns-in_err-support_alike-clause-takes
returns-in_err-support_alike-clause-takes g c = takes_failed tt _ c.from_residual.result _ _ _ _ _ _ _ _ _ _ c.from_residual.ensures.1 c.loop-k.invariant.takes c.in_err-support_alike.ensures.takes

pub returns-clause-takes : goal.returns-clause-takes
returns-clause-takes g c = takes_as tt _ _ _ _ _ _ _ _ c.loop-k.invariant.takes

pub loop-k-init : goal.loop-k-init
loop-k-init g c = record {
  takes = takes_none tt _ _ _ _ c.requires.flagged;
  gone = c.requires.gone;
}

pub loop-k-preserved : goal.loop-k-preserved
loop-k-preserved g c = record {
  takes = takes_more tt _ _ _ _ _ _ _ _ _ _ _ c.loop-k.invariant.takes c.in_ok-support_alike.ensures.takes;
  gone = c.in_ok-support_alike.ensures.gone;
}
