use Rattle.propagation.proofs.Takes.{flagged_on, takes_none, takes_as, takes_more, takes_failed}
use Rattle.propagation.proofs.along_edges.look_on.Goals as goal

pub look-requires-clause-flagged : goal.look-requires-clause-flagged
look-requires-clause-flagged g c = flagged_on tt _ _ _ _ _ _ _ c.requires.flagged c.loop-left.invariant.takes

pub returns-in_err-any-clause-takes : goal.returns-in_err-any-clause-takes
returns-in_err-any-clause-takes g c = takes_failed tt _ c.from_residual.result _ _ _ _ _ _ _ _ _ _ c.from_residual.ensures.1 c.loop-left.invariant.takes c.in_err-any.ensures.takes

pub returns-clause-takes : goal.returns-clause-takes
returns-clause-takes g c = takes_as tt _ _ _ _ _ _ _ _ c.loop-left.invariant.takes

pub loop-left-init : goal.loop-left-init
loop-left-init g c = record {
  takes = takes_none tt _ _ _ _ c.requires.flagged;
  room = c.requires.room;
}

pub loop-left-preserved : goal.loop-left-preserved
loop-left-preserved g c = record {
  takes = takes_more tt _ _ _ _ _ _ _ _ _ _ _ c.loop-left.invariant.takes (takes_as _ tt _ _ _ _ _ _ _ c.in_ok-any.ensures.takes);
  room = c.in_ok-any.ensures.room;
}
