use Rattle.std.proofs.Common.{arith}
use Rattle.propagation.proofs.Takes.{flagged_on, takes_none, takes_as, takes_more, takes_failed}
use Rattle.propagation.proofs.matching.match_vertex.Goals as goal

pub match_value-requires-clause-flagged : goal.match_value-requires-clause-flagged
match_value-requires-clause-flagged g c = flagged_on tt _ _ _ _ _ _ _ c.requires.flagged c.loop-t.invariant.takes

pub returns-in_err-match_value-clause-takes : goal.returns-in_err-match_value-clause-takes
returns-in_err-match_value-clause-takes g c = takes_failed tt _ c.from_residual.result _ _ _ _ _ _ _ _ _ _ c.from_residual.ensures.1 c.loop-t.invariant.takes c.in_err-match_value.ensures.takes

pub returns-clause-takes : goal.returns-clause-takes
returns-clause-takes g c = takes_as tt _ _ _ _ _ _ _ _ c.loop-t.invariant.takes

pub loop-t-init : goal.loop-t-init
loop-t-init g c = record {
  takes = takes_none tt _ _ _ _ c.requires.flagged;
  room = c.requires.room;
  within = omega (arith, c.next_left-t.ensures.high, c.values-values.ensures);
}

pub loop-t-preserved : goal.loop-t-preserved
loop-t-preserved g c =
    let took = takes_more tt _ _ _ _ _ _ _ _ _ _ _ c.loop-t.invariant.takes c.in_ok-match_value.ensures.takes in
    record {
      takes = took;
      room = c.in_ok-match_value.ensures.room;
      within = omega (arith, c.next_left-t-in-loop-t.ensures.high, took.forces.narrows.values_same, c.values-values.ensures);
    }
