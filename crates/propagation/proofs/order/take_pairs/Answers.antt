use Rattle.std.proofs.Common.{ap, get_or, length, arith}
use Rattle.std.proofs.lemmas.Option.{slice_get-get_or}
use Rattle.propagation.proofs.Ordering.{rise_none, rise_more, pair_at, ordered_all}
use Rattle.propagation.proofs.Takes.{flagged_on, takes_none, takes_as, takes_more, takes_failed}
use Rattle.propagation.proofs.order.take_pairs.Goals as goal

pub loop-k-init : goal.loop-k-init
loop-k-init g c = record { takes = takes_none tt _ _ _ _ c.requires.flagged; rising = rise_none c.args.q.now c.args.d.now }

pub take_pair-requires-clause-flagged : goal.take_pair-requires-clause-flagged
take_pair-requires-clause-flagged g c = flagged_on tt _ _ _ _ _ _ _ c.requires.flagged c.loop-k.invariant.takes

pub returns-in_err-take_pair-clause-takes : goal.returns-in_err-take_pair-clause-takes
returns-in_err-take_pair-clause-takes g c = takes_failed tt _ c.from_residual.result _ _ _ _ _ _ _ _ _ _ c.from_residual.ensures.1 c.loop-k.invariant.takes c.in_err-take_pair.ensures.takes

pub returns-clause-takes : goal.returns-clause-takes
returns-clause-takes g c = takes_as tt _ _ _ _ _ _ _ _ c.loop-k.invariant.takes

pub loop-k-preserved : goal.loop-k-preserved
loop-k-preserved g c = record {
  takes = takes_more tt _ _ _ _ _ _ _ _ _ _ _ c.loop-k.invariant.takes c.in_ok-take_pair.ensures.takes;
  rising = rise_more c.args.q.now c.args.d.now c.loop-k.d c.take_pair.new.d c.loop-k.k (get_or c.less-pairs.result.now c.loop-k.k (0, 0)) c.loop-k.invariant.rising c.loop-k.invariant.takes.forces.narrows c.in_ok-take_pair.ensures.takes.forces.narrows
      (pair_at c.args.q.now.less c.less-pairs.result.now c.loop-k.k c.less-pairs.ensures.pairs c.loop-k-test.true) c.in_ok-take_pair.ensures.rising;
}

pub take_pair-requires-clause-pair_is : goal.take_pair-requires-clause-pair_is
take_pair-requires-clause-pair_is g c = pair_at c.args.q.now.less c.less-pairs.result.now c.loop-k.k c.less-pairs.ensures.pairs c.loop-k-test.true

pub take_pair-requires-clause-first_in : goal.take_pair-requires-clause-first_in
take_pair-requires-clause-first_in g c =
    c.less-pairs.ensures.order.first c.loop-k.k (get_or c.less-pairs.result.now c.loop-k.k (0, 0)) (slice_get-get_or c.less-pairs.result.now c.loop-k.k (0, 0) c.loop-k-test.true)

pub take_pair-requires-clause-second_in : goal.take_pair-requires-clause-second_in
take_pair-requires-clause-second_in g c =
    c.less-pairs.ensures.order.second c.loop-k.k (get_or c.less-pairs.result.now c.loop-k.k (0, 0)) (slice_get-get_or c.less-pairs.result.now c.loop-k.k (0, 0) c.loop-k-test.true)

pub returns-clause-ordered : goal.returns-clause-ordered
returns-clause-ordered g c = λ few. ordered_all c.args.q.now c.args.d.now c.loop-k.d c.loop-k.k (omega (arith, c.loop-k-test.false, ap length c.less-pairs.ensures.pairs)) c.loop-k.invariant.rising few
