use Rattle.std.proofs.Common.{true, false, refl, arith}
use Rattle.recorder.proofs.Guesses.{guesses_may}
use Rattle.propagation.proofs.Ordering.{unused_misplaced, misplaced_on, gone_first, gone_more}
use Rattle.propagation.proofs.Takes.{takes_none, takes_value}
use Rattle.propagation.proofs.order.take_range.Goals as goal

pub loop-u-init : goal.loop-u-init
loop-u-init g c = record {
  takes = takes_none tt _ _ _ _ c.requires.flagged;
  gone = gone_first _ _ _ _ _ c.row.ensures.bits c.next_member-u.ensures.low c.next_member-u.ensures.none;
}

pub returns-then-not-take_by-clause-takes : goal.returns-then-not-take_by-clause-takes
returns-then-not-take_by-clause-takes g c =
    let end = c.args.end in
    let out = misplaced_on c.args.q.now c.args.d.now c.loop-u.d end.k end.side end.r c.loop-u.u c.loop-u.invariant.takes.forces.narrows.less
    (c.requires.out c.loop-u.u c.loop-u.invariant.gone.low c.loop-u-test.true) in
    takes_value false _ _ c.loop-u.d _ _ _ _ _ _ _ end.r c.loop-u.u c.requires.flagged c.loop-u.invariant.takes (unused_misplaced c.args.q.now c.loop-u.d end.k end.side end.r c.loop-u.u out)
    c.if-not-take_by.ensures.keeps c.if-not-take_by.ensures.taken c.if-not-take_by.ensures.bounded (λ s. c.if-not-take_by.ensures.told c.args.q.now s out refl)
    (guesses_may _ _ _ (λ is. is) c.if-not-take_by.ensures.took)

pub returns-clause-takes : goal.returns-clause-takes
returns-clause-takes g c = c.loop-u.invariant.takes

pub returns-clause-gone : goal.returns-clause-gone
returns-clause-gone g c = λ v low high. c.loop-u.invariant.gone.gone v low (omega (arith, high, c.loop-u-test.false))

pub loop-u-preserved : goal.loop-u-preserved
loop-u-preserved g c =
    let end = c.args.end in
    let out = misplaced_on c.args.q.now c.args.d.now c.loop-u.d end.k end.side end.r c.loop-u.u c.loop-u.invariant.takes.forces.narrows.less
    (c.requires.out c.loop-u.u c.loop-u.invariant.gone.low c.loop-u-test.true) in
    record {
      takes = takes_value true _ _ c.loop-u.d _ _ _ _ _ _ _ end.r c.loop-u.u c.requires.flagged c.loop-u.invariant.takes (unused_misplaced c.args.q.now c.loop-u.d end.k end.side end.r c.loop-u.u out)
          c.if-not-take_by.ensures.keeps c.if-not-take_by.ensures.taken c.if-not-take_by.ensures.bounded (λ s. c.if-not-take_by.ensures.told c.args.q.now s out refl)
          (guesses_may _ _ _ (λ is. is) c.if-not-take_by.ensures.took);
      gone = gone_more _ _ _ _ _ _ _ c.loop-u.invariant.gone c.if-not-take_by.ensures.keeps c.row-in-loop-u.ensures.bits c.next_member-u-in-loop-u.ensures.low
          c.next_member-u-in-loop-u.ensures.none;
    }
