use Rattle.std.proofs.Common.{true, false, refl}
use Rattle.recorder.proofs.Guesses.{guesses_may}
use Rattle.propagation.proofs.Supporting.{unused_unsupported, unsupported_on}
use Rattle.propagation.proofs.Takes.{takes_none, takes_value}
use Rattle.propagation.proofs.edges.take_row.Goals as goal

pub returns-then-not-take_by : goal.returns-then-not-take_by
returns-then-not-take_by g c =
    let link = c.args.link in
    let gone = unsupported_on c.args.q.now c.args.d.now c.loop-u.d link.direction link.p link.r c.loop-u.u c.loop-u.invariant.takes.forces.narrows.less
    (c.requires.unsupported c.loop-u.u (c.loop-u.invariant.member c.loop-u-test.true)) in
    record {
      takes = takes_value false _ _ c.loop-u.d _ _ _ _ _ _ _ link.r c.loop-u.u c.requires.flagged c.loop-u.invariant.takes (unused_unsupported c.args.q.now c.loop-u.d link.direction link.p link.r c.loop-u.u gone)
          c.if-not-take_by.ensures.keeps c.if-not-take_by.ensures.taken c.if-not-take_by.ensures.bounded (λ s. c.if-not-take_by.ensures.told c.args.q.now s gone refl)
          (guesses_may _ _ _ (λ is. is) c.if-not-take_by.ensures.took);
    }

pub returns : goal.returns
returns g c = record { takes = c.loop-u.invariant.takes }

pub loop-u-init : goal.loop-u-init
loop-u-init g c = record {
  takes = takes_none tt _ _ _ _ c.requires.flagged;
  within = c.next_member-u.ensures.high;
  member = c.next_member-u.ensures.member;
}

pub loop-u-preserved : goal.loop-u-preserved
loop-u-preserved g c =
    let link = c.args.link in
    let gone = unsupported_on c.args.q.now c.args.d.now c.loop-u.d link.direction link.p link.r c.loop-u.u c.loop-u.invariant.takes.forces.narrows.less
    (c.requires.unsupported c.loop-u.u (c.loop-u.invariant.member c.loop-u-test.true)) in
    record {
      takes = takes_value true _ _ c.loop-u.d _ _ _ _ _ _ _ link.r c.loop-u.u c.requires.flagged c.loop-u.invariant.takes (unused_unsupported c.args.q.now c.loop-u.d link.direction link.p link.r c.loop-u.u gone)
          c.if-not-take_by.ensures.keeps c.if-not-take_by.ensures.taken c.if-not-take_by.ensures.bounded (λ s. c.if-not-take_by.ensures.told c.args.q.now s gone refl)
          (guesses_may _ _ _ (λ is. is) c.if-not-take_by.ensures.took);
      within = c.next_member-u-in-loop-u.ensures.high;
      member = c.next_member-u-in-loop-u.ensures.member;
    }
