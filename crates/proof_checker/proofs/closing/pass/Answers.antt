use Rattle.std.proofs.Common.{refl, ◌∙◌}
use Rattle.proof_theory.specs.Slack.{setting}
use Rattle.proof_checker.proofs.Passing.{reach_item, passed_none, pass_more, pass_conflict}
use Rattle.proof_checker.proofs.closing.pass.Goals as goal

pub follow-requires : goal.follow-requires
follow-requires c =
    reach_item _ _ c.args.constraints.now c.loop-next.next-index c.next-item.result c.loop-next-test.true c.next-item.is c.loop-next.invariant.long c.requires

pub loop-next-init : goal.loop-next-init
loop-next-init c = record { over = passed_none _; long = refl }

pub loop-next-preserved : goal.loop-next-preserved
loop-next-preserved c =
    let f = c.if-follow.ensures.follows in
    record {
      over = pass_more (setting c.args.set.now) (setting c.loop-next.set) (setting c.follow.new.set) c.args.constraints.now c.loop-next.next-index c.next-item.result c.loop-next-test.true c.next-item.is c.loop-next.invariant.over f.0 f.1 c.follow.ensures.rises;
      long = c.follow.ensures.long ∙ c.loop-next.invariant.long;
    }

pub returns-then-follow-clause-passed : goal.returns-then-follow-clause-passed
returns-then-follow-clause-passed c =
    pass_conflict (setting c.args.set.now) (setting c.loop-next.set) c.args.constraints.now c.loop-next.next-index c.next-item.result c.loop-next-test.true c.next-item.is c.loop-next.invariant.over c.if-follow.ensures.follows (setting c.follow.new.set)
