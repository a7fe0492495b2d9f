use Rattle.std.proofs.Common.{◌∙◌}
use Rattle.proof_theory.specs.Slack.{setting}
use Rattle.proof_checker.proofs.Passing.{item_reach, item_more, item_conflict}
use Rattle.proof_checker.proofs.closing.pass_lists.Goals as goal

pub pass_slots-requires : goal.pass_slots-requires
pass_slots-requires c =
    item_reach (λ v. v.items) c.args.lists.now c.loop-list.list-index c.list-item.result c.deref.result.now _ _ c.loop-list-test.true c.list-item.is c.deref.ensures.value c.loop-list.invariant.long c.requires

pub returns-then-pass_slots-clause-passed : goal.returns-then-pass_slots-clause-passed
returns-then-pass_slots-clause-passed c =
    item_conflict (λ v. v.items) c.args.lists.now c.loop-list.list-index c.list-item.result c.deref.result.now (setting c.args.set.now) (setting c.loop-list.set) (setting c.pass_slots.new.set) (setting c.pass_slots.new.set) c.loop-list-test.true c.list-item.is c.deref.ensures.value c.loop-list.invariant.over c.if-pass_slots.ensures.passed

pub loop-list-preserved : goal.loop-list-preserved
loop-list-preserved c = record {
  over = item_more (λ v. v.items) c.args.lists.now c.loop-list.list-index c.list-item.result c.deref.result.now (setting c.args.set.now) (setting c.loop-list.set) (setting c.pass_slots.new.set) c.loop-list-test.true c.list-item.is c.deref.ensures.value c.loop-list.invariant.over c.if-pass_slots.ensures.passed;
  long = c.pass_slots.ensures.long ∙ c.loop-list.invariant.long;
}
