use Rattle.std.proofs.Common.{refl, sym, ◌∙◌}
use Rattle.proof_theory.specs.Slack.{setting}
use Rattle.proof_checker.proofs.Passing.{reach_slot, passed_none, slot_more, slot_none, slot_conflict}
use Rattle.proof_checker.proofs.closing.pass_slots.Goals as goal
use Rattle.proof_checker.proofs.closing.pass_slots.Goals.{in-Some+else-follow, in_default}

pub follow-requires : goal.follow-requires
follow-requires c =
    reach_slot _ _ c.args.slots.now c.loop-slot.slot-index c.slot-item.result c.in-Some.next.now c.loop-slot-test.true c.slot-item.is (sym c.in-Some.ensures) c.loop-slot.invariant.long c.requires

pub loop-slot-init : goal.loop-slot-init
loop-slot-init c = record { over = passed_none _; long = refl }

pub returns-then-follow-clause-passed : goal.returns-then-follow-clause-passed
returns-then-follow-clause-passed c =
    slot_conflict (setting c.args.set.now) (setting c.loop-slot.set) c.args.slots.now c.loop-slot.slot-index c.slot-item.result c.in-Some.next.now c.loop-slot-test.true c.slot-item.is (sym c.in-Some.ensures) c.loop-slot.invariant.over c.if-follow.ensures.follows (setting c.follow.new.set)

pub loop-slot-preserved : goal.loop-slot-preserved
loop-slot-preserved c =
    elim c.match-constraint.branch [
      | in-Some+else-follow w ↦
          let f = w.if-follow.ensures.follows in
          rw (w.set-is) (record {
            over = slot_more (setting c.args.set.now) (setting c.loop-slot.set) (setting w.follow.new.set) c.args.slots.now c.loop-slot.slot-index c.slot-item.result w.in-Some.next.now c.loop-slot-test.true c.slot-item.is (sym w.in-Some.ensures) c.loop-slot.invariant.over f.0 f.1 w.follow.ensures.rises;
            long = w.follow.ensures.long ∙ c.loop-slot.invariant.long;
          })
      | in_default w ↦
          rw (w.set-is) (record {
            over = slot_none (setting c.args.set.now) (setting c.loop-slot.set) c.args.slots.now c.loop-slot.slot-index c.slot-item.result c.loop-slot-test.true c.slot-item.is (sym w.in_default.ensures) c.loop-slot.invariant.over;
            long = c.loop-slot.invariant.long;
          })
    ]
