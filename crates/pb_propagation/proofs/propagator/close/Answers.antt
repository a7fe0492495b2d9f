use Rattle.proof_theory.specs.Slack.{setting}
use Rattle.log_theory.specs.Tables.{all_forms}
use Rattle.pb_propagation.specs.Led.{Led, nothing}
use Rattle.pb_propagation.specs.Levels.{now, root}
use Rattle.pb_propagation.proofs.Led.{led_less, led_same, led_closed, led_with, closes_with, comes_closed, begun}
use Rattle.pb_propagation.proofs.propagator.close.Goals as goal

pub returns-then-close_root-clause-rooted : goal.returns-then-close_root-clause-rooted
returns-then-close_root-clause-rooted c =
    record { led = led_closed nothing _ _ (c.if-close_root.ensures.comes nothing (begun _ c.args.levels.now c.begin.new.self c.grow.new.self c.requires.led c.begin.ensures.lasts c.begin.ensures.undone c.in_ok-grow.ensures.now)) }

pub returns-then-close_root-clause-closed : goal.returns-then-close_root-clause-closed
returns-then-close_root-clause-closed c =
    closes_with (setting c.args.assumed.now) (all_forms c.args.model.now c.args.table.now) (c.if-close_root.ensures.comes nothing (begun _ c.args.levels.now c.begin.new.self c.grow.new.self c.requires.led c.begin.ensures.lasts c.begin.ensures.undone c.in_ok-grow.ensures.now))

pub returns-clause-rooted : goal.returns-clause-rooted
returns-clause-rooted c =
    let fs = all_forms c.args.model.now c.args.table.now in
    let d : Led nothing fs (now c.close_root.new.set) = c.if-close_root.ensures.comes nothing (begun fs c.args.levels.now c.begin.new.self c.grow.new.self c.requires.led c.begin.ensures.lasts c.begin.ensures.undone c.in_ok-grow.ensures.now) in
    let r : Led nothing fs (root c.close_root.new.set) = led_less nothing fs (now c.close_root.new.set) (root c.close_root.new.set) c.has_root-2.ensures d in
    let l : Led nothing fs (root c.leave_root.new.self) = led_same nothing fs (root c.close_root.new.set) (root c.leave_root.new.self) c.leave_root.ensures.root r in
    record { led = led_same nothing fs (root c.leave_root.new.self) (root c.close_line.new.set) (c.close_line.ensures.kept.lasts c.leave_root.ensures.level) l }

pub returns-clause-closed : goal.returns-clause-closed
returns-clause-closed c =
    let fs = all_forms c.args.model.now c.args.table.now in
    let d : Led nothing fs (now c.close_root.new.set) = c.if-close_root.ensures.comes nothing (begun fs c.args.levels.now c.begin.new.self c.grow.new.self c.requires.led c.begin.ensures.lasts c.begin.ensures.undone c.in_ok-grow.ensures.now) in
    let l : Led nothing fs (now c.leave_root.new.self) = led_same nothing fs (now c.close_root.new.set) (now c.leave_root.new.self) c.leave_root.ensures.now d in
    comes_closed c.close_line.result (setting c.args.assumed.now) fs (now c.close_line.new.set) (c.close_line.ensures.comes (led_with (setting c.args.assumed.now) fs (now c.leave_root.new.self) l))
