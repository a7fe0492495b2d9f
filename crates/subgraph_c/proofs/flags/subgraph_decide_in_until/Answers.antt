-- What is decided, or that the call was ended, is what the status says.

use Rattle.std.specs.Prelude.{ℕ}
use Rattle.std.proofs.Common.{subst, sym}
use Rattle.target_handle.specs.Opened.{opened}
use Rattle.subgraph_c.specs.Stopping.{HeldStopStatus}
use Rattle.subgraph_c.proofs.HeldStatuses.{held_stop_status_says}
use Rattle.subgraph_c.proofs.flags.subgraph_decide_in_until.Goals as goal

pub returns-in-Some-clause-says : goal.returns-in-Some-clause-says
returns-in-Some-clause-says c =
    let held = opened c.args.target.now in
    subst (λ (s : ℕ). HeldStopStatus s held c.args.pattern.now c.args.limits.now.options c.args.less.now c.args.limits.now.flag.there c.args.map.now
    c.tell_end.new.map c.tell_end.new.report) (sym c.tell_end.ensures.status)
    (held_stop_status_says c.text_laws.ensures c.decide_held_until-ended.result.0 held c.in-Some.held (sym c.in-Some.ensures.taken) c.args.pattern.now
    c.args.limits.now.options c.args.less.now c.args.limits.now.flag.there c.args.map.now c.tell_end.new.map c.tell_end.new.report
    c.decide_held_until-ended.ensures.says c.decide_held_until-ended.ensures.there c.tell_end.ensures.images c.tell_end.ensures.report)
