-- What is decided, or that the call was ended, is what the status says.

use Rattle.std.specs.Prelude.{ℕ}
use Rattle.std.proofs.Common.{subst, sym, inr}
use Rattle.subgraph_c.specs.Asking.{call}
use Rattle.subgraph_c.specs.Deciding.{DecideStatus}
use Rattle.subgraph_c.specs.Stopping.{StopStatus}
use Rattle.subgraph_c.proofs.DecideStatuses.{decide_status_says}
use Rattle.subgraph_c.proofs.StopStatuses.{stop_status_says}
use Rattle.subgraph_c.proofs.flags.subgraph_decide_until.Goals as goal

pub returns-in-Some-clause-says : goal.returns-in-Some-clause-says
returns-in-Some-clause-says c =
    let asked = call c.args.pattern.now c.args.target.now c.args.limits.now.options c.args.less.now in
    subst (λ (s : ℕ). StopStatus s asked c.args.limits.now.flag.there c.args.map.now c.tell_end.new.map c.tell_end.new.report) (sym c.tell_end.ensures.status)
    (stop_status_says c.text_laws.ensures c.decide_at-ended.result asked c.args.limits.now.flag.there c.args.map.now _ _ c.decide_at-ended.ensures.says c.in-Some.ensures.taken c.tell_end.ensures.images c.tell_end.ensures.report)

pub returns-in-None-clause-says : goal.returns-in-None-clause-says
returns-in-None-clause-says c =
    let asked = call c.args.pattern.now c.args.target.now c.args.limits.now.options c.args.less.now in
    inr (subst (λ (s : ℕ). DecideStatus s asked c.args.map.now c.tell.new.map c.tell.new.report) (sym c.tell.ensures.status)
    (decide_status_says c.text_laws.ensures c.decide-decision.result asked c.args.map.now _ _ c.decide-decision.ensures.says c.tell.ensures.images c.tell.ensures.report))
