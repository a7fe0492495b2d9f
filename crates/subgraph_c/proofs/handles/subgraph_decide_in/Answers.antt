-- What is decided is what the status says.

use Rattle.std.specs.Prelude.{ℕ}
use Rattle.std.proofs.Common.{subst, sym}
use Rattle.target_handle.specs.Opened.{opened}
use Rattle.subgraph_c.specs.Holding.{HeldStatus}
use Rattle.subgraph_c.proofs.HeldStatuses.{held_status_says}
use Rattle.subgraph_c.proofs.handles.subgraph_decide_in.Goals as goal

pub returns-in-Some-clause-says : goal.returns-in-Some-clause-says
returns-in-Some-clause-says c =
    let held = opened c.args.target.now in
    subst (λ (s : ℕ). HeldStatus s held c.args.pattern.now c.args.options.now c.args.less.now c.args.map.now c.tell.new.map c.tell.new.report) (sym c.tell.ensures.status)
    (held_status_says c.text_laws.ensures c.decide_held-decision.result.0 held c.in-Some.held (sym c.in-Some.ensures.taken) c.args.pattern.now c.args.options.now
    c.args.less.now c.args.map.now c.tell.new.map c.tell.new.report c.decide_held-decision.ensures.says c.tell.ensures.images c.tell.ensures.report)
