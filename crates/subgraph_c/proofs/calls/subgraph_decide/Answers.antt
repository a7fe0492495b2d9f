-- What is decided is what the status says.

use Rattle.std.specs.Prelude.{ℕ}
use Rattle.std.proofs.Common.{subst, sym}
use Rattle.subgraph_c.specs.Asking.{call}
use Rattle.subgraph_c.specs.Deciding.{DecideStatus}
use Rattle.subgraph_c.proofs.DecideStatuses.{decide_status_says}
use Rattle.subgraph_c.proofs.calls.subgraph_decide.Goals as goal

pub returns : goal.returns
returns c =
    let asked = call c.args.pattern.now c.args.target.now c.args.options.now c.args.less.now in
    subst (λ (s : ℕ). DecideStatus s asked c.args.map.now c.tell.new.map c.tell.new.report) (sym c.tell.ensures.status)
    (decide_status_says c.text_laws.ensures c.decide-decision.result asked c.args.map.now _ _ c.decide-decision.ensures.says c.tell.ensures.images c.tell.ensures.report)
