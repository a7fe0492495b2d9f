-- What is opened is what the status says.

use Rattle.std.specs.Prelude.{ℕ}
use Rattle.std.proofs.Common.{subst, sym}
use Rattle.target_handle.specs.Opened.{opened}
use Rattle.subgraph_c.specs.Holding.{OpenStatus}
use Rattle.subgraph_c.proofs.OpenStatuses.{open_status_says}
use Rattle.subgraph_c.proofs.handles.subgraph_target_open.Goals as goal

pub returns : goal.returns
returns c =
    let before = opened c.args.target.now in let after = opened c.open.new.target in
    subst (λ (s : ℕ). OpenStatus s c.args.text.now c.args.format before after c.tell_opened.new.report) (sym c.tell_opened.ensures.status)
    (open_status_says c.text_laws.ensures c.open.result c.args.text.now c.args.format before after c.tell_opened.new.report c.open.ensures c.tell_opened.ensures.report)
