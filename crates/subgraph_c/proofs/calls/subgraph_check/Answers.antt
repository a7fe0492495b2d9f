-- What is judged is what the status says.

use Rattle.subgraph_c.proofs.CheckStatuses.{check_status_says}
use Rattle.subgraph_c.proofs.calls.subgraph_check.Goals as goal

pub returns : goal.returns
returns c = check_status_says c.log_laws.ensures c.answer_laws.ensures _ _ c.args.encoding.now c.args.log.now c.judge-status.ensures
