-- What check came to is what its run says.

use Rattle.subgraph_cli.proofs.Runs.{check_ran}
use Rattle.subgraph_cli.proofs.program.run_check.Goals as goal

pub returns-clause-ran : goal.returns-clause-ran
returns-clause-ran g c accounts =
    check_ran c.check-ended.result _ accounts _ _ _ _ c.check-ended.ensures.says c.check-ended.ensures.files.cause
    c.check-ended.ensures.output.spares c.check-ended.ensures.refused c.check-ended.ensures.files.quiet c.check-ended.ensures.output.quiet c.end_check.ensures.line c.end_check.ensures.status
