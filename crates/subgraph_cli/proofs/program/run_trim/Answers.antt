-- What trim came to is what its run says.

use Rattle.subgraph_cli.proofs.Runs.{trim_ran}
use Rattle.subgraph_cli.proofs.program.run_trim.Goals as goal

pub returns-clause-ran : goal.returns-clause-ran
returns-clause-ran g c accounts =
    trim_ran c.trim-ended.result _ accounts _ _ _ _ c.trim-ended.ensures.says c.trim-ended.ensures.files.cause
    c.trim-ended.ensures.output.spares c.trim-ended.ensures.refused c.trim-ended.ensures.files.quiet c.trim-ended.ensures.output.quiet c.end_trim.ensures.line c.end_trim.ensures.status
