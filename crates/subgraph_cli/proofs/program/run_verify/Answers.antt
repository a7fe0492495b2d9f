-- What verify came to is what its run says.

use Rattle.subgraph_cli.proofs.Runs.{verify_ran}
use Rattle.subgraph_cli.proofs.program.run_verify.Goals as goal

pub returns-clause-ran : goal.returns-clause-ran
returns-clause-ran g c accounts =
    verify_ran c.text_laws.ensures c.mapping_laws.ensures c.verify-ended.result _ accounts _ _ _ _ c.verify-ended.ensures.says c.verify-ended.ensures.files.cause
    c.verify-ended.ensures.output.spares c.verify-ended.ensures.bad c.verify-ended.ensures.files.quiet c.verify-ended.ensures.output.quiet c.end_verify.ensures.line c.end_verify.ensures.status
