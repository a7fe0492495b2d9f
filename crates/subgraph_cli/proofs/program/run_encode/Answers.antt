-- What encode came to is what its run says.

use Rattle.subgraph_cli.proofs.Runs.{encode_ran}
use Rattle.subgraph_cli.proofs.program.run_encode.Goals as goal

pub returns-clause-ran : goal.returns-clause-ran
returns-clause-ran g c accounts =
    encode_ran c.text_laws.ensures c.encode-ended.result _ accounts _ _ _ _ c.encode-ended.ensures.says c.encode-ended.ensures.files.cause
    c.encode-ended.ensures.output.spares c.encode-ended.ensures.files.quiet c.encode-ended.ensures.output.quiet c.end_encode.ensures.line c.end_encode.ensures.status
