-- What a demo came to is what its run says.

use Rattle.subgraph_cli.proofs.Runs.{demo_ran}
use Rattle.subgraph_cli.proofs.program.run_demo.Goals as goal

pub returns-clause-ran : goal.returns-clause-ran
returns-clause-ran g c d same =
    demo_ran c.demo-ended.result _ _ d _ _ _ c.demo-ended.ensures.says c.demo-ended.ensures.output.spares same c.demo-ended.ensures.output.quiet
    c.end_demo.ensures.line c.end_demo.ensures.status
