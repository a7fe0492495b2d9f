-- What solve came to is what its run says.

use Rattle.subgraph_cli.proofs.Runs.{solve_ran}
use Rattle.subgraph_cli.proofs.program.run_solve.Goals as goal

pub returns-clause-ran : goal.returns-clause-ran
returns-clause-ran g c =
    solve_ran c.text_laws.ensures c.solve-ended.result _ _ _ _ _ _ c.solve-ended.ensures.says c.solve-ended.ensures.files.cause
    c.solve-ended.ensures.output.spares c.solve-ended.ensures.files.quiet c.solve-ended.ensures.output.quiet c.end_solve.ensures.line c.end_solve.ensures.status
