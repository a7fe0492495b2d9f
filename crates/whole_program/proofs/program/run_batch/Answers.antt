-- What a batch came to is what its run says.

use Rattle.whole_program.proofs.Statuses.{batch_ran}
use Rattle.whole_program.proofs.program.run_batch.Goals as goal

pub returns-clause-ran : goal.returns-clause-ran
returns-clause-ran g c =
    batch_ran c.text_laws.ensures c.batch-ended.result _ _ _ _ _ _ c.batch-ended.ensures.says c.batch-ended.ensures.files.cause
    c.batch-ended.ensures.output.spares c.batch-ended.ensures.files.quiet c.batch-ended.ensures.output.quiet c.end_batch.ensures.line c.end_batch.ensures.status
