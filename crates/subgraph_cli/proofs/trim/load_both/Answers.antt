-- The log is read after the model.

use Rattle.std.proofs.Common.{inl, inr}
use Rattle.subgraph_cli.proofs.Leaving.{cause_of_more, reads_other, reads_stop, reads_then}
use Rattle.subgraph_cli.proofs.trim.load_both.Goals as goal

pub returns-in_err-model-clause-files : goal.returns-in_err-model-clause-files
returns-in_err-model-clause-files g c = reads_stop c.from_residual.ensures.1 c.in_err-model.ensures.files (cause_of_more _ _ _ _ inl)

pub returns-in_err-log-clause-files : goal.returns-in_err-log-clause-files
returns-in_err-log-clause-files g c =
    reads_stop c.from_residual-in_err-log.ensures.1 (reads_then c.in_ok-model.ensures.files c.in_err-log.ensures.files)
    (cause_of_more _ _ _ _ (λ at. inr (at, λ told. (c.in_ok-model.model, c.in_ok-model.ensures.says told))))

pub returns-clause-files : goal.returns-clause-files
returns-clause-files g c = reads_other (reads_then c.in_ok-model.ensures.files c.in_ok-log.ensures.files) tt
