-- The batch that the words are is the one that was run, and words that are one are no command for one problem.

use Rattle.std.specs.Prelude.{◌≡◌, Some, None, refl}
use Rattle.std.proofs.Common.{sym, ◌∙◌}
use Rattle.subgraph_cli.proofs.Told.{keeps_but}
use Rattle.subgraph_cli.proofs.Complete.{memory_ran}
use Rattle.whole_program.proofs.Statuses.{ran_of_batch, batch_memory_ran}
use Rattle.whole_program.proofs.program.run.Goals as goal

pub returns-in-Ok-clause-batch : goal.returns-in-Ok-clause-batch
returns-in-Ok-clause-batch g c w is = ran_of_batch _ _ w _ c.in-Ok.ensures.given is c.run_batch.ensures.ran

pub returns-in-Ok-clause-ran : goal.returns-in-Ok-clause-ran
returns-in-Ok-clause-ran g c k is = let no : None ≡ Some k = sym c.in-Ok.ensures.no_command ∙ is in cc

pub returns-in-Ok-clause-files : goal.returns-in-Ok-clause-files
returns-in-Ok-clause-files g c = keeps_but _ _ _ _ _ _ c.run_batch.ensures.files

pub returns-in-Err-NoMemory-clause-ran : goal.returns-in-Err-NoMemory-clause-ran
returns-in-Err-NoMemory-clause-ran g c k is =
    memory_ran k _ _ _ _ _ c.tell_stop.ensures.status refl (λ name. refl) c.tell_stop.ensures.line (record { files = refl; output = refl })
