-- The command that the words are is the one that was run.

use Rattle.std.specs.Prelude.{refl}
use Rattle.subgraph_cli.proofs.Complete.{ran_of_words, memory_ran}
use Rattle.subgraph_cli.proofs.program.run_single.Goals as goal

pub returns-in-Ok-clause-ran : goal.returns-in-Ok-clause-ran
returns-in-Ok-clause-ran g c k is = ran_of_words _ _ k _ c.in-Ok.ensures.given is c.run_command.ensures.ran

pub returns-in-Err-NoMemory-clause-ran : goal.returns-in-Err-NoMemory-clause-ran
returns-in-Err-NoMemory-clause-ran g c k is =
    memory_ran k _ _ _ _ _ c.tell_stop.ensures.status refl (λ name. refl) c.tell_stop.ensures.line (record { files = refl; output = refl })
