-- What was found of a batch is no command.

use Rattle.command_line.proofs.Apart.{found_apart}
use Rattle.command_line.proofs.batch.batch_of.Goals as goal

pub returns-in-Some-clause-no_command : goal.returns-in-Some-clause-no_command
returns-in-Some-clause-no_command c = found_apart _ _ c.in-Some.batch c.in-Ok.ensures.ok.0 c.in-Ok.ensures.ok.1 c.in-Some.ensures.words
