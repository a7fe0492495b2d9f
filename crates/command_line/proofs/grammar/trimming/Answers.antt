-- The command that is entered is the one of its grammar.

use Rattle.command_line.specs.Grammar.{trimming}
use Rattle.command_line.proofs.grammar.trimming.Goals as goal

pub returns : goal.returns
unfolding trimming
returns c = c.enter.ensures _ _ c.reading.ensures c.trim_command.ensures.app
