-- Each command that is entered is the one of its grammar.

use Rattle.command_line.specs.Grammar.{reading}
use Rattle.command_line.proofs.grammar.reading.Goals as goal

pub returns : goal.returns
unfolding reading
returns c = c.enter.ensures _ _ (c.enter-with_encode.ensures _ _ c.answering.ensures c.encode_command.ensures.app) c.check_command.ensures.app
