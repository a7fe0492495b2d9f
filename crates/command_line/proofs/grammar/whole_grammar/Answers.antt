-- Each command that is entered is the one of its grammar.

use Rattle.command_line.specs.Grammar.{grammar}
use Rattle.command_line.proofs.grammar.whole_grammar.Goals as goal

pub returns : goal.returns
unfolding grammar
returns c = c.enter.ensures _ _ (c.enter-with_demo.ensures _ _ c.trimming.ensures c.demo_command.ensures.app) c.batch_command.ensures.app
