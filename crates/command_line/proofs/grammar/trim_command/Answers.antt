-- Each argument that is added is the one of its grammar.

use Rattle.command_line.specs.Grammar.{trim_grammar}
use Rattle.command_line.proofs.grammar.trim_command.Goals as goal

pub returns-clause-app : goal.returns-clause-app
unfolding trim_grammar
returns-clause-app c = c.add_positional.ensures.app _ (c.add_positional-with_log.ensures.app _ (c.add_positional-with_encoding.ensures.app _ c.new.ensures.app))
