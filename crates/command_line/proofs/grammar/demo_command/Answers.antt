-- Each argument that is added is the one of its grammar.

use Rattle.command_line.specs.Grammar.{demo_grammar}
use Rattle.command_line.proofs.grammar.demo_command.Goals as goal

pub returns-clause-app : goal.returns-clause-app
unfolding demo_grammar
returns-clause-app c = c.add_option.ensures.app _ (c.add_option-with_threads.ensures.app _ (c.add_positional-with_seed.ensures.app _ c.new.ensures.app))
