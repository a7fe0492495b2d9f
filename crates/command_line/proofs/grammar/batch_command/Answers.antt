-- Each argument that is added is the one of its grammar.

use Rattle.command_line.specs.Grammar.{batch_grammar}
use Rattle.command_line.proofs.grammar.batch_command.Goals as goal

pub returns-clause-app : goal.returns-clause-app
unfolding batch_grammar
returns-clause-app c =
    c.add_option.ensures.app _ (c.add_search-with_search.ensures.app _ (c.add_option-with_format.ensures.app _ (c.add_positional-with_list.ensures.app _ c.new.ensures.app)))
