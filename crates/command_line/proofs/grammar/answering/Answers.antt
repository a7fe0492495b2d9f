-- Each command that is entered is the one of its grammar.

use Rattle.std.proofs.Common.{◌∙◌, ap}
use Rattle.command_line.specs.Grammar.{answering, quiet}
use Rattle.command_line.proofs.grammar.answering.Goals as goal

pub returns : goal.returns
unfolding answering
returns c = c.enter.ensures _ _ (c.enter-with_solve.ensures _ _ (c.quiet-none.ensures ∙ ap quiet c.new.ensures.app) c.solve_command.ensures.app) c.verify_command.ensures.app
