use Rattle.restart_search.proofs.Steps.{row_counted}
use Rattle.restart_search.proofs.value_choice.ValueChoice.choose.Goals as goal

pub choose-requires-clause-some : goal.choose-requires-clause-some
choose-requires-clause-some c = row_counted c.args.row.now c.requires.some.0 c.requires.some.1
