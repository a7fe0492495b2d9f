-- The two accounts, one after the other, and the log of the cycle.

use Rattle.subgraph_cli.proofs.DemoStatuses.{left}
use Rattle.subgraph_cli.proofs.demo.demo.Goals as goal

pub returns-in-Ok-put-clause-says : goal.returns-in-Ok-put-clause-says
returns-in-Ok-put-clause-says g c = (
  left c.in_ok-planted.planted c.in_ok-cycle.cycle c.args.asked.now _ _ _ c.requires.empty c.in_ok-planted.ensures.shows c.in_ok-cycle.ensures.shows,
  c.in_ok-cycle.ensures.logged,
  rw c.lines_of.ensures at c.in-Ok-put.ensures.text,
)

pub returns-clause-says : goal.returns-clause-says
returns-clause-says g c = (
  c.in_ok-planted.planted,
  c.in_ok-cycle.cycle,
  left c.in_ok-planted.planted c.in_ok-cycle.cycle c.args.asked.now _ _ _ c.requires.empty c.in_ok-planted.ensures.shows c.in_ok-cycle.ensures.shows,
  c.in_ok-cycle.ensures.logged,
  rw c.lines_of.ensures at c.in-Err.ensures.text,
)
