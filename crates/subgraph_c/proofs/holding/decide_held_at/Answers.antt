-- What is refused of a call is refused whatever the target's text is.

use Rattle.std.proofs.Common.{rules}
use Rattle.subgraph_c.specs.Holding.{HasFormat}
use Rattle.subgraph_c.proofs.holding.decide_held_at.Goals as goal

pub returns-in-Err-clause-says : goal.returns-in-Err-clause-says
returns-in-Err-clause-says g c =
    let format : HasFormat c.args.asked.now.options.now c.args.target = search rules in
    record { other = λ bad. absurd (bad format); same = λ f text is_text. c.in-Err.ensures.says text c.args.room }
