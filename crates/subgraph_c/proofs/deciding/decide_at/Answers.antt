-- What is decided of the problem that is asked is decided of the call.

use Rattle.std.proofs.Common.{rules}
use Rattle.subgraph_c.specs.Asking.{call}
use Rattle.subgraph_c.specs.Deciding.{IsInRange}
use Rattle.subgraph_c.proofs.Decided.{end_of}
use Rattle.subgraph_c.proofs.deciding.decide_at.Goals as goal

pub returns-in-Ok-clause-says : goal.returns-in-Ok-clause-says
returns-in-Ok-clause-says g c =
    let asked = call c.args.asked.now.pattern.now c.args.asked.now.target.now c.args.asked.now.options.now c.args.asked.now.less.now in
    let in_range : IsInRange asked = search rules in
    end_of c.decide_in_room_at.result asked c.args.room c.in-Ok.q c.in-Ok.ensures in_range c.decide_in_room_at.ensures.says c.decide_in_room_at.ensures.asked
