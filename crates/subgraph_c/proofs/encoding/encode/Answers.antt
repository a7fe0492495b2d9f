-- What is made of the problem that is asked is made of the call.

use Rattle.subgraph_c.proofs.EncodeStatuses.{made_says}
use Rattle.subgraph_c.proofs.encoding.encode.Goals as goal

pub returns-in-Ok-clause-says : goal.returns-in-Ok-clause-says
returns-in-Ok-clause-says c = made_says c.encode_problem.result _ c.in-Ok.q c.args.room c.in-Ok.ensures c.encode_problem.ensures
