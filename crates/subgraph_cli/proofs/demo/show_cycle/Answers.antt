-- What is made is the problem of the seed.

use Rattle.std.proofs.Common.{ℕ, subst}
use Rattle.demo_instances.specs.SeedProblems.{IsCycle}
use Rattle.subgraph_cli.proofs.demo.show_cycle.Goals as goal

pub decide_cycle-requires-clause-cycle : goal.decide_cycle-requires-clause-cycle
decide_cycle-requires-clause-cycle g c κs within = subst (λ (seed : ℕ). IsCycle seed c.in-Ok.q) c.requires.words c.in-Ok.ensures.cycle
