-- What is made is the problem of the seed.

use Rattle.std.proofs.Common.{ℕ, subst}
use Rattle.demo_instances.specs.SeedProblems.{IsPlanted}
use Rattle.subgraph_cli.proofs.demo.show_planted.Goals as goal

pub decide_planted-requires-clause-planted : goal.decide_planted-requires-clause-planted
decide_planted-requires-clause-planted g c κs within = subst (λ (seed : ℕ). IsPlanted seed c.in-Ok.q) c.requires.words c.in-Ok.ensures.planted
