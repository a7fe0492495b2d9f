-- What the two problems come to, whatever the seed.

use Rattle.std.specs.Prelude.{ℕ}
use Rattle.graph_theory.specs.Embedding.{Problem, Embeds, HasNone}
use Rattle.demo_instances.specs.SeedProblems.{IsPlanted, IsCycle, chosen}

-- The planted pattern embeds at the chosen vertices.
abbrev pub PlantedEmbeds : Type 0
PlantedEmbeds = (seed : ℕ) (q : Problem) → IsPlanted seed q → Embeds q (chosen seed)

-- The cycle of five does not embed in its target.
abbrev pub CycleHasNone : Type 0
CycleHasNone = (seed : ℕ) (q : Problem) → IsCycle seed q → HasNone q
