-- What the search of a small problem says.

use Rattle.std.specs.Prelude.{}
use Rattle.graph_theory.specs.Embedding.{Problem, Embeds, HasNone}
use Rattle.small_search.specs.declared.SmallAnswer.{SmallAnswer}
use Rattle.small_search.specs.declared.SmallAnswer.TheVariants.{Yes, NoEmbedding, Open}

-- The map embeds, or none exists, or nothing is said.
abbrev pub IsAnswer : SmallAnswer → Problem → Type 0
IsAnswer (Yes m) q = Embeds q m.items
IsAnswer NoEmbedding q = HasNone q
IsAnswer Open q = Unit {0}
