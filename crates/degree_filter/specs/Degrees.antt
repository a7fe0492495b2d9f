-- What an embedding asks of degrees.

use Rattle.std.specs.Prelude.{ℕ, ◌<◌, [], ◌∷◌}
use Rattle.graph_theory.specs.Graph.{size}
use Rattle.graph_theory.specs.Embedding.{Problem}
use Rattle.graph_theory.specs.Asked.{asked_degree, room}
use Rattle.graph_theory.specs.Path.{Dead}

-- Where t has no room for the neighbours of p, no embedding sends p to t.
abbrev pub LesserDegreesAreDead : Type 0
LesserDegreesAreDead = (q : Problem) (p t : ℕ) → p < size q.pattern
    → room q t < asked_degree q p → Dead q ((p, t) ∷ [])
