-- Vertices that share neighbours, and what an embedding asks of them.

use Rattle.std.specs.Prelude.{ℕ, ◌<◌, ◌==◌, nat_lt, Bool, ◌&&◌, not, [], ◌∷◌}
use Rattle.graph_theory.specs.Graph.{Graph, size}
use Rattle.graph_theory.specs.Embedding.{Problem}
use Rattle.graph_theory.specs.Path.{Dead}
use Rattle.graph_theory.specs.Neighbours.{common}
use Rattle.graph_theory.specs.Asked.{asked_shared}

-- Another vertex than t that shares at least c neighbours with it.
abbrev pub shares : Graph → ℕ → ℕ → ℕ → Bool
shares g t c u = nat_lt u (size g) && not (u == t) && not (nat_lt (common g t u) c)

-- Where t and u share fewer neighbours than is asked of p and r, no embedding sends p to t and r to u.
abbrev pub TooFewAreDead : Type 0
TooFewAreDead = (q : Problem) (p r t u : ℕ) → p < size q.pattern → r < size q.pattern
    → common q.target t u < asked_shared q p r → Dead q ((p, t) ∷ (r, u) ∷ [])
