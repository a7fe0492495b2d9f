-- What rows of bits tell of a pattern edge and its image: whether each of them stands, and not their labels.

use Rattle.std.specs.Prelude.{ℕ, Bool, ◌&&◌, is_some}
use Rattle.graph_theory.specs.Graph.{edge}
use Rattle.graph_theory.specs.Embedding.{Problem}
use Rattle.graph_rows.specs.Labels.{agree}
use Rattle.encoding_theory.specs.Pairs.{is_open}

-- With p at t, another vertex r may go to u, labels aside.
abbrev pub may_go : Problem → ℕ → ℕ → ℕ → ℕ → Bool
may_go q p t r u =
    is_open q t u && (agree q.induced (is_some (edge q.pattern p r)) (is_some (edge q.target t u))
    && agree q.induced (is_some (edge q.pattern r p)) (is_some (edge q.target u t)))
