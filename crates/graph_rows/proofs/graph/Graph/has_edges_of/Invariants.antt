use Rattle.std.proofs.Common.{◌≡◌, ℕ, ◌<◌}
use Rattle.graph_theory.specs.Graph.{edge, size}
use Rattle.graph_rows.proofs.graph.Graph.has_edges_of.Given as goal

abbrev pub invariant-loop-a : goal.invariant-loop-a
invariant-loop-a l = (k b : ℕ) → k < l.a → b < size l.self → edge l.self k b ≡ edge l.other k b
