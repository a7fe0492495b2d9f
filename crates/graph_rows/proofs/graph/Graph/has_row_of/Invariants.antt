use Rattle.std.proofs.Common.{◌≡◌, ℕ, ◌<◌}
use Rattle.graph_theory.specs.Graph.{edge}
use Rattle.graph_rows.proofs.graph.Graph.has_row_of.Given as goal

abbrev pub invariant-loop-b : goal.invariant-loop-b
invariant-loop-b l = (k : ℕ) → k < l.b → edge l.self l.a k ≡ edge l.other l.a k
