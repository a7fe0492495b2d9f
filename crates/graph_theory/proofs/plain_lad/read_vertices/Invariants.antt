use Rattle.graph_theory.specs.Progress.{WentVertices}
use Rattle.graph_theory.proofs.plain_lad.read_vertices.Given as goal

abbrev pub invariant-loop-i : goal.invariant-loop-i
invariant-loop-i l = WentVertices l.kind l.size l._i l.fn.left l.left l.vertices.items
