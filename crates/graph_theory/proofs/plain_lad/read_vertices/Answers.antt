use Rattle.graph_theory.proofs.Steps.{WentVertices-more}
use Rattle.graph_theory.proofs.plain_lad.read_vertices.Goals as goal

pub loop-i-preserved : goal.loop-i-preserved
loop-i-preserved c =
    let a = c.args in
    let l = c.loop-i in
    rw c.in_ok-push.ensures.items
    (WentVertices-more a.kind a.size l._i a.left.now l.left c.read_vertex.new.left l.vertices.items _ l.invariant c.in_ok-read_vertex.ensures.found)
