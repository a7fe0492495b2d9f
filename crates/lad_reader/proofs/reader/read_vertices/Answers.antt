use Rattle.std.proofs.Common.{length-append, arith}
use Rattle.std.proofs.lemmas.Result.{err_from_is_err_and}
use Rattle.graph_theory.specs.Progress.{StopsVertex, StopsVertices}
use Rattle.graph_theory.proofs.Steps.{OnWord-weaker, WentVertices-more, WentVertices-stops}
use Rattle.lad_reader.proofs.VertexParts.{vertices_from-push}
use Rattle.lad_reader.proofs.reader.read_vertices.Goals as goal

pub returns-in_err-label-clause-fault : goal.returns-in_err-label-clause-fault
returns-in_err-label-clause-fault c =
    let a = c.args in
    let l = c.loop-i in
    let p = err_from_is_err_and c.from_residual-in_err-label.result c.from_residual-in_err-label.ensures.1 in
    rw (p.1, p.2) (OnWord-weaker _ (StopsVertex a.kind a.size l.words) (StopsVertices a.kind a.size a.size a.words.now)
    (λ w cause s. WentVertices-stops a.kind a.size a.size l._i a.words.now l.words _ w cause l.invariant.went (omega arith) s)
    c.in_err-label.ensures.fault)

pub loop-i-preserved : goal.loop-i-preserved
loop-i-preserved c =
    let a = c.args in
    let l = c.loop-i in
    let label = c.in_ok-label.label in
    let labels = c.in_ok-push.ensures.items in
    let lists = c.in_ok-close.ensures.lists in
    let same = c.in_ok-label.ensures.lists in
    record {
      went = rw (labels, lists, same, vertices_from-push l.labels.items l.lists.lists label c.read_vertex.new.lists.rest l.invariant.lengths)
          (WentVertices-more a.kind a.size l._i a.words.now l.words c.read_vertex.new.words _ _ l.invariant.went c.in_ok-label.ensures.found);
      lengths = rw (labels, lists, same) (simp length-append (omega (arith, l.invariant.lengths)));
      begun = c.in_ok-close.ensures.rest;
    }
