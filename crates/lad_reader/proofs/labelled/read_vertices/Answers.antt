use Rattle.std.proofs.Common.{length-append, arith}
use Rattle.std.proofs.lemmas.Result.{err_from_is_err_and}
use Rattle.graph_theory.specs.Progress.{StopsVertex, StopsVertices}
use Rattle.graph_theory.specs.declared.lad_text.LadKind.TheVariants.{LabelledLad}
use Rattle.graph_theory.proofs.Steps.{OnWord-weaker, WentVertices-more, WentVertices-stops}
use Rattle.lad_reader.proofs.LabelledParts.{labelled_from-push}
use Rattle.lad_reader.proofs.labelled.read_vertices.Goals as goal

pub returns-in_err-label-clause-fault : goal.returns-in_err-label-clause-fault
returns-in_err-label-clause-fault c =
    let a = c.args in
    let l = c.loop-i in
    let p = err_from_is_err_and c.from_residual-in_err-label.result c.from_residual-in_err-label.ensures.1 in
    rw (p.1, p.2) (OnWord-weaker _ (StopsVertex LabelledLad a.size l.words) (StopsVertices LabelledLad a.size a.size a.words.now)
    (λ w cause s. WentVertices-stops LabelledLad a.size a.size l.i a.words.now l.words _ w cause l.invariant.went (omega arith) s)
    c.in_err-label.ensures.fault)

pub loop-i-preserved : goal.loop-i-preserved
loop-i-preserved c =
    let a = c.args in
    let l = c.loop-i in
    let label = c.in_ok-label.label in
    let read = c.read_vertex.new.listed in
    let labels = c.in_ok-push.ensures.items in
    let lists = c.in_ok-close.ensures.lists in
    let edges = c.in_ok-close.ensures.edges in
    let same = c.in_ok-label.ensures.lists in
    let same_edges = c.in_ok-label.ensures.edges in
    record {
      went = rw (
        labels,
        lists,
        edges,
        same,
        same_edges,
        labelled_from-push l.labels.items l.listed.neighbours.lists l.listed.labels.lists label read.neighbours.rest read.labels.rest l.invariant.lengths l.invariant.edges,
      )
          (WentVertices-more LabelledLad a.size l.i a.words.now l.words c.read_vertex.new.words _ _ l.invariant.went c.in_ok-label.ensures.found);
      lengths = rw (labels, lists, same) (simp length-append (omega (arith, l.invariant.lengths)));
      edges = rw (labels, edges, same_edges) (simp length-append (omega (arith, l.invariant.edges)));
      begun = c.in_ok-close.ensures.begun;
      stamped = c.in_ok-label.ensures.stamped;
    }
