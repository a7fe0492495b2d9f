use Rattle.std.proofs.Common.{[]}
use Rattle.std.proofs.lemmas.Result.{err_from_is_err_and}
use Rattle.graph_theory.specs.Progress.{StopsAt, StopsListed, StopsVertex}
use Rattle.graph_theory.specs.declared.lad_text.LadKind.TheVariants.{LabelledLad}
use Rattle.graph_theory.specs.declared.lad_text.Place.TheVariants.{Number}
use Rattle.graph_theory.proofs.Steps.{OnWord-weaker, WentVertex-parts, StopsVertex-count, StopsVertex-listed}
use Rattle.lad_reader.specs.Parts.{with_labels}
use Rattle.lad_reader.proofs.labelled.read_vertex.Goals as goal

pub returns-in_err-due-clause-fault : goal.returns-in_err-due-clause-fault
returns-in_err-due-clause-fault c =
    let a = c.args in
    let p = err_from_is_err_and c.from_residual-in_err-due.result c.from_residual-in_err-due.ensures.1 in
    rw (p.1, p.2) (OnWord-weaker _ (StopsAt c.take.new.self [] Number) (StopsVertex LabelledLad a.size a.words.now)
    (λ w cause s. StopsVertex-count LabelledLad a.size c.in_ok-label.label _ _ w cause c.in_ok-label.ensures.ok.0 s)
    c.in_err-due.ensures.err)

pub returns-in_err-read_neighbours-clause-fault : goal.returns-in_err-read_neighbours-clause-fault
returns-in_err-read_neighbours-clause-fault c =
    let a = c.args in
    let label = c.in_ok-label.ensures.ok in
    let p = err_from_is_err_and c.from_residual-in_err-read_neighbours.result c.from_residual-in_err-read_neighbours.ensures.1 in
    rw (p.1, p.2) (OnWord-weaker _ (StopsListed LabelledLad a.size c.in_ok-due.due c.take-2.new.self) (StopsVertex LabelledLad a.size a.words.now)
    (λ w cause s. StopsVertex-listed LabelledLad a.size c.in_ok-label.label c.in_ok-due.due _ _ _ w cause label.0 c.in_ok-due.ensures.ok.0 s)
    c.in_err-read_neighbours.ensures.fault)

pub returns-clause-found : goal.returns-clause-found
returns-clause-found c =
    let a = c.args in
    WentVertex-parts LabelledLad a.size c.in_ok-label.label c.in_ok-due.due a.words.now _ c.take-2.new.self c.read_neighbours.new.words
    (with_labels c.read_neighbours.new.listed.neighbours.rest c.read_neighbours.new.listed.labels.rest) tt c.in_ok-label.ensures.ok.0 c.in_ok-due.ensures.ok.0 c.in_ok-read_neighbours.ensures.found
