use Rattle.std.proofs.Common.{map}
use Rattle.std.proofs.lemmas.Result.{err_from_is_err_and}
use Rattle.graph_theory.specs.Progress.{StopsListed, StopsVertex}
use Rattle.graph_theory.proofs.Steps.{OnWord-weaker, WentVertex-parts, StopsVertex-listed}
use Rattle.lad_reader.specs.Parts.{unlabelled}
use Rattle.lad_reader.proofs.reader.read_vertex.Goals as goal

pub returns-in_err-read_neighbours-clause-fault : goal.returns-in_err-read_neighbours-clause-fault
returns-in_err-read_neighbours-clause-fault c =
    let a = c.args in
    let label = c.in_ok-label.ensures.found in
    let p = err_from_is_err_and c.from_residual-in_err-read_neighbours.result c.from_residual-in_err-read_neighbours.ensures.1 in
    rw (p.1, p.2) (OnWord-weaker _ (StopsListed a.kind a.size c.in_ok-due.due c.take.new.self) (StopsVertex a.kind a.size a.words.now)
    (λ w cause s. StopsVertex-listed a.kind a.size c.in_ok-label.label c.in_ok-due.due _ _ _ w cause label.1 c.in_ok-due.ensures.ok.0 s)
    (c.in_err-read_neighbours.ensures.fault a.kind c.requires.kind))

pub returns-clause-found : goal.returns-clause-found
returns-clause-found c =
    let a = c.args in
    let label = c.in_ok-label.ensures.found in
    WentVertex-parts a.kind a.size c.in_ok-label.label c.in_ok-due.due a.words.now _ c.take.new.self c.read_neighbours.new.words
    (map unlabelled c.read_neighbours.new.lists.rest) label.0 label.1 c.in_ok-due.ensures.ok.0 (c.in_ok-read_neighbours.ensures.found a.kind c.requires.kind)
