use Rattle.std.proofs.lemmas.Result.{err_from_is_err_and}
use Rattle.graph_theory.specs.Progress.{StopsListed, StopsVertex}
use Rattle.graph_theory.proofs.Steps.{OnWord-weaker, StopsVertex-listed}
use Rattle.graph_theory.proofs.plain_lad.read_vertex.Goals as goal

pub returns-in_err-listed-clause-fault : goal.returns-in_err-listed-clause-fault
returns-in_err-listed-clause-fault c =
    let a = c.args in
    let label = c.in_ok-label.ensures.found in
    let p = err_from_is_err_and c.from_residual-in_err-listed.result c.from_residual-in_err-listed.ensures.1 in
    rw (p.1, p.2) (OnWord-weaker _ (StopsListed a.kind a.size c.in_ok-due.due c.take.new.self) (StopsVertex a.kind a.size a.left.now)
    (λ w cause s. StopsVertex-listed a.kind a.size c.in_ok-label.label c.in_ok-due.due _ _ _ w cause label.1 c.in_ok-due.ensures.ok.0 s)
    c.in_err-listed.ensures.fault)
