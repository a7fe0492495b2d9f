use Rattle.std.proofs.Common.{ℕ, List, [], subst, arith}
use Rattle.std.proofs.lemmas.Result.{err_from_is_err_and}
use Rattle.graph_theory.specs.Progress.{StopsAt, MayFollow, StopsAtLabel, StopsListed}
use Rattle.graph_theory.specs.declared.lad_text.Place.TheVariants.{Neighbour}
use Rattle.graph_theory.proofs.Steps.{OnWord-weaker, WentListed-more, WentListed-stops, WentListed-label_stops}
use Rattle.graph_theory.proofs.plain_lad.read_listed.Goals as goal

pub returns-in_err-neighbour-clause-fault : goal.returns-in_err-neighbour-clause-fault
returns-in_err-neighbour-clause-fault c =
    let a = c.args in
    let l = c.loop-i in
    let p = err_from_is_err_and c.from_residual.result c.from_residual.ensures.1 in
    rw (p.1, p.2) (OnWord-weaker _ (StopsAt l.left [] (Neighbour a.size)) (StopsListed a.kind a.size a.due a.left.now)
    (λ w cause s. WentListed-stops a.kind a.size a.due l._i a.left.now l.left l.listed.items w cause l.invariant (omega arith) s)
    c.in_err-neighbour.ensures.err)

pub returns-in_err-label-clause-fault : goal.returns-in_err-label-clause-fault
returns-in_err-label-clause-fault c =
    let a = c.args in
    let l = c.loop-i in
    let taken = c.in_ok-neighbour.ensures.ok in
    let p = err_from_is_err_and c.from_residual-in_err-label.result c.from_residual-in_err-label.ensures.1 in
    rw (p.1, p.2) (OnWord-weaker _ (StopsAtLabel a.kind c.deref.result.now c.in_ok-neighbour.neighbour c.take.new.self) (StopsListed a.kind a.size a.due a.left.now)
    (λ w cause s. WentListed-label_stops a.kind a.size a.due l._i a.left.now l.left c.take.new.self l.listed.items c.in_ok-neighbour.neighbour w cause l.invariant (omega arith)
    taken.0 taken.1 (subst (λ (es : List (ℕ × ℕ)). StopsAtLabel a.kind es c.in_ok-neighbour.neighbour c.take.new.self w cause) c.deref.ensures.value s))
    c.in_err-label.ensures.fault)

pub loop-i-preserved : goal.loop-i-preserved
loop-i-preserved c =
    let a = c.args in
    let l = c.loop-i in
    let taken = c.in_ok-neighbour.ensures.ok in
    let labelled = c.in_ok-label.ensures.found in
    let more = WentListed-more a.kind a.size l._i a.left.now l.left c.take.new.self c.read_edge_label.new.left l.listed.items c.in_ok-neighbour.neighbour c.in_ok-label.label
    l.invariant taken.0 taken.1 labelled.1 (subst (λ (es : List (ℕ × ℕ)). MayFollow a.kind es c.in_ok-neighbour.neighbour c.in_ok-label.label) c.deref.ensures.value labelled.0) in
    rw c.in_ok-push.ensures.items more
