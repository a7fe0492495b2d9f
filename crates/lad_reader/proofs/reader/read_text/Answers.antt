use Rattle.std.proofs.Common.{[], ap}
use Rattle.std.proofs.lemmas.Result.{err_from_is_err_and}
use Rattle.graph_theory.specs.Text.{words}
use Rattle.graph_theory.specs.LadFault.{Fault}
use Rattle.graph_theory.specs.Progress.{At, StopsAt, StopsVertices}
use Rattle.graph_theory.specs.declared.lad_text.Place.TheVariants.{Size, End}
use Rattle.graph_theory.proofs.Steps.{OnWord-weaker, Fault-size, Fault-vertices, Fault-end}
use Rattle.lad_reader.specs.Parts.{vertices_of}
use Rattle.lad_reader.proofs.reader.read_text.Goals as goal

pub returns-in_err-size-clause-fault : goal.returns-in_err-size-clause-fault
returns-in_err-size-clause-fault c =
    let ws = words c.args.bytes.now in
    let start = c.new-words.ensures in
    let p = err_from_is_err_and c.from_residual.result c.from_residual.ensures.1 in
    rw (p.1, p.2) (OnWord-weaker _ (StopsAt c.new-words.result [] (Size c.args.most)) (Fault ws c.args.kind c.args.most)
    (λ w cause s. Fault-size ws c.args.kind c.args.most _ w cause (ap (λ (a : At). a.0) start) (ap (λ (a : At). a.1) start) s)
    c.in_err-size.ensures.err)

pub returns-in_err-parts-clause-fault : goal.returns-in_err-parts-clause-fault
returns-in_err-parts-clause-fault c =
    let ws = words c.args.bytes.now in
    let start = c.new-words.ensures in
    let size = c.in_ok-size in
    let p = err_from_is_err_and c.from_residual-in_err-parts.result c.from_residual-in_err-parts.ensures.1 in
    rw (p.1, p.2) (OnWord-weaker _ (StopsVertices c.args.kind size.size size.size c.take.new.self) (Fault ws c.args.kind c.args.most)
    (λ w cause s. Fault-vertices ws c.args.kind c.args.most size.size c.new-words.result c.take.new.self w cause
    (ap (λ (a : At). a.0) start) (ap (λ (a : At). a.1) start) size.ensures.ok.0 size.ensures.ok.1 s)
    c.in_err-parts.ensures.fault)

pub returns-in_err-finish-clause-fault : goal.returns-in_err-finish-clause-fault
returns-in_err-finish-clause-fault c =
    let ws = words c.args.bytes.now in
    let start = c.new-words.ensures in
    let size = c.in_ok-size in
    let p = err_from_is_err_and c.from_residual-in_err-finish.result c.from_residual-in_err-finish.ensures.1 in
    rw (p.1, p.2) (OnWord-weaker _ (StopsAt c.read_parts.new.words [] End) (Fault ws c.args.kind c.args.most)
    (λ w cause s. Fault-end ws c.args.kind c.args.most size.size c.new-words.result c.take.new.self c.read_parts.new.words (vertices_of c.in_ok-parts.parts) w cause
    (ap (λ (a : At). a.0) start) (ap (λ (a : At). a.1) start) size.ensures.ok.0 size.ensures.ok.1 c.in_ok-parts.ensures.found s)
    c.in_err-finish.ensures.err)
