use Rattle.std.proofs.Common.{◌<◌, ap, sym, arith}
use Rattle.graph_theory.specs.Graph.{size}
use Rattle.graph_theory.specs.Embedding.{is_local}
use Rattle.pb_encoding.proofs.LineForms.{target_form, whole_inside, local_inside}
use Rattle.pb_encoding.proofs.line.block_line.Goals as goal

pub overflow_cast-result : goal.overflow_cast-result
overflow_cast-result c =
    let low : c.args.place < size c.args.q.now.target = whole_inside c.args.q.now c.args.place c.in-Injective.ensures.maps c.requires.inside in
    omega arith

pub returns-in-Injective-clause-form : goal.returns-in-Injective-clause-form
returns-in-Injective-clause-form c =
    target_form c.args.q.now c.args.place c.in-Injective.ensures.maps (whole_inside c.args.q.now c.args.place c.in-Injective.ensures.maps c.requires.inside)

pub returns-in-Injective-clause-vertices : goal.returns-in-Injective-clause-vertices
returns-in-Injective-clause-vertices c = (whole_inside c.args.q.now c.args.place c.in-Injective.ensures.maps c.requires.inside, tt)

pub near_line-requires-clause-local : goal.near_line-requires-clause-local
near_line-requires-clause-local c = sym (ap is_local c.in-Local.ensures.maps)

pub near_line-requires-clause-inside : goal.near_line-requires-clause-inside
near_line-requires-clause-inside c = local_inside c.args.q.now c.args.place c.args.centres.now c.in-Local.ensures.maps c.requires.centres c.requires.inside
