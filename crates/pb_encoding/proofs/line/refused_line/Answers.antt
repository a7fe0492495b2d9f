use Rattle.std.proofs.Common.{◌≡◌, ◌<◌, ◌/◌, get_or, arith}
use Rattle.graph_theory.specs.Graph.{size}
use Rattle.pb_encoding.proofs.LineForms.{refused_form}
use Rattle.pb_encoding.proofs.line.refused_line.Goals as goal

pub overflow_cast-result : goal.overflow_cast-result
overflow_cast-result c =
    let w : c.from-width.result ≡ size c.args.q.now.target = cc in
    let r : get_or c.args.numbers.now c.args.place 0 / size c.args.q.now.target < size c.args.q.now.pattern =
    (refused_form c.args.q.now c.args.numbers.now c.args.place c.requires.numbers c.requires.inside).row in
    rw w (omega arith)

pub returns-clause-form : goal.returns-clause-form
returns-clause-form c =
    let w : c.from-width.result ≡ size c.args.q.now.target = cc in
    rw w (refused_form c.args.q.now c.args.numbers.now c.args.place c.requires.numbers c.requires.inside).form

pub returns-clause-vertices : goal.returns-clause-vertices
returns-clause-vertices c =
    let w : c.from-width.result ≡ size c.args.q.now.target = cc in
    let r = refused_form c.args.q.now c.args.numbers.now c.args.place c.requires.numbers c.requires.inside in
    rw w (record { vertex = r.row; target = r.column })
