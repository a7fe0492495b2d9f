use Rattle.std.proofs.Common.{◌≡◌, ◌<◌, ◌≤◌, ◌/◌, get_or, length, subst, arith}
use Rattle.graph_theory.specs.Graph.{Graph, size}
use Rattle.pb_encoding.proofs.LineForms.{centre_at, near_form, rows_in}
use Rattle.pb_encoding.proofs.line.near_line.Goals as goal

pub overflow_cast-result : goal.overflow_cast-result
overflow_cast-result c =
    let u : c.from-targets.result ≡ size c.args.q.now.target = cc in
    let r = rows_in (length c.args.centres.now) (size c.args.q.now.target) c.args.place c.requires.inside in
    let low : get_or c.args.centres.now (c.args.place / size c.args.q.now.target) 0 < size c.args.q.now.pattern =
    (centre_at c.args.q.now c.args.centres.now (c.args.place / size c.args.q.now.target) c.requires.local c.requires.centres r.0).below in
    let few : size c.args.q.now.pattern ≤ 1024 = subst (λ (g : Graph). size g ≤ 1024) c.pattern.ensures.pattern c.pattern.ensures.few in
    rw u (omega (arith, low, few))

pub returns-clause-form : goal.returns-clause-form
returns-clause-form c =
    let u : c.from-targets.result ≡ size c.args.q.now.target = cc in
    let r = rows_in (length c.args.centres.now) (size c.args.q.now.target) c.args.place c.requires.inside in
    rw u (near_form c.args.q.now c.args.place _ r.1 (centre_at c.args.q.now c.args.centres.now (c.args.place / size c.args.q.now.target) c.requires.local c.requires.centres r.0))

pub returns-clause-vertices : goal.returns-clause-vertices
returns-clause-vertices c =
    let u : c.from-targets.result ≡ size c.args.q.now.target = cc in
    let r = rows_in (length c.args.centres.now) (size c.args.q.now.target) c.args.place c.requires.inside in
    rw u (r.1, (centre_at c.args.q.now c.args.centres.now (c.args.place / size c.args.q.now.target) c.requires.local c.requires.centres r.0).below)
