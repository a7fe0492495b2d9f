use Rattle.std.proofs.Common.{◌≡◌, false, refl, rules}
use Rattle.graph_theory.specs.Graph.{size}
use Rattle.recorder.specs.Recording.{LeftOver}
use Rattle.dead_paths.proofs.Resting.{pass_value, step_crowd}
use Rattle.dead_paths.proofs.takes.by_crowd.Goals as goal

pub returns-then-not-take_value : goal.returns-then-not-take_value
returns-then-not-take_value c = λ rows path from.
    let no : c.take_value.result ≡ false = search rules in
    pass_value c.args.q.now rows path (LeftOver c.args.crowd.now.p c.args.crowd.now.t c.args.crowd.now.direction c.args.crowd.now.vertices.now c.args.crowd.now.values.now from) (size c.args.q.now.target) c.args.marked.now c.take_value.new.marked c.args.needed.now c.take_value.new.needed c.args.crowd.now.p c.args.crowd.now.t
    refl (λ v t takes. takes) (c.take_value.ensures.none no) (c.take_value.ensures.stays no)

pub returns : goal.returns
returns c = λ rows path from.
    step_crowd c.args.q.now rows path (size c.args.q.now.target) c.args.marked.now c.take_value.new.marked c.need_each.new.marked c.args.needed.now c.take_value.new.needed c.need_each.new.needed c.args.crowd.now.p c.args.crowd.now.t from c.args.crowd.now.direction
    c.args.crowd.now.vertices.now c.args.crowd.now.values.now c.fill_beside.new.row refl c.take_value.ensures.left c.need_each.ensures.stays c.fill_beside.ensures c.need_each.ensures.needed
