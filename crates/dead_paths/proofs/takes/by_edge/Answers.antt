use Rattle.std.proofs.Common.{◌≡◌, false, refl, rules}
use Rattle.graph_theory.specs.Graph.{size}
use Rattle.recorder.specs.declared.change.Cause.TheVariants as cause
use Rattle.recorder.specs.Recording.{LeftOne}
use Rattle.dead_paths.proofs.Resting.{pass_value, step_edge}
use Rattle.dead_paths.proofs.takes.by_edge.Goals as goal

pub returns-then-not-take_value : goal.returns-then-not-take_value
returns-then-not-take_value c = λ rows path from.
    let no : c.take_value.result ≡ false = search rules in
    pass_value c.args.q.now rows path (LeftOne c.args.lost.r (cause.Edge c.args.lost.p c.args.lost.u c.args.lost.direction) from) (size c.args.q.now.target) c.args.marked.now c.take_value.new.marked c.args.needed.now c.take_value.new.needed c.args.lost.r c.args.lost.u
    refl (λ v t takes. takes) (c.take_value.ensures.none no) (c.take_value.ensures.stays no)

pub returns : goal.returns
returns c = λ rows path from.
    step_edge c.args.q.now rows path (size c.args.q.now.target) c.count_values.result c.args.marked.now c.take_value.new.marked c.need_set.new.marked c.args.needed.now c.take_value.new.needed c.need_set.new.rows
    c.args.lost.p c.args.lost.u c.args.lost.r from c.args.lost.direction c.fill_support.new.set refl c.count_values.ensures.is c.take_value.ensures.left c.need_set.ensures.stays
    c.fill_support.ensures c.need_set.ensures.needed
