use Rattle.std.proofs.Common.{◌≡◌, false, refl, rules}
use Rattle.graph_theory.specs.Graph.{size}
use Rattle.dead_paths.proofs.Resting.{pass_set, step_set}
use Rattle.dead_paths.proofs.sets.by_set.Goals as goal

pub returns-then-not-take_others : goal.returns-then-not-take_others
returns-then-not-take_others c = λ rows path from.
    let no : c.take_others.result ≡ false = search rules in
    pass_set c.args.q.now rows path (size c.args.q.now.target) c.args.marked.now c.take_others.new.marked c.args.needed.now c.take_others.new.needed c.args.counted.now.centre c.args.counted.now.vertices.now c.args.counted.now.values.now c.fill_without.new.row from refl c.fill_without.ensures.out
    (c.take_others.ensures.inside no) (c.take_others.ensures.stays no)

pub returns : goal.returns
returns c = λ rows path from.
    step_set c.args.q.now rows path (size c.args.q.now.target) c.args.marked.now c.take_others.new.marked c.need_each.new.marked c.args.needed.now c.take_others.new.needed c.need_each.new.needed c.args.counted.now.centre c.args.counted.now.vertices.now c.args.counted.now.values.now c.fill_without.new.row from
    c.requires.size c.fill_without.ensures.rest c.take_others.ensures.left c.need_each.ensures.stays c.need_each.ensures.needed
