use Rattle.std.proofs.Common.{◌≡◌, false, refl, arith, rules}
use Rattle.std.proofs.lemmas.Option.{slice_get_within}
use Rattle.graph_theory.specs.Graph.{size}
use Rattle.recorder.specs.declared.change.Cause.TheVariants as cause
use Rattle.recorder.specs.Recording.{LeftOne}
use Rattle.recorder.specs.Telling.{end_beside}
use Rattle.dead_paths.proofs.Resting.{pass_value, step_order}
use Rattle.dead_paths.proofs.takes.by_order.Goals as goal

pub returns-then-not-take_value : goal.returns-then-not-take_value
returns-then-not-take_value c = λ rows path from.
    let no : c.take_value.result ≡ false = search rules in
    pass_value c.args.q.now rows path (LeftOne c.args.lost.r (cause.Order c.args.lost.k c.args.lost.u c.args.lost.side) from) (size c.args.q.now.target) c.args.marked.now c.take_value.new.marked c.args.needed.now c.take_value.new.needed c.args.lost.r c.args.lost.u
    refl (λ v t takes. takes) (c.take_value.ensures.none no) (c.take_value.ensures.stays no)

pub end_beside_of-beside-requires : goal.end_beside_of-beside-requires
end_beside_of-beside-requires c = slice_get_within c.args.q.now.less c.args.lost.k c.requires.end.pair c.requires.end.pair_is

pub need_set-requires-clause-r_in : goal.need_set-requires-clause-r_in
need_set-requires-clause-r_in c =
    let e : c.end_beside_of-beside.result ≡ end_beside c.args.lost.side c.requires.end.pair = c.end_beside_of-beside.ensures c.requires.end.pair c.requires.end.pair_is in
    omega (arith, e, c.requires.end.other_in, c.requires.size, c.take_value.auto.marked)

pub returns : goal.returns
returns c = λ rows path from.
    step_order c.args.q.now rows path (size c.args.q.now.target) c.count_values.result c.args.marked.now c.take_value.new.marked c.need_set.new.marked c.args.needed.now c.take_value.new.needed c.need_set.new.rows
    c.args.lost.k c.args.lost.u c.args.lost.r from c.end_beside_of-beside.result c.args.lost.side c.fill_on_side.new.row refl c.count_values.ensures.is c.take_value.ensures.left c.need_set.ensures.stays
    c.end_beside_of-beside.ensures c.fill_on_side.ensures c.need_set.ensures.needed
