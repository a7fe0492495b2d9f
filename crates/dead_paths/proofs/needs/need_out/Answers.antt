use Rattle.graph_theory.specs.Graph.{size}
use Rattle.dead_paths.proofs.Resting.{need_up}
use Rattle.dead_paths.proofs.needs.need_out.Goals as goal

pub returns : goal.returns
returns c = λ r u among off.
    need_up (size c.args.q.now.target) c.need_each.new.marked c.need_each.new.needed r u (λ u_in. c.need_each.ensures.needed r u among u_in (c.fill_without.ensures.rest u u_in off))
