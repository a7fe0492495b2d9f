use Rattle.std.proofs.Common.{◌∙◌, ◌<◌, ap, sym, subst}
use Rattle.graph_theory.specs.Graph.{Graph, size}
use Rattle.graph_theory.specs.Blocks.{has_block}
use Rattle.dead_paths.proofs.Resting.{centre_below}
use Rattle.dead_paths.proofs.sets.is_member.Goals as goal

pub is_near-requires-clause-a_in : goal.is_near-requires-clause-a_in
is_near-requires-clause-a_in c = subst (λ (g : Graph). c.in-Some.c < size g) (sym c.pattern.ensures.pattern)
    (centre_below c.args.q.now c.in-Some.c (sym (ap (has_block c.args.q.now) c.in-Some.is) ∙ c.requires.exists))
