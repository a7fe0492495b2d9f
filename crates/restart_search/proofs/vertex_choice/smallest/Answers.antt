use Rattle.restart_search.proofs.Choosing.{looked_more, looked_all}
use Rattle.restart_search.proofs.vertex_choice.smallest.Goals as goal

pub returns : goal.returns
returns g c =
    looked_all _ c.args.d.now c.members-members.result.now c.args.undecided.now _ c.loop-k.k c.requires.is_of c.requires.quiet c.requires.left c.members-members.ensures.all c.loop-k-test.false
    c.loop-k.invariant

pub loop-k-preserved : goal.loop-k-preserved
loop-k-preserved g c = looked_more _ _ _ _ _ _ c.loop-k.invariant c.better-best.ensures.some c.better-best.ensures.next c.better-best.ensures.none
