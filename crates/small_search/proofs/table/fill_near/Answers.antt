use Rattle.std.proofs.Common.{ap, arith}
use Rattle.graph_theory.specs.Graph.{size}
use Rattle.small_search.specs.Placing.{AreNear}
use Rattle.small_search.proofs.Tables.{set_more}
use Rattle.small_search.proofs.table.fill_near.Goals as goal

pub loop-p-preserved : goal.loop-p-preserved
loop-p-preserved c =
    set_more (λ k w. AreNear c.args.q.now k w) c.loop-p.near c.from.result c.near_of.result c.loop-p.p c.from.ensures
    (omega (arith, c.loop-p-test.true, c.size-p-end.ensures.size, ap size c.pattern.ensures.pattern, c.requires.small.pattern, c.requires.long, c.loop-p.auto.near))
    c.loop-p.invariant c.near_of.ensures
